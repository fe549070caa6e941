-- Earlier rules of programs that wrote version 2.
use Rattle.std.specs.Prelude.{false, true}
use Rattle.gate_log.specs.Layout.{form_limit}
use Rattle.evaluator.specs.Operators.{operator_of, standard_operator_of}
use Rattle.prevalence_store.specs.meaning.Acceptance.{Rules}

-- before the package PAZTURROK had operators: only symbols of COMMON-LISP were
abbrev pub rules_before_operators : Rules
rules_before_operators = record { text_limit = form_limit; based = true; operators = standard_operator_of; forgets = false }

-- before FORGET-NAMES
abbrev pub rules_before_forgetting : Rules
rules_before_forgetting = record { text_limit = form_limit; based = true; operators = operator_of; forgets = false }
