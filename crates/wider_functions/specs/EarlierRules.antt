-- The rules of the programs that wrote version 2 with some operators of the package PAZTURROK, and not all.
use Rattle.std.specs.Prelude.{false, true}
use Rattle.gate_log.specs.Layout.{form_limit}
use Rattle.evaluator.specs.EarlierOperators.{operators_before_deciding, operators_before_places}
use Rattle.prevalence_store.specs.meaning.Acceptance.{Rules}

-- before AND and its like: functions of values
abbrev pub rules_before_deciding : Rules
rules_before_deciding = record { text_limit = form_limit; based = true; operators = operators_before_deciding; forgets = false }

-- before FIND-SYMBOL, DECF and their like
abbrev pub rules_before_places : Rules
rules_before_places = record { text_limit = form_limit; based = true; operators = operators_before_places; forgets = false }
