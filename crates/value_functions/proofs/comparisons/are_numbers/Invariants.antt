use Rattle.std.proofs.Common.{◌≡◌, drop}
use Rattle.std.specs.List.{list_all}
use Rattle.lisp_operators.specs.EvaluationAnswers.{objects}
use Rattle.value_functions.specs.Comparisons.{is_number}
use Rattle.value_functions.proofs.comparisons.are_numbers.Given as goal

abbrev pub invariant-values : goal.invariant-values
invariant-values l = list_all is_number (objects (drop l.datum-index l.values)) ≡ list_all is_number (objects l.values)
