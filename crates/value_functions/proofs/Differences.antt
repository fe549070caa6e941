-- The difference of one integer is what is left when it is taken from 0.
use Rattle.std.proofs.Common.{pos, List, [], ◌∷◌, map, length, ◌≤◌, ◌<◌, Result, arith}
use Rattle.lisp_object.specs.declared.datum.Datum.{Datum}
use Rattle.lisp_operators.specs.declared.error.EvaluationError.{EvaluationError}
use Rattle.lisp_operators.specs.EvaluationAnswers.{objects}
use Rattle.value_functions.specs.declared.functions.Arithmetic.TheVariants.{Minus}
use Rattle.value_functions.specs.Arithmetic.{integer_in, from_left, result_of}
use Rattle.value_functions.specs.FunctionAnswers.{AnswersValue}

pub of_one : (answer : Result Datum EvaluationError) (values : List Datum) → 1 ≤ length values → length values < 2
    → AnswersValue answer (from_left Minus (pos 0) (map integer_in (objects values)))
    → AnswersValue answer (result_of Minus (map integer_in (objects values)))
of_one answer [] some few is = absurd (omega (arith, some))
of_one answer (x ∷ []) some few is = is
of_one answer (x ∷ y ∷ more) some few is = absurd (omega (arith, few))
