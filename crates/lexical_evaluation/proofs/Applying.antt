-- FUNCALL of what is no function.
--     refused_callee      the refusal is that of the form
use Rattle.std.proofs.Common.{◌≡◌, List, ◌++◌, Option, Some, option_to_list, Err, ap, ◌∙◌}
use Rattle.lisp_object.specs.declared.datum.Datum.{Datum}
use Rattle.lisp_object.specs.Datum.{object_of}
use Rattle.lisp_operators.specs.declared.error.EvaluationError.{EvaluationError}
use Rattle.lisp_operators.specs.declared.error.EvaluationError.TheVariants.{Refused, OutOfMemory}
use Rattle.lexical_evaluation.specs.declared.machine.Machine.{Machine}
use Rattle.lexical_evaluation.specs.Values.{applied_in, value_in}
use Rattle.lexical_evaluation.specs.Machine.{StepsOn, comes_to, around, point_of, to_come}
use Rattle.lexical_evaluation.specs.Ways.{IsCallee}
use Rattle.lexical_evaluation.proofs.Steps.{next_of}
use Rattle.lexical_evaluation.proofs.Callees.{applied_refused}
use Rattle.lexical_evaluation.proofs.Continuing.{refused}

pub refused_callee : (old new : Machine) (items others : List Datum) (result : Option Datum) (form : Datum) (error : EvaluationError) → items ≡ others ++ option_to_list result → result ≡ Some form → IsCallee (object_of form) (Err error)
    → StepsOn old new (Err error) (λ does rules seen p. applied_in rules seen p (to_come items))
refused_callee old new items others result form (Refused code) same is are = λ w s.
    let rules = w.rules old.deeper in
    let p = point_of old s in
    ap (comes_to w old)
    (ap (applied_in rules (around old) p) (next_of items others result form same is)
    ∙ applied_refused rules (around old) p (object_of form) (to_come others) code (are (value_in rules (around old) p (object_of form)) rules (around old) p))
    ∙ refused w old code
refused_callee old new items others result form OutOfMemory same is are = λ w s. tt
