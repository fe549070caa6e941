use Rattle.std.proofs.Common.{Vec, Global, All, sym, subst}
use Rattle.lisp_object.specs.declared.datum.Datum.{Datum}
use Rattle.lisp_operators.specs.EvaluationAnswers.{IsArgument}
use Rattle.lisp_operators.proofs.PlaceSteps.{inserted_arguments}
use Rattle.lisp_operators.proofs.places.with_default.Goals as goal
use Rattle.lisp_operators.proofs.places.with_default.Goals.{then-not-has_default+then-len-ge2+in_ok-empty_list+in_ok-insert, else-not-has_default}

pub returns-clause-arguments : goal.returns-clause-arguments
returns-clause-arguments c = elim c.if-not-has_default.branch [
  | then-not-has_default+then-len-ge2+in_ok-empty_list+in_ok-insert w ↦ λ u sound all.
      subst (λ (v : Vec Datum Global). All (IsArgument u) v.items) (sym w.values-is)
      (subst (All (IsArgument u)) (sym w.in_ok-insert.ensures.items)
      (inserted_arguments u c.args.values.items w.in_ok-empty_list.field-0 sound w.in_ok-empty_list.ensures.value w.in_ok-empty_list.ensures.proper all))
  | else-not-has_default w ↦ λ u sound all. subst (λ (v : Vec Datum Global). All (IsArgument u) v.items) (sym w.values-is) all
]
