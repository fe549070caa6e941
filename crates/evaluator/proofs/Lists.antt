-- LIST, of the values of forms one after the other.
--     list_stops, list_given      a form is refused; all have values
use Rattle.std.proofs.Common.{◌≡◌, ℕ, Bool, false, List, [], Result, Err, map, length, drop, sym, ap, subst, ◌∙◌}
use Rattle.lisp_object.specs.Object.{Object, list_of}
use Rattle.lisp_object.specs.Datum.{object_of}
use Rattle.lisp_object.specs.declared.datum.Datum.{Datum}
use Rattle.package_table.specs.Table.{Name}
use Rattle.plist_state.specs.State.{WorldState}
use Rattle.lisp_operators.specs.declared.error.EvaluationError.{EvaluationError}
use Rattle.lisp_operators.specs.declared.error.EvaluationError.TheVariants.{Refused, OutOfMemory}
use Rattle.lisp_operators.specs.declared.evaluated.Evaluated.{Evaluated}
use Rattle.lisp_operators.specs.EvaluationAnswers.{Answers, done}
use Rattle.lisp_operators.specs.Evaluation.{also, and_then}
use Rattle.lisp_operators.specs.Properties.{list}
use Rattle.evaluator.specs.ArgumentValues.{all_done, arguments_of, values_after, list_of_values}
use Rattle.evaluator.proofs.Steps.{followed_start, followed_at_end}
use Rattle.evaluator.proofs.Forms.{arguments_from}

module _ (names : List Name) (s t : WorldState) (items : List Datum) where
  list_is : list_of_values names s (arguments_of (map object_of items)) ≡ and_then (values_after names [] false s (list_of (map object_of (drop 1 items)))) list
  list_is = ap (list_of_values names s) (arguments_from items) ∙ ap (λ o. and_then o list) (sym (followed_start names s (list_of (map object_of (drop 1 items)))))

  pub list_stops : (e : EvaluationError) → Answers all_done (Err e) t (values_after names [] false s (list_of (map object_of (drop 1 items))))
      → Answers done (Err e) t (list_of_values names s (arguments_of (map object_of items)))
  list_stops (Refused code) is = list_is ∙ ap (λ o. and_then o list) is
  list_stops OutOfMemory is = tt

  pub list_given : (xs : List Object) (w : Bool) (i : ℕ) (r : Result Evaluated EvaluationError)
      → values_after names [] false s (list_of (map object_of (drop 1 items))) ≡ values_after names xs w t (list_of (map object_of (drop i items))) → i ≡ length items
      → Answers done r t (also w (list xs t)) → Answers done r t (list_of_values names s (arguments_of (map object_of items)))
  list_given xs w i r same end given =
      subst (Answers done r t) (sym (list_is ∙ ap (λ o. and_then o list) (same ∙ followed_at_end names xs w t items i end))) given
