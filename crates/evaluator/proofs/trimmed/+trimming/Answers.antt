use Rattle.std.proofs.Common.{◌≡◌, ℕ, zero, suc, List, [], ◌∷◌, get_or, set, refl, ap, ◌∙◌}
use Rattle.lisp_object.specs.declared.datum.Datum.{Datum}
use Rattle.evaluator.proofs.trimmed.+trimming.Goals as goal
use Rattle.evaluator.proofs.trimmed.+trimming.Goals.{trimmed_items-then-has_items, trimmed_items-else-has_items}

-- what was taken out is put back
set_again : (xs : List Datum) (i : ℕ) (x y : Datum) → y ≡ get_or xs i y → set (set xs i x) i y ≡ xs
set_again [] i x y is = refl
set_again (a ∷ more) zero x y is = ap (λ d. d ∷ more) is
set_again (a ∷ more) (suc i) x y is = ap (λ ds. a ∷ ds) (set_again more i x y is)

pub trimmed_items-loop-i-preserved : goal.trimmed_items-loop-i-preserved
trimmed_items-loop-i-preserved t c = elim c.if-has_items.branch [
  | trimmed_items-then-has_items w ↦
      let xs = c.loop-i.items.items in
      let placeholder = w.replace-item.new.dest in
      ap (λ v. v.items) w.items-is
      ∙ ap (λ d. set (set xs c.loop-i.i placeholder) c.loop-i.i d) (w.put_back.ensures ∙ w.trimmed.ensures ∙ w.replace-item.ensures.value)
      ∙ set_again xs c.loop-i.i placeholder w.index_mut.result.now w.index_mut.ensures.value
      ∙ c.loop-i.invariant
  | trimmed_items-else-has_items w ↦ ap (λ v. v.items) w.items-is ∙ c.loop-i.invariant
]
