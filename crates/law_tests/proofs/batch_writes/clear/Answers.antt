use Rattle.std.proofs.Common.{List, ℕ, inl, inr, sym, subst}
use Rattle.disk_trait.specs.Disk.{Image, Mixed}
use Rattle.batched_half.specs.Version3.{HoldsBatches}
use Rattle.law_tests.proofs.batch_writes.clear.Goals as goal

pub returns-clause-held : goal.returns-clause-held
returns-clause-held g c = λ k count honest mixes zeros ends image left.
    let from = (c.write_at.ensures.mixes honest mixes).crash image left in
    let end = ends from.0 from.1 in
    elim from.2 [
      | inl same ↦ subst (λ (i : Image). HoldsBatches k i.a) (sym same) end.held
      | inr step ↦ c.left_batches_are_cleared.ensures k from.0.a image.a c.args.at count end.held end.one end.at_end end.left
          (subst (λ (l : List ℕ). Mixed c.args.at l from.0.a image.a) zeros step.changed)
    ]
