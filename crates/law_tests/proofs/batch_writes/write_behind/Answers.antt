use Rattle.std.proofs.Common.{ℕ, length, inl, inr, sym, subst}
use Rattle.disk_trait.specs.Disk.{Image, Torn}
use Rattle.batched_half.specs.Version3.{HoldsBatches}
use Rattle.law_tests.proofs.batch_writes.write_behind.Goals as goal

pub returns-clause-held : goal.returns-clause-held
returns-clause-held g c = λ k at honest next ends image left.
    let from = (c.write_at.ensures.tears honest).crash image left in
    let end = ends from.0 from.1 in
    let count = length c.args.bytes.now in
    elim from.2 [
      | inl same ↦ subst (λ (i : Image). HoldsBatches k i.a) (sym same) end.held
      | inr step ↦ c.batches_of_two_syncs.ensures.behind k from.0.a image.a at count end.held end.two end.closed end.at_end
          (subst (λ (n : ℕ). Torn n count from.0.a image.a) next step.changed)
    ]
