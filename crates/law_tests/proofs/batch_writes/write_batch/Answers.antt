use Rattle.std.proofs.Common.{◌≡◌, ◌+◌, List, ℕ, length, inl, inr, sym, subst}
use Rattle.std.proofs.lemmas.Result.{on_ok_weaker}
use Rattle.disk_trait.specs.Disk.{Image, Mixed, written}
use Rattle.gate_log.specs.Layout.{with_records}
use Rattle.batched_half.specs.Version3.{EndsInZeros, HoldsBatches}
use Rattle.law_tests.proofs.batch_writes.write_batch.Goals as goal

pub returns-clause-left : goal.returns-clause-left
returns-clause-left g c = λ k entries honest mixes come spells ends image left.
    let from = (c.write_at.ensures.mixes honest mixes).crash image left in
    let zeros = ends from.0 from.1 in
    elim from.2 [
      | inl same ↦ inl (subst (λ (i : Image). HoldsBatches k i.a) (sym same) zeros.held)
      | inr step ↦ c.batches_of_one_sync.ensures.cut_short k from.0.a image.a entries c.args.at zeros come
          (subst (λ (l : List ℕ). Mixed c.args.at l from.0.a image.a) spells step.changed)
    ]

pub returns-clause-nothing_else : goal.returns-clause-nothing_else
returns-clause-nothing_else g c = λ k entries honest mixes come spells ends image left j held.
    elim (returns-clause-left g c k entries honest mixes come spells ends image left) [
      | inl before ↦ inl (c.one_contents_in_batches.ensures j k image.a held before)
      | inr after ↦ inr (c.one_contents_in_batches.ensures j (with_records k entries) image.a held after)
    ]

pub returns-clause-written : goal.returns-clause-written
returns-clause-written g c = on_ok_weaker c.write_at.result
    (λ done. λ k entries honest come spells zeros.
    let old = (g.D.Disk.state c.args.disk.now).reads.a in
    let new = (g.D.Disk.state c.write_at.new.self).reads.a in
    let is = subst (λ (l : List ℕ). new ≡ written c.args.at l old) spells (done honest).changed in
    subst (λ (l : List ℕ). EndsInZeros (with_records k entries) (c.args.at + length l) new) (sym spells)
    (c.batches_of_one_sync.ensures.whole k old new entries c.args.at zeros come is))
    c.write_at.ensures.done
