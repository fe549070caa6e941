use Rattle.std.proofs.Common.{inl, inr, sym, subst}
use Rattle.std.proofs.lemmas.Result.{on_ok_weaker}
use Rattle.disk_trait.specs.Disk.{Image}
use Rattle.batched_half.specs.Version3.{HoldsBatches}
use Rattle.law_tests.proofs.batch_writes.write_mark.Goals as goal

pub returns-clause-left : goal.returns-clause-left
returns-clause-left g c = λ k entries honest some fit ends image left.
    let from = (c.write_at.ensures.tears honest).crash image left in
    let end = ends from.0 from.1 in
    elim from.2 [
      | inl same ↦ inl (subst (λ (i : Image). HoldsBatches k i.a) (sym same) end.held)
      | inr step ↦ c.batches_of_two_syncs.ensures.mark k from.0.a from.0.a image.a end.rest entries c.args.at end.held end.two end.before some fit end.at_end step.changed
    ]

pub returns-clause-written : goal.returns-clause-written
returns-clause-written g c = on_ok_weaker c.write_at.result
    (λ done. λ k entries honest some fit end.
    let old = (g.D.Disk.state c.args.disk.now).reads.a in
    let new = (g.D.Disk.state c.write_at.new.self).reads.a in
    c.batches_of_two_syncs.ensures.whole k old old new end.rest entries c.args.at end.held end.two end.before some fit end.at_end (done honest).changed)
    c.write_at.ensures.done
