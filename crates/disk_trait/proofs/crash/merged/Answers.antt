use Rattle.std.proofs.Common.{arith, ◌∙◌}
use Rattle.disk_trait.proofs.Scattered.{scattered_step, scattered_end}
use Rattle.disk_trait.proofs.crash.merged.Goals as goal

pub bytes-preserved : goal.bytes-preserved
bytes-preserved c = (
  omega (arith, c.bytes.invariant.0),
  scattered_step c.args.share c.bytes.place c.bytes.byte-index c.mixed_byte.result c.args.bytes.now c.args.file.now c.bytes.next.items c.push.new.self.items
      (omega (arith, c.bytes-test.true)) c.mixed_byte.ensures c.in_ok-push.ensures.items
      ∙ c.bytes.invariant.1,
)

pub returns : goal.returns
returns c =
    scattered_end c.args.share c.bytes.place c.bytes.byte-index c.args.bytes.now c.args.file.now c.bytes.next.items (omega (arith, c.bytes-test.false))
    ∙ c.bytes.invariant.1
