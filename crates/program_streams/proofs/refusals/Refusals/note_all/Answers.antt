use Rattle.std.proofs.Common.{arith, ◌∙◌}
use Rattle.program_streams.proofs.Passing.{come_further, come_to_end, counted_at_end, counted_further, passed_at_end, passed_further}
use Rattle.program_streams.proofs.refusals.Refusals.note_all.Goals as goal

pub loop-byte-preserved : goal.loop-byte-preserved
loop-byte-preserved g c = (
  c.note.ensures.output ∙ c.loop-byte.invariant.0,
  come_further _ _ _ _ _ 0 c.loop-byte-test.true c.in_ok-note.ensures.at c.loop-byte.invariant.1,
  passed_further _ _ _ _ _ _ _ 0 c.loop-byte-test.true c.in_ok-note.ensures.at c.in_ok-note.ensures.refusals c.loop-byte.invariant.2,
  counted_further _ _ _ _ _ _ _ 0 c.loop-byte-test.true c.in_ok-note.ensures.at c.in_ok-note.ensures.counts c.loop-byte.invariant.3,
)

pub returns-clause-at : goal.returns-clause-at
returns-clause-at g c = come_to_end c.loop-byte.self.at _ c.args.bytes.now c.loop-byte.byte-index (omega (arith, c.loop-byte-test.false)) c.loop-byte.invariant.1

pub returns-clause-refusals : goal.returns-clause-refusals
returns-clause-refusals g c = passed_at_end c.loop-byte.self.at c.loop-byte.self.refusals.items c.args.bytes.now _ c.loop-byte.byte-index (omega (arith, c.loop-byte-test.false)) c.loop-byte.invariant.2

pub returns-clause-counts : goal.returns-clause-counts
returns-clause-counts g c = counted_at_end c.loop-byte.self.at c.loop-byte.self.counts _ c.args.bytes.now c.loop-byte.byte-index (omega (arith, c.loop-byte-test.false)) c.loop-byte.invariant.3
