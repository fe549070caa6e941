use Rattle.std.proofs.Common.{arith}
use Rattle.deferred_disk.proofs.WrittenBytes.{kept_after}
use Rattle.deferred_disk.proofs.kept.KeptBytes.write.Goals as goal

pub returns-then-end-len : goal.returns-then-end-len
returns-then-end-len c = λ file kept.
    kept_after c.args.at c.args.bytes.now file c.keep_end.new.self c.first_after-self.result (omega (arith, c.requires.within, kept.len))
    (omega (arith, c.keep_end.ensures.len, c.max-self.ensures, c.requires.end, kept.len)) c.keep_end.ensures.first
    (c.first_after-self.ensures file (omega (arith, c.requires.within, kept.len)) kept.first)
    (c.keep_end.ensures.kept file (omega (arith, c.requires.within, kept.len)))

pub returns-else-end-len : goal.returns-else-end-len
returns-else-end-len c = λ file kept.
    kept_after c.args.at c.args.bytes.now file c.keep_within.new.self c.first_after-self.result (omega (arith, c.requires.within, kept.len))
    (omega (arith, c.keep_within.ensures.len, c.max-self.ensures, c.requires.end, kept.len)) c.keep_within.ensures.first
    (c.first_after-self.ensures file (omega (arith, c.requires.within, kept.len)) kept.first)
    (c.keep_within.ensures.kept file (omega (arith, c.requires.within, kept.len)) kept.bytes)
