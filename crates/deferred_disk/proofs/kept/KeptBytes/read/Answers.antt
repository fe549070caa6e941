use Rattle.std.proofs.Common.{ap, arith, List, ℕ, length}
use Rattle.deferred_disk.proofs.FirstByte.{first_read}
use Rattle.deferred_disk.proofs.WrittenBytes.{copied}
use Rattle.deferred_disk.proofs.kept.KeptBytes.read.Goals as goal

pub returns-then-count-eq1-clause-bytes : goal.returns-then-count-eq1-clause-bytes
returns-then-count-eq1-clause-bytes c = λ file kept. (
  omega (arith, c.if-is_empty.ensures, c.if-is_empty.false),
  first_read c.args.buffer.now file c.args.self.now.first c.args.at (omega (arith, c.if-is_empty.ensures, c.if-is_empty.false)) (omega (arith, c.if-at-eq0.true))
      (omega (arith, c.min-count.ensures, c.if-count-eq1.true, c.if-at-eq0.true, kept.len)) kept.first,
)

pub returns-then-at-self-3-clause-bytes : goal.returns-then-at-self-3-clause-bytes
returns-then-at-self-3-clause-bytes c = λ file kept. (
  omega (arith, c.min-count.ensures),
  copied c.args.self.now.from c.args.at c.min-count.result (length c.args.buffer.now) c.args.self.now.bytes.items file c.args.buffer.now c.copy_from_slice.new.self c.deref.result.now
      kept.bytes c.if-at-self-2.true
      (omega (arith, c.if-at-self-3.true, c.len.ensures, c.deref.ensures.len, ap (λ (l : List ℕ). length l) c.deref.ensures.value))
      (omega (arith, c.min-count.ensures, kept.len))
      c.deref.ensures.value c.copy_from_slice.ensures.after,
)
