use Rattle.std.proofs.Common.{ap, arith, List, ℕ, length}
use Rattle.deferred_disk.proofs.WrittenBytes.{patched}
use Rattle.deferred_disk.proofs.kept.KeptBytes.keep_within.Goals as goal

pub returns-then-end-self-2-clause-kept : goal.returns-then-end-self-2-clause-kept
returns-then-end-self-2-clause-kept c = λ file within stand.
    patched c.let_go_before.new.self.from c.args.at c.let_go_before.new.self.bytes.len c.args.bytes.now c.let_go_before.new.self.bytes.items file c.deref_mut.result.now c.copy_from_slice.new.self within c.if-at-self.true
    (omega (arith, c.if-end-self-2.true, c.requires.end, c.if-at-self.true, c.len.ensures, c.deref_mut.ensures.len, ap (λ (l : List ℕ). length l) c.deref_mut.ensures.value))
    (omega (arith, c.deref_mut.ensures.len, ap (λ (l : List ℕ). length l) c.deref_mut.ensures.value))
    c.deref_mut.ensures.value c.copy_from_slice.ensures.after (c.let_go_before.ensures.kept file stand)
