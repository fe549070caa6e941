use Rattle.std.proofs.Common.{ℕ, ap, get_or, refl, sym, ◌∙◌, arith}
use Rattle.crc32c.specs.Register.{after_bits, bits}
use Rattle.crc32c.proofs.Texts.{one_more}
use Rattle.crc32c.proofs.sum.after_bytes.Goals as goal

pub loop-byte-init : goal.loop-byte-init
unfolding after_bits
loop-byte-init c = refl

pub loop-byte-preserved : goal.loop-byte-preserved
loop-byte-preserved c =
    c.after_byte-register.ensures
    ∙ ap (λ (r : ℕ). after_bits r (bits 8 (get_or c.args.bytes.now c.loop-byte.byte-index 0))) c.loop-byte.invariant
    ∙ sym (one_more c.args.first c.args.bytes.now c.loop-byte.byte-index (omega (arith, c.loop-byte-test.true)))
