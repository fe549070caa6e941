use Rattle.std.proofs.Common.{ℕ, ap, refl, sym, ◌∙◌, ◌+◌, drop, slice_range, bit_xor, arith}
use Rattle.std.proofs.lemmas.List.{take_rest}
use Rattle.crc32c.specs.Register.{after_bits, text_bits, all_ones, sum_after}
use Rattle.crc32c.proofs.Bits.{pieces}
use Rattle.crc32c.proofs.Texts.{eight_there, last_bytes, more_bytes}
use Rattle.crc32c.proofs.sum.crc32c_append.Goals as goal

pub loop-at-init : goal.loop-at-init
unfolding after_bits
loop-at-init c = (omega arith, refl)

pub loop-at-preserved : goal.loop-at-preserved
loop-at-preserved c =
    let i = c.loop-at.at in
    let more = slice_range c.args.bytes.now i (i + 8) in (
      omega (arith, c.loop-at-test.true),
      c.after_bytes-register.ensures
          ∙ ap (λ (r : ℕ). after_bits r (text_bits more)) c.loop-at.invariant.1
          ∙ sym (more_bytes (bit_xor c.args.sum all_ones) c.args.bytes.now more i 8 (eight_there c.args.bytes.now i)),
    )

pub returns-clause-after : goal.returns-clause-after
returns-clause-after c =
    let i = c.loop-at.at in
    ap (λ (r : ℕ). bit_xor r all_ones) (
    rw (take_rest c.args.bytes.now i) at c.after_bytes-register-2.ensures
    ∙ ap (λ (r : ℕ). after_bits r (text_bits (drop i c.args.bytes.now))) c.loop-at.invariant.1
    ∙ last_bytes (bit_xor c.args.sum all_ones) c.args.bytes.now (drop i c.args.bytes.now) i refl)

pub returns-clause-whole : goal.returns-clause-whole
returns-clause-whole c = λ before is.
    returns-clause-after c ∙ ap (λ (s : ℕ). sum_after s c.args.bytes.now) is ∙ pieces before c.args.bytes.now
