use Rattle.std.proofs.Common.{ℕ, ◌/◌, ap, bit_and, bit_xor, get_or, arith, sym, ◌∙◌}
use Rattle.crc32c.specs.declared.table.TheConstants.{TABLE}
use Rattle.crc32c.proofs.Entries.{after_byte_is}
use Rattle.crc32c.proofs.table.after_byte.Goals as goal

pub returns : goal.returns
returns c =
    ap (λ (b : ℕ). bit_xor (get_or TABLE (bit_and (bit_xor c.args.register b) 255) 0) (c.args.register / 256)) c.from.ensures
    ∙ sym (after_byte_is c.args.register c.args.byte (omega arith))
