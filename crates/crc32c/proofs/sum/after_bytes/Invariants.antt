use Rattle.std.proofs.Common.{◌≡◌, take}
use Rattle.crc32c.specs.Register.{after_bits, text_bits}
use Rattle.crc32c.proofs.sum.after_bytes.Given as goal

-- the register after the bytes so far
abbrev pub invariant-loop-byte : goal.invariant-loop-byte
invariant-loop-byte l = l.register ≡ after_bits l.first (text_bits (take l.byte-index l.bytes))
