use Rattle.std.proofs.Common.{◌≡◌, ◌-◌, ◌≤◌, length, take, bit_xor}
use Rattle.crc32c.specs.Register.{after_bits, text_bits, all_ones}
use Rattle.crc32c.proofs.sum.crc32c_append.Given as goal

-- the register after the bytes so far
abbrev pub invariant-loop-at : goal.invariant-loop-at
invariant-loop-at l = (l.at ≤ length l.bytes) × (l.register ≡ after_bits (bit_xor l.sum all_ones) (text_bits (take l.at l.bytes)))

abbrev pub decreases-loop-at : goal.decreases-loop-at
decreases-loop-at l = length l.bytes - l.at
