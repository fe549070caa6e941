use Rattle.std.proofs.Common.{refl}
use Rattle.crc32c.specs.Register.{register_after_bit, after_bits, bits}
use Rattle.crc32c.proofs.laws.known_sums.Goals as goal

pub returns-clause-nothing : goal.returns-clause-nothing
unfolding register_after_bit after_bits bits
returns-clause-nothing c = refl

pub returns-clause-digits : goal.returns-clause-digits
unfolding register_after_bit after_bits bits
returns-clause-digits c = refl

pub returns-clause-zeros : goal.returns-clause-zeros
unfolding register_after_bit after_bits bits
returns-clause-zeros c = refl

pub returns-clause-ones : goal.returns-clause-ones
unfolding register_after_bit after_bits bits
returns-clause-ones c = refl

pub returns-clause-rising : goal.returns-clause-rising
unfolding register_after_bit after_bits bits
returns-clause-rising c = refl
