use Rattle.crc32c.proofs.Bits.{burst_changes_sum}
use Rattle.crc32c.proofs.laws.bursts.Goals as goal

pub returns : goal.returns
returns c = burst_changes_sum
