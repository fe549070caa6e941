use Rattle.message_frames.proofs.Lists.{splits_one_way}
use Rattle.message_frames.proofs.laws.bytes_are_one_list.Goals as goal

pub returns : goal.returns
returns c = splits_one_way
