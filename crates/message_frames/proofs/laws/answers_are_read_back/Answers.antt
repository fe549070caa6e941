use Rattle.message_frames.proofs.Lists.{answers_are_read_back as are_read_back}
use Rattle.message_frames.proofs.laws.answers_are_read_back.Goals as goal

pub returns : goal.returns
returns c = are_read_back
