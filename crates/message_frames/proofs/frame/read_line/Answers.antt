use Rattle.std.proofs.Common.{sym}
use Rattle.std.proofs.lemmas.Bool.{ltb-false}
use Rattle.message_frames.proofs.Sized.{line_is_part}
use Rattle.message_frames.proofs.frame.read_line.Goals as goal

pub returns-in-None : goal.returns-in-None
returns-in-None c = line_is_part c.args.bytes.now c.args.count (ltb-false _ _ (sym c.in-None.ensures.lookup.0))
