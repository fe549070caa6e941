use Rattle.message_frames.proofs.Parts.{fault_in_head, fault_in_tail}
use Rattle.message_frames.proofs.Sized.{message_is_made}
use Rattle.message_frames.proofs.frame.read_message.Goals as goal

pub returns-in-Err-read_sized : goal.returns-in-Err-read_sized
returns-in-Err-read_sized c =
    fault_in_tail _ _ _ _ _ _ (message_is_made c.args.limit) c.in-Err-read_sized.fault c.in-Ok.number c.in-Ok.rest.now c.args.bytes.now c.in-Ok.ensures c.in-Err-read_sized.ensures

pub returns-in-Err : goal.returns-in-Err
returns-in-Err c = fault_in_head _ _ _ _ _ _ (message_is_made c.args.limit) c.in-Err.fault c.args.bytes.now c.in-Err.ensures
