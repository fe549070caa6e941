use Rattle.std.proofs.Common.{arith}
use Rattle.message_frames.proofs.Parts.{fault_in_head}
use Rattle.message_frames.proofs.Sized.{sized_goes_on, sized_is_made}
use Rattle.message_frames.proofs.frame.read_sized.Goals as goal

pub returns-in-Ok : goal.returns-in-Ok
returns-in-Ok c = sized_goes_on c.args.limit (omega arith) c.in-Ok.count c.in-Ok.rest.now c.args.bytes.now c.in-Ok.ensures c.read_line.result c.read_line.ensures

pub returns-in-Err : goal.returns-in-Err
returns-in-Err c = fault_in_head _ _ _ _ _ _ (sized_is_made c.args.limit (omega arith)) c.in-Err.fault c.args.bytes.now c.in-Err.ensures
