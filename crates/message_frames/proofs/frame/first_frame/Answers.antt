use Rattle.message_frames.proofs.Framed.{client_message_fault, keyword_fault, message_fault, question_fault}
use Rattle.message_frames.proofs.frame.first_frame.Goals as goal

pub returns-in-Err-read_message : goal.returns-in-Err-read_message
returns-in-Err-read_message c =
    message_fault c.args.limit c.in-Err-read_message.fault c.in-Ok-Do-default.rest.now c.args.bytes.now (rw c.in-Ok-Do-default.field-0-0-is at c.in-Ok-Do-default.ensures) c.in-Err-read_message.ensures

pub returns-in-Err-read_sized : goal.returns-in-Err-read_sized
returns-in-Err-read_sized c =
    question_fault c.args.limit c.in-Err-read_sized.fault c.in-Ok-Ask-default.rest.now c.args.bytes.now (rw c.in-Ok-Ask-default.field-0-0-is at c.in-Ok-Ask-default.ensures) c.in-Err-read_sized.ensures

pub returns-in-Err : goal.returns-in-Err
returns-in-Err c = keyword_fault c.args.limit c.in-Err.fault c.args.bytes.now c.in-Err.ensures

pub returns-in-Err-read_message-2 : goal.returns-in-Err-read_message-2
returns-in-Err-read_message-2 c =
    client_message_fault c.args.limit c.in-Err-read_message-2.fault c.in-Ok-By-default.rest.now c.args.bytes.now (rw c.in-Ok-By-default.field-0-0-is at c.in-Ok-By-default.ensures) c.in-Err-read_message-2.ensures
