use Rattle.std.proofs.Common.{◌∙◌, ap, sym}
use Rattle.message_command.specs.Session.{session_status}
use Rattle.message_command.proofs.command.end_after.Goals as goal

pub returns-in-End : goal.returns-in-End
returns-in-End g c = c.end_with.ensures.status ∙ sym (ap session_status c.in-End.is)
