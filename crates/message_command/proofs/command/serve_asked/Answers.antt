use Rattle.std.proofs.Common.{◌∙◌, inl, inr, refl, subst, sym}
use Rattle.message_command.specs.Session.{session_status}
use Rattle.message_session.specs.declared.ended.MessagesEnd.{MessagesEnd}
use Rattle.message_session.specs.declared.ended.MessagesEnd.TheVariants.{End, NoFrame, Fault}
use Rattle.store_commands.specs.Folders.{OpensStore}
use Rattle.store_commands.specs.Status.{TakesWords}
use Rattle.store_commands.specs.declared.told.Remark.TheVariants.{Cause, Nothing}
use Rattle.store_commands.proofs.FolderLaws.{opening_failed, opening_gave}
use Rattle.store_commands.proofs.Statuses.{early_after, taken_early}
use Rattle.message_command.proofs.command.serve_asked.Goals as goal

pub returns-in_default-clause-taken : goal.returns-in_default-clause-taken
returns-in_default-clause-taken g c = subst TakesWords (sym c.end_with.ensures.status) tt

pub returns-in_default-clause-opened : goal.returns-in_default-clause-opened
returns-in_default-clause-opened g c = (Nothing, inl (inr (inl c.end_with.ensures.status), (refl, refl)))

pub returns-in-Err-clause-taken : goal.returns-in-Err-clause-taken
returns-in-Err-clause-taken g c = subst TakesWords (sym c.end_with_told.ensures.status) (taken_early _ (early_after c.of_host-status.result c.in-Err.error c.of_host-status.ensures))

pub returns-in-Err-clause-opened : goal.returns-in-Err-clause-opened
returns-in-Err-clause-opened g c = (
  Cause c.in-Err.error,
  opening_failed _ _ _ _ (OpensStore _ g.R.Disk.TellsCause.tells (g.R.Folders.opens c.args.rt.now)) _ c.args.messages.folder.now c.args.messages.existing c.open_folder.result c.in-Err.error _ _ c.in-Err.is
      c.open_folder.ensures.opens (c.end_with_told.ensures.status ∙ c.of_host-status.ensures) refl (refl, refl),
)

-- each end of a session is one of words that were taken
taken_after : (ended : MessagesEnd) → TakesWords (session_status ended)
taken_after End = tt
taken_after (NoFrame place) = tt
taken_after (Fault number) = tt

pub returns-clause-taken : goal.returns-clause-taken
returns-clause-taken g c = subst TakesWords (sym c.end_after.ensures) (taken_after c.serve_on-ended.result.0)

pub returns-clause-opened : goal.returns-clause-opened
returns-clause-opened g c = (
  Nothing,
  opening_gave _ _ _ _ (OpensStore _ g.R.Disk.TellsCause.tells (g.R.Folders.opens c.args.rt.now)) _ c.args.messages.folder.now c.args.messages.existing c.open_folder.result c.in-Ok-open_folder.disk _ _ c.in-Ok-open_folder.is
      c.open_folder.ensures.opens
      (c.serve_on-ended.result.1, c.serve_on-ended.result.0, c.end_after.ensures, c.serve_on-ended.ensures),
)
