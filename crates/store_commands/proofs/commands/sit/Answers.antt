use Rattle.std.proofs.Common.{inl, inr, refl}
use Rattle.store_commands.specs.Folders.{OpensStore}
use Rattle.store_commands.proofs.AtTerminal.{row_nothing, row_of_sessions, row_unopened}
use Rattle.store_commands.proofs.FolderLaws.{named_by, opening_failed, opening_gave}
use Rattle.store_commands.proofs.Statuses.{early_after}
use Rattle.store_commands.proofs.Tasks.{kept_so}
use Rattle.store_commands.proofs.commands.sit.Goals as goal

pub returns-in_default-clause-performs : goal.returns-in_default-clause-performs
returns-in_default-clause-performs g c =
    row_nothing _ g.I.Read.remaining g.O.Recipient.contents _ _ _ _ _ c.args.asked.folder.now c.args.wanted _ (inr (inl refl)) (refl, refl)

pub returns-in_default-clause-opened : goal.returns-in_default-clause-opened
returns-in_default-clause-opened g c = inl (inr (inl refl), (refl, refl))

pub returns-in-Err-clause-performs : goal.returns-in-Err-clause-performs
returns-in-Err-clause-performs g c =
    row_nothing _ g.I.Read.remaining g.O.Recipient.contents _ _ _ _ _ c.args.asked.folder.now c.args.wanted _
    (early_after c.of_host.result c.in-Err.error c.of_host.ensures) (refl, refl)

pub returns-in-Err-clause-opened : goal.returns-in-Err-clause-opened
returns-in-Err-clause-opened g c =
    opening_failed _ _ _ _ (OpensStore _ g.R.Disk.TellsCause.tells (g.R.Folders.opens c.args.rt.now)) _ c.args.asked.folder.now c.args.asked.existing c.open_folder.result c.in-Err.error _ _ c.in-Err.is
    c.open_folder.ensures.opens c.of_host.ensures refl (refl, refl)

pub returns-in-Ok-sessions_on-clause-performs : goal.returns-in-Ok-sessions_on-clause-performs
returns-in-Ok-sessions_on-clause-performs g c =
    row_of_sessions _ _ _ g.I.Read.remaining g.O.Recipient.contents _ _ _ _ c.told_after.result c.args.asked.folder.now c.in-Ok-open_folder.disk c.in-Ok-sessions_on.disk c.args.wanted
    c.of_ended.result c.in-Ok-sessions_on.ended
    (named_by c.args.input.now c.args.input.now c.args.output.now c.args.output.now (OpensStore _ g.R.Disk.TellsCause.tells (g.R.Folders.opens c.args.rt.now)) (λ disk. Unit {0}) c.args.asked.folder.now c.args.asked.existing
    c.open_folder.result c.in-Ok-open_folder.disk c.in-Ok-open_folder.is c.open_folder.ensures.opens)
    c.of_ended.ensures
    (kept_so c.in-Ok-sessions_on.ended c.of_session.result c.told_after.result c.told_after.ensures c.of_session.ensures) c.in-Ok-sessions_on.ensures.served.0

pub returns-in-Ok-sessions_on-clause-opened : goal.returns-in-Ok-sessions_on-clause-opened
returns-in-Ok-sessions_on-clause-opened g c =
    opening_gave _ _ _ _ (OpensStore _ g.R.Disk.TellsCause.tells (g.R.Folders.opens c.args.rt.now)) _ c.args.asked.folder.now c.args.asked.existing c.open_folder.result c.in-Ok-open_folder.disk _ _ c.in-Ok-open_folder.is
    c.open_folder.ensures.opens (
      c.in-Ok-sessions_on.disk,
      inl (
        c.in-Ok-sessions_on.ended,
        c.of_ended.ensures,
        kept_so c.in-Ok-sessions_on.ended c.of_session.result c.told_after.result c.told_after.ensures c.of_session.ensures,
        c.in-Ok-sessions_on.ensures.served.0,
      ),
    )

pub returns-in-Err-sessions_on-clause-performs : goal.returns-in-Err-sessions_on-clause-performs
returns-in-Err-sessions_on-clause-performs g c =
    let refused = c.in-Err-sessions_on.ensures.refused in
    row_unopened _ _ _ g.I.Read.remaining g.O.Recipient.contents _ _ _ _ _ c.args.asked.folder.now c.in-Ok-open_folder.disk c.in-Err-sessions_on.unopened.disk c.args.wanted _
    (named_by c.args.input.now c.args.input.now c.args.output.now c.args.output.now (OpensStore _ g.R.Disk.TellsCause.tells (g.R.Folders.opens c.args.rt.now)) (λ disk. Unit {0}) c.args.asked.folder.now c.args.asked.existing
    c.open_folder.result c.in-Ok-open_folder.disk c.in-Ok-open_folder.is c.open_folder.ensures.opens)
    (c.in-Err-sessions_on.unopened.number, refl, refused.0) refused.1

pub returns-in-Err-sessions_on-clause-opened : goal.returns-in-Err-sessions_on-clause-opened
returns-in-Err-sessions_on-clause-opened g c =
    let refused = c.in-Err-sessions_on.ensures.refused in
    opening_gave _ _ _ _ (OpensStore _ g.R.Disk.TellsCause.tells (g.R.Folders.opens c.args.rt.now)) _ c.args.asked.folder.now c.args.asked.existing c.open_folder.result c.in-Ok-open_folder.disk _ _ c.in-Ok-open_folder.is
    c.open_folder.ensures.opens (c.in-Err-sessions_on.unopened.disk, inr ((c.in-Err-sessions_on.unopened.number, refl, refused.0), refused.1))
