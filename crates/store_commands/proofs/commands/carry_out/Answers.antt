use Rattle.std.proofs.Common.{inl, inr, refl}
use Rattle.store_commands.specs.Output.{held_by}
use Rattle.store_commands.specs.Folders.{OpensStore}
use Rattle.store_commands.proofs.FolderLaws.{named_by, opening_failed, opening_gave}
use Rattle.store_commands.proofs.Statuses.{early_after}
use Rattle.store_commands.proofs.Tasks.{performs_nothing, performs_on, told_so}
use Rattle.store_commands.proofs.commands.carry_out.Goals as goal

pub returns-in_default-clause-performs : goal.returns-in_default-clause-performs
returns-in_default-clause-performs g c =
    performs_nothing _ g.I.Read.remaining (held_by g.O.Write.contents) _ _ _ _ _ c.args.asked.folder.now c.args.asked.task _ (inr (inl refl)) (refl, refl)

pub returns-in_default-clause-opened : goal.returns-in_default-clause-opened
returns-in_default-clause-opened g c = inl (inr (inl refl), (refl, refl))

pub returns-in-Err-clause-performs : goal.returns-in-Err-clause-performs
returns-in-Err-clause-performs g c =
    performs_nothing _ g.I.Read.remaining (held_by g.O.Write.contents) _ _ _ _ _ c.args.asked.folder.now c.args.asked.task _
    (early_after c.of_host.result c.in-Err.error c.of_host.ensures) (refl, refl)

pub returns-in-Err-clause-opened : goal.returns-in-Err-clause-opened
returns-in-Err-clause-opened g c =
    opening_failed _ _ _ _ (OpensStore _ g.R.Disk.TellsCause.tells (g.R.Folders.opens c.args.rt.now)) _ c.args.asked.folder.now c.args.asked.existing c.open_folder.result c.in-Err.error _ _ c.in-Err.is
    c.open_folder.ensures.opens c.of_host.ensures refl (refl, refl)

pub returns-clause-performs : goal.returns-clause-performs
returns-clause-performs g c =
    performs_on _ _ _ _ g.I.Read.remaining (held_by g.O.Write.contents) _ _ _ _ c.told_after.result c.in-Ok-open_folder.disk c.carry_out_on-status.result.1 c.args.asked.folder.now c.args.asked.task c.carry_out_on-status.result.0
    (named_by c.args.input.now c.args.input.now c.args.output.now c.args.output.now (OpensStore _ g.R.Disk.TellsCause.tells (g.R.Folders.opens c.args.rt.now)) (λ disk. Unit {0}) c.args.asked.folder.now c.args.asked.existing
    c.open_folder.result c.in-Ok-open_folder.disk c.in-Ok-open_folder.is c.open_folder.ensures.opens)
    (told_so _ _ _ _ g.I.Read.remaining (held_by g.O.Write.contents) _ _ _ _ c.carry_out_on-status.result.2 c.told_after.result _ _ c.args.asked.task _ c.told_after.ensures c.carry_out_on-status.ensures)

pub returns-clause-opened : goal.returns-clause-opened
returns-clause-opened g c =
    opening_gave _ _ _ _ (OpensStore _ g.R.Disk.TellsCause.tells (g.R.Folders.opens c.args.rt.now)) _ c.args.asked.folder.now c.args.asked.existing c.open_folder.result c.in-Ok-open_folder.disk _ _ c.in-Ok-open_folder.is
    c.open_folder.ensures.opens
    (c.carry_out_on-status.result.1, told_so _ _ _ _ g.I.Read.remaining (held_by g.O.Write.contents) _ _ _ _ c.carry_out_on-status.result.2 c.told_after.result _ _ c.args.asked.task _ c.told_after.ensures c.carry_out_on-status.ensures)
