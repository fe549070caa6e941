use Rattle.store_commands.specs.Output.{held_by}
use Rattle.store_commands.specs.Folders.{OpensStore}
use Rattle.store_commands.proofs.AtTerminal.{performs_there, row_there}
use Rattle.store_commands.proofs.FolderLaws.{sat_as_anywhere, sat_in_a_row}
use Rattle.store_commands.proofs.commands.carry_out_at_terminal.Goals as goal

pub returns-in-Run-clause-performs : goal.returns-in-Run-clause-performs
returns-in-Run-clause-performs g c =
    row_there _ g.I.Read.remaining (held_by g.O.Write.contents) _ _ _ _ _ c.args.asked.folder.now c.args.asked.task c.sit.result.0 c.in-Run.wanted
    c.in-Run.is c.sit.ensures.performs

pub returns-in_default-clause-performs : goal.returns-in_default-clause-performs
returns-in_default-clause-performs g c =
    performs_there _ g.I.Read.remaining (held_by g.O.Write.contents) _ _ _ _ _ c.args.asked.folder.now c.args.asked.task c.carry_out.result.0 c.in_default.not-Run
    c.carry_out.ensures.performs

pub returns-in_default-clause-taken : goal.returns-in_default-clause-taken
returns-in_default-clause-taken g c = c.carry_out.ensures.performs.taken

pub returns-in-Run-clause-taken : goal.returns-in-Run-clause-taken
returns-in-Run-clause-taken g c = c.sit.ensures.performs.taken

pub returns-in-Run-clause-opened : goal.returns-in-Run-clause-opened
returns-in-Run-clause-opened g c =
    sat_in_a_row _ _ _ _ g.I.Read.remaining (held_by g.O.Write.contents) _ _ _ _ (OpensStore _ g.R.Disk.TellsCause.tells (g.R.Folders.opens c.args.rt.now)) _ c.args.asked.folder.now c.args.asked.existing c.sit.result.0
    c.args.asked.task c.in-Run.wanted c.in-Run.is c.sit.ensures.opened

pub returns-in_default-clause-opened : goal.returns-in_default-clause-opened
returns-in_default-clause-opened g c =
    sat_as_anywhere _ _ _ _ g.I.Read.remaining (held_by g.O.Write.contents) _ _ _ _ (OpensStore _ g.R.Disk.TellsCause.tells (g.R.Folders.opens c.args.rt.now)) _ c.args.asked.folder.now c.args.asked.existing c.carry_out.result.0
    c.args.asked.task c.in_default.not-Run c.carry_out.ensures.opened
