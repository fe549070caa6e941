use Rattle.std.proofs.Common.{subst, sym}
use Rattle.store_commands.specs.EndLines.{TellsFault, WritesSome, unanswered_line}
use Rattle.store_commands.specs.declared.status.Status.{Status}
use Rattle.diagnostics.proofs.Fronts.{either_part}
use Rattle.store_commands.proofs.told.end_with_told.Goals as goal

pub returns-in-Fault-clause-told : goal.returns-in-Fault-clause-told
returns-in-Fault-clause-told g c =
    let told = c.write_fault_with_cause.ensures in
    subst (λ (s : Status). TellsFault s c.args.told.now (g.F.Write.contents c.args.faults.now) (g.F.Write.contents c.write_fault_with_cause.new.faults)) (sym c.in-Fault.is)
    (told.0, told.1, either_part c.write_fault_with_cause.result _ _ told.0 told.2)

pub returns-in-LeftOut-clause-told : goal.returns-in-LeftOut-clause-told
returns-in-LeftOut-clause-told g c =
    let held = g.F.Write.contents c.args.faults.now in
    let written = g.F.Write.contents c.write_text.new.writer in
    subst (λ (s : Status). TellsFault s c.args.told.now held written) (sym c.in-LeftOut.is)
    (subst (WritesSome held written) c.left_out.ensures (either_part c.write_text.result held written c.left_out.result.now c.write_text.ensures))

pub returns-in-FormRefused-clause-told : goal.returns-in-FormRefused-clause-told
returns-in-FormRefused-clause-told g c =
    subst (λ (s : Status). TellsFault s c.args.told.now (g.F.Write.contents c.args.faults.now) (g.F.Write.contents c.tell_refusal.new.faults)) (sym c.in-FormRefused.is)
    c.tell_refusal.ensures

pub returns-in-Unanswered-clause-told : goal.returns-in-Unanswered-clause-told
returns-in-Unanswered-clause-told g c =
    let held = g.F.Write.contents c.args.faults.now in
    let written = g.F.Write.contents c.write_text-in-Unanswered.new.writer in
    subst (λ (s : Status). TellsFault s c.args.told.now held written) (sym c.in-Unanswered.is)
    (either_part c.write_text-in-Unanswered.result held written unanswered_line c.write_text-in-Unanswered.ensures)
