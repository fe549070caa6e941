use Rattle.std.proofs.Common.{ap, refl}
use Rattle.store_commands.specs.Output.{held_by}
use Rattle.store_commands.proofs.Tasks.{does_asked, does_export, does_not, does_snapshot, does_tell, does_upgrade}
use Rattle.store_commands.proofs.on_disk.carry_out_on.Goals as goal

pub returns-in-Run : goal.returns-in-Run
returns-in-Run g c =
    does_asked _ _ _ _ g.I.Read.remaining (held_by g.O.Write.contents) _ _ _ _ _ _ _ c.args.task _ c.in-Run.wanted c.in-Run.is c.run_on.ensures

pub returns-in-Ok : goal.returns-in-Ok
returns-in-Ok g c =
    does_snapshot _ _ _ _ g.I.Read.remaining (held_by g.O.Write.contents) _ _ _ _ _ _ _ c.args.task c.in-Ok.status c.in-Snapshot.is c.in-Ok.ensures.snapshots refl

pub returns-in-Err : goal.returns-in-Err
returns-in-Err g c =
    does_not _ _ _ _ g.I.Read.remaining (held_by g.O.Write.contents) _ _ _ _ _ _ _ c.in-Err.unopened.disk c.args.task _ c.in-Err.unopened.number
    c.without_store.ensures.status c.without_store.ensures.disk c.in-Err.ensures.refused.0 (refl, ap (λ o. record c.args.output.now { output = o }) c.in-Err.ensures.refused.1)

pub returns-in-Ok-upgrade_on : goal.returns-in-Ok-upgrade_on
returns-in-Ok-upgrade_on g c =
    does_upgrade _ _ _ _ g.I.Read.remaining (held_by g.O.Write.contents) _ _ _ _ _ _ _ c.args.task c.in-Ok-upgrade_on.status c.in-Upgrade.is c.in-Ok-upgrade_on.ensures.upgrades refl

pub returns-in-Ok-export_on : goal.returns-in-Ok-export_on
returns-in-Ok-export_on g c =
    does_export _ _ _ _ g.I.Read.remaining (held_by g.O.Write.contents) _ _ _ _ _ _ _ c.args.task c.in-Ok-export_on.status c.in-Export.content c.in-Export.is c.in-Ok-export_on.ensures.exports refl

pub returns-in-Ok-report_on : goal.returns-in-Ok-report_on
returns-in-Ok-report_on g c =
    does_tell _ _ _ _ g.I.Read.remaining (held_by g.O.Write.contents) _ _ _ _ _ _ _ c.args.task c.in-Ok-report_on.status c.in-Tell.report c.in-Tell.is c.in-Ok-report_on.ensures.reports refl

pub returns-in-Err-upgrade_on : goal.returns-in-Err-upgrade_on
returns-in-Err-upgrade_on g c =
    does_not _ _ _ _ g.I.Read.remaining (held_by g.O.Write.contents) _ _ _ _ _ _ _ c.in-Err-upgrade_on.unopened.disk c.args.task _ c.in-Err-upgrade_on.unopened.number
    c.without_store-in-Err-upgrade_on.ensures.status c.without_store-in-Err-upgrade_on.ensures.disk c.in-Err-upgrade_on.ensures.refused.0 (refl, ap (λ o. record c.args.output.now { output = o }) c.in-Err-upgrade_on.ensures.refused.1)

pub returns-in-Err-export_on : goal.returns-in-Err-export_on
returns-in-Err-export_on g c =
    does_not _ _ _ _ g.I.Read.remaining (held_by g.O.Write.contents) _ _ _ _ _ _ _ c.in-Err-export_on.unopened.disk c.args.task _ c.in-Err-export_on.unopened.number
    c.without_store-in-Err-export_on.ensures.status c.without_store-in-Err-export_on.ensures.disk c.in-Err-export_on.ensures.refused.0 (refl, ap (λ o. record c.args.output.now { output = o }) c.in-Err-export_on.ensures.refused.1)

pub returns-in-Err-report_on : goal.returns-in-Err-report_on
returns-in-Err-report_on g c =
    does_not _ _ _ _ g.I.Read.remaining (held_by g.O.Write.contents) _ _ _ _ _ _ _ c.in-Err-report_on.unopened.disk c.args.task _ c.in-Err-report_on.unopened.number
    c.without_store-in-Err-report_on.ensures.status c.without_store-in-Err-report_on.ensures.disk c.in-Err-report_on.ensures.refused.0 (refl, ap (λ o. record c.args.output.now { output = o }) c.in-Err-report_on.ensures.refused.1)
