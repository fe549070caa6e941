use Rattle.std.proofs.Common.{Option, subst}
use Rattle.std.specs.Option.{IfSome}
use Rattle.plist_state.specs.State.{WorldState}
use Rattle.store_commands.specs.Report.{report_text}
use Rattle.store_commands.specs.StatusAfterText.{TellsText}
use Rattle.store_commands.proofs.report.report_on.Goals as goal

pub returns-clause-reports : goal.returns-clause-reports
returns-clause-reports g c =
    let opened = c.in_ok-store.ensures.opened in
    record {
      opened = c.in_ok-store.store;
      is_opened = opened;
      tells = subst (λ (o : Option WorldState). IfSome o (λ world. TellsText c.write_report-status.result (g.O.Write.contents c.args.output.now) (g.O.Write.contents c.write_report-status.new.output)
          (report_text c.args.report c.in_ok-store.store world))) opened.known c.write_report-status.ensures;
      disk_is = c.close-disk.ensures.disk;
    }
