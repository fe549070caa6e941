use Rattle.std.proofs.Common.{Option, subst}
use Rattle.std.specs.Option.{IfSome}
use Rattle.plist_state.specs.State.{WorldState}
use Rattle.world_forms.specs.Forms.{forms}
use Rattle.world_forms.specs.Properties.{left_out_lines}
use Rattle.store_commands.specs.Report.{TellsForms}
use Rattle.store_commands.proofs.export.export_on.Goals as goal

pub returns-clause-exports : goal.returns-clause-exports
returns-clause-exports g c =
    let opened = c.in_ok-store.ensures.opened in
    record {
      opened = c.in_ok-store.store;
      is_opened = opened;
      tells = subst (λ (o : Option WorldState). IfSome o (λ world. TellsForms c.write_forms-status.result.0 (g.O.Write.contents c.args.output.now) (g.O.Write.contents c.write_forms-status.new.output)
          (forms world c.args.content) (left_out_lines world) c.write_forms-status.result.1.items)) opened.known c.write_forms-status.ensures;
      disk_is = c.close-disk.ensures.disk;
    }
