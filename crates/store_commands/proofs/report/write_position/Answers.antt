use Rattle.std.proofs.Common.{◌≡◌, ◌++◌, subst}
use Rattle.diagnostics.specs.StreamTexts.{WritesOut}
use Rattle.store_commands.specs.Report.{half_line, half_line_of, position_line}
use Rattle.store_commands.proofs.Reports.{told_by}
use Rattle.store_commands.proofs.report.write_position.Goals as goal

pub returns : goal.returns
returns g c =
    let written = c.write_half_and_position-written.result in
    let text : half_line c.half-half.result c.generation.result c.record_count.result ++ position_line c.args.position ≡ half_line_of c.args.store.now ++ position_line c.args.position
    = λ i. half_line (c.half-half.ensures i) (c.generation.ensures i) (c.record_count.ensures i) ++ position_line c.args.position in
    told_by c.status_of_output.result written _ _ _ c.status_of_output.ensures
    (subst (WritesOut written (g.O.Write.contents c.args.output.now) (g.O.Write.contents c.write_half_and_position-written.new.output)) text c.write_half_and_position-written.ensures)
