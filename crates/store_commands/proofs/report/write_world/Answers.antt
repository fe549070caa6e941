use Rattle.std.proofs.Common.{◌∙◌, sym}
use Rattle.store_commands.proofs.Reports.{tells_world, told_by}
use Rattle.store_commands.proofs.report.write_world.Goals as goal

pub returns : goal.returns
returns g c = tells_world _ _ c.in-Some.world.now.0 _ _ _ (sym c.in-Some.ensures) (c.as_slice.ensures.value ∙ c.in-Ok.ensures) (told_by c.status_of_output.result c.write_out.result _ _ c.as_slice.result.now c.status_of_output.ensures c.write_out.ensures)
