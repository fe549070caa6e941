use Rattle.std.proofs.Common.{[]}
use Rattle.store_commands.proofs.Upgrades.{forms_of_world, no_forms}
use Rattle.store_commands.proofs.export.write_forms.Goals as goal

pub returns-in-Ok : goal.returns-in-Ok
returns-in-Ok g c =
    forms_of_world c.args.content c.in-Some.world.now.0 _ c.in-Some.ensures _ _ _ _ _ c.in-Ok.ensures.forms c.in-Ok.ensures.left_out c.write_exported-status.ensures

pub returns-in-Err : goal.returns-in-Err
returns-in-Err g c = no_forms c.args.content c.in-Some.world.now.0 _ c.in-Some.ensures _ []
