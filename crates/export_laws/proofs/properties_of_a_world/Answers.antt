use Rattle.std.proofs.Common.{refl}
use Rattle.snapshot_text.specs.BuiltWorlds.{built_with_packages}
use Rattle.export_laws.proofs.properties_of_a_world.Goals as goal

pub returns : goal.returns
returns c = λ names.
    c.properties_are_made.ensures.all names c.args.world.now.0 (built_with_packages c.args.world.now.0) c.soundness.ensures.present refl refl
