use Rattle.kept_functions.proofs.Keeping.{set_arguments}
use Rattle.kept_functions.proofs.defining.keep.Goals as goal

pub set-requires : goal.set-requires
set-requires c =
    set_arguments c.args.world.now.0 c.interned.new.world.0 c.args.indicator.now c.in_ok-interned.interned.value c.args.name c.args.definition c.in_ok-interned.interned.wrote c.in_ok-values.values.items
    c.soundness.ensures.present c.requires.indicator c.in_ok-interned.ensures.gives c.in_ok-interned.ensures.proper c.requires.name c.requires.definition c.in_ok-values.ensures
