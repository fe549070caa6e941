use Rattle.readtable_core.proofs.Sound.{kept}
use Rattle.readtable_core.specs.Views.{table_inside}
use Rattle.readtable_core.proofs.table.Readtable.put_function.Goals as goal

pub invariant_of-self : goal.invariant_of-self
invariant_of-self c =
    rw c.from.ensures (kept (table_inside c.self.inside) c.args.c _ c.requires.character c.self.invariant c.soundness.ensures)
