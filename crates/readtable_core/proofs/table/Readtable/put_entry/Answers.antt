use Rattle.readtable_core.proofs.Sound.{kept}
use Rattle.readtable_core.proofs.PutBack.{put_back_at}
use Rattle.readtable_core.specs.Views.{table_inside}
use Rattle.readtable_core.proofs.table.Readtable.put_entry.Goals as goal

pub invariant_of-self : goal.invariant_of-self
invariant_of-self c =
    rw (c.from.ensures, c.replace.ensures.after) (kept (table_inside c.self.inside) c.args.c c.args.entry c.requires c.self.invariant c.soundness.ensures)

pub returns-clause-back : goal.returns-clause-back
returns-clause-back c =
    rw (c.from.ensures, c.replace.ensures.after, c.replace.ensures.value, c.index_mut.ensures.value, c.from.ensures, ← c.self.view_is)
    (put_back_at (table_inside c.self.inside) c.args.c c.args.entry c.index_mut.result.now)
