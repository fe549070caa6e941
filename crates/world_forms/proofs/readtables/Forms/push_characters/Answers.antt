use Rattle.world_forms.proofs.Added.{range_added}
use Rattle.world_forms.specs.Readtables.{changed_lines}
use Rattle.world_forms.proofs.readtables.Forms.push_characters.Goals as goal

pub loop-c-preserved : goal.loop-c-preserved
loop-c-preserved c =
    range_added c.args.text.now.items (changed_lines c.args.self.now.name.now c.args.table.now) c.loop-c.c c.loop-c.invariant c.in_ok-push_changed.ensures
