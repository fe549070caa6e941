use Rattle.std.proofs.Common.{get_or, None}
use Rattle.world_forms.proofs.Added.{range_added}
use Rattle.world_forms.specs.Readtables.{sub_line}
use Rattle.world_forms.proofs.readtables.Forms.push_subs.Goals as goal

pub loop-sub-preserved : goal.loop-sub-preserved
loop-sub-preserved c =
    range_added c.args.text.now.items (λ sub. sub_line c.args.self.now.name.now c.args.c sub (get_or c.args.entry.now.dispatch sub None)) c.loop-sub.sub
    c.loop-sub.invariant c.in_ok-push_sub_of.ensures
