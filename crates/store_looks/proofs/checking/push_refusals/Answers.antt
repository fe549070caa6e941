use Rattle.std.proofs.Common.{[], sym, refl, append-nil}
use Rattle.store_looks.proofs.Refusals.{none_so_far, told_more}
use Rattle.store_looks.proofs.checking.push_refusals.Goals as goal

pub loop-one-init : goal.loop-one-init
loop-one-init c = ([], none_so_far, sym (append-nil c.args.lines.now.items))

pub loop-one-preserved : goal.loop-one-preserved
loop-one-preserved c =
    told_more c.args.notation c.args.unreadable.now c.loop-one.one-index _ _ c.refusal_of-refusal.result c.args.lines.now.items c.loop-one.lines.items c.push_refusal.new.text.items c.loop-one-test.true refl
    c.refusal_of-refusal.ensures c.loop-one.invariant c.in_ok-push_refusal.ensures
