use Rattle.std.proofs.Common.{ap, arith}
use Rattle.lisp_object.specs.Datum.{size}
use Rattle.std_macros.proofs.Repeating.{sum_within}
use Rattle.std_macros.proofs.vectors.room_after.Goals as goal

pub returns-in_err-left : goal.returns-in_err-left
returns-in_err-left c =
    rw c.from_residual.ensures
    (λ le.
    let within = sum_within c.args.items.now c.loop-item.item-index c.item-item.result c.loop-item-test.true in
    let same = ap size c.item-item.is in
    c.in_err-left.ensures (rw c.size.ensures.value (omega (arith, within, le, c.loop-item.invariant, same))))
