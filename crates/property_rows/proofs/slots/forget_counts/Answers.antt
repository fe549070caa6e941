use Rattle.std.proofs.Common.{get_or, ap, arith}
use Rattle.property_rows.specs.declared.slot.Slot.{Slot}
use Rattle.property_rows.proofs.Packed.{forgets_next}
use Rattle.property_rows.proofs.slots.forget_counts.Goals as goal

pub loop-slot-preserved : goal.loop-slot-preserved
loop-slot-preserved c =
    let k = c.loop-slot.slot-index in
    let s : Slot = get_or c.loop-slot.slots k c.slot-item.result in
    forgets_next c.args.slots.now c.loop-slot.slots k s c.loop-slot.invariant (omega (arith, c.loop-slot-test.true, c.loop-slot.auto.slots)) (ap (get_or c.loop-slot.slots k) c.slot-item.is)
