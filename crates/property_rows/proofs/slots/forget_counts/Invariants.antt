use Rattle.std.proofs.Common.{◌≡◌, ◌++◌, map, take, drop}
use Rattle.property_rows.specs.Slots.{uncounted_slot}
use Rattle.property_rows.proofs.slots.forget_counts.Given as goal

abbrev pub invariant-loop-slot : goal.invariant-loop-slot
invariant-loop-slot l = l.slots ≡ map uncounted_slot (take l.slot-index l.initial.slots) ++ drop l.slot-index l.initial.slots
