-- The room of a row is that of its slots.
use Rattle.std.proofs.Common.{◌≡◌, ℕ, ◌+◌, ◌-◌, ◌≤◌, min, List, length, arith}
use Rattle.property_rows.specs.declared.slot.Slot.{Slot}
use Rattle.property_rows.specs.Slots.{present_properties, most_slots}
use Rattle.property_rows.proofs.Counted.{there_and_gone}

pub same_room : (slots : List Slot) (capacity : ℕ) → length slots ≤ capacity → length slots ≤ most_slots
    → length (present_properties slots) + (min capacity most_slots - length (present_properties slots)) ≡ min capacity most_slots
same_room slots capacity within few =
    let both = there_and_gone slots in
    omega (arith, both, within, few)
