-- What contracts see of a row, and what holds of it.
use Rattle.std.specs.Prelude.{◌-◌, length, vec_capacity, min}
use Rattle.property_rows.specs.declared.row.Row.TheInside.{Inside}
use Rattle.property_rows.specs.Slots.{present_properties, most_slots, IsSlots}
use Rattle.property_rows.specs.Rows.{PropertyRow}

-- a row of the program, as one of the logic
abbrev pub row_in : Inside → PropertyRow
row_in a = record { items = present_properties a.slots.items; spare = min (vec_capacity a.slots) most_slots - length (present_properties a.slots.items) }

-- what holds of each row
abbrev pub IsRow : Inside → Type 0
IsRow a = IsSlots a.slots.items
