-- A slot to which a property may come back.
use Rattle.std.specs.Prelude.{◌≡◌, ◌<◌, ℕ, true, List, length, take}
use Rattle.std.specs.List.{slice_index_or}
use Rattle.property_rows.specs.declared.slot.Slot.{Slot}
use Rattle.property_rows.specs.Slots.{is_gone, present_properties, blank}

-- It is gone, and so many properties are there before it.
pub record IsVacantSlot (slots : List Slot) (at index : ℕ) : Type 0 where
  pub place : at < length slots
  pub gone : is_gone (slice_index_or slots at blank) ≡ true
  pub before : length (present_properties (take at slots)) ≡ index
