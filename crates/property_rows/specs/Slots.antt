-- The slots of a row of properties, of which some are gone, and the counts by which one finds the others.
use Rattle.std.specs.Prelude.{◌≡◌, ◌≤◌, ℕ, ◌+◌, ◌/◌, ◌%◌, ◌==◌, zero, suc, Bool, not, cond, List, [], ◌∷◌, map, length, take, drop}
use Rattle.std.specs.List.{filter}
use Rattle.lisp_object.specs.declared.datum.Datum.{Datum}
use Rattle.property_rows.specs.declared.slot.Slot.{Slot}
use Rattle.lisp_object.specs.declared.datum.Datum.TheVariants.{Char}
use Rattle.property_rows.specs.declared.property.NumberedProperty.{NumberedProperty}

-- nothing is there any more
abbrev pub is_gone : Slot → Bool
is_gone s = s.gone % 2 == 1

-- the property that a slot has
abbrev pub property_in : Slot → NumberedProperty
property_in s = record { indicator = s.indicator; order = s.order; value = s.value }

-- the properties that are there
abbrev pub present_properties : List Slot → List NumberedProperty
present_properties [] = []
present_properties (s ∷ ss) = cond (is_gone s) (present_properties ss) (property_in s ∷ present_properties ss)

-- how many slots are gone
abbrev pub gone_in : List Slot → ℕ
gone_in [] = 0
gone_in (s ∷ ss) = s.gone % 2 + gone_in ss

-- the slot of the property at an index; where there are not so many, the one after the last
abbrev pub slot_at : List Slot → ℕ → ℕ
slot_at [] i = 0
slot_at (s ∷ ss) zero = cond (is_gone s) (suc (slot_at ss zero)) 0
slot_at (s ∷ ss) (suc i) = suc (slot_at ss (cond (is_gone s) (suc i) i))

-- the slots of a whole tree of a depth: a slot, and before it and after it a tree of one less
abbrev pub whole_tree_length : ℕ → ℕ
whole_tree_length zero = 0
whole_tree_length (suc d) = whole_tree_length d + suc (whole_tree_length d)

-- the slots before a node and after it are as the tree wants them
abbrev pub IsNode : (List Slot → Type 0) → List Slot → List Slot → Type 0
IsNode after before [] = Unit {0}
IsNode after before (s ∷ ss) = (s.gone / 2 ≡ gone_in before) × after ss

-- The slots are those of a tree of this depth, from its front on, and each knows how many are gone in the tree before it.
abbrev pub AreSlotsCounted : ℕ → List Slot → Type 0
AreSlotsCounted zero slots = slots ≡ []
AreSlotsCounted (suc d) slots = AreSlotsCounted d (take (whole_tree_length d) slots) × IsNode (AreSlotsCounted d) (take (whole_tree_length d) slots) (drop (whole_tree_length d) slots)

-- they are those of a tree of this size
pub record IsTree (size : ℕ) (slots : List Slot) : Type 0 where
  pub depth : ℕ
  pub whole : size ≡ whole_tree_length depth
  pub counted : AreSlotsCounted depth slots

-- a size that such a tree has
pub record IsTreeSize (size : ℕ) : Type 0 where
  pub depth : ℕ
  pub whole : size ≡ whole_tree_length depth

-- whether nothing is there any more, and the property
abbrev pub slot_shown : Slot → Bool × NumberedProperty
slot_shown s = (is_gone s, property_in s)

-- what stands for a slot, where there is none
abbrev pub blank : Slot
blank = record { indicator = 0; gone = 0; order = 0; value = Char 0 }

-- what stands for a property where there is none
abbrev pub no_property : NumberedProperty
no_property = record { indicator = 0; order = 0; value = Char 0 }

-- A row has at most this many slots, so that a count has room in a slot.
abbrev pub most_slots : ℕ
most_slots = 2147483647

-- the slots are counted, in each tree that they fit, and not too many
pub record IsSlots (slots : List Slot) : Type 0 where
  pub counted : (d : ℕ) → length slots ≤ whole_tree_length d → AreSlotsCounted d slots
  pub few : length slots ≤ most_slots

-- a slot that is there, and counts nothing
abbrev pub uncounted_slot : Slot → Slot
uncounted_slot s = record { indicator = s.indicator; gone = 0; order = s.order; value = s.value }

-- the slots of what is there, and no others
abbrev pub slots_there : List Slot → List Slot
slots_there slots = map uncounted_slot (filter (λ s. not (is_gone s)) slots)

-- a property with another value
abbrev pub with_value : NumberedProperty → Datum → NumberedProperty
with_value p v = record { indicator = p.indicator; order = p.order; value = v }

-- whether a property has this indicator
abbrev pub has : ℕ → NumberedProperty → Bool
has i p = i == p.indicator
