-- What calls make of slots.
--     within, here, is_there, holds, read_holds      the slot of the property at an index
--     exchanged, left_value, left_there, back_there      what is there, after a write
--     written_slots, turned_slots, next_slots, put_slots, packed_slots      slots that are counted again
--     appended, put_there      a slot more
--     last_there      a slot less
--     either_slots, either_there      after a call that may refuse
--     whole_slice      the slots of a vector whose slice was written
use Rattle.std.proofs.Common.{◌≡◌, ℕ, zero, suc, ◌-◌, ◌*◌, ◌%◌, ◌==◌, ◌≤◌, ◌<◌, Bool, true, false, not, cond, List, [], ◌∷◌, ◌++◌, map, length, take, drop, get_or, set, refl, sym, ap, subst, ◌∙◌, arith}
use Rattle.std.specs.List.{insert, remove, filter}
use Rattle.std.proofs.lemmas.Bool.Decides.{nat_tests}
use Rattle.std.proofs.Math.Seq.{take-append_seam}
use Rattle.std.proofs.lemmas.List.{length-map, length_push}
use Rattle.property_rows.specs.declared.slot.Slot.{Slot}
use Rattle.property_rows.specs.declared.property.NumberedProperty.{NumberedProperty}
use Rattle.property_rows.specs.Slots.{is_gone, property_in, present_properties, slot_at, slot_shown, blank, no_property, most_slots, IsTree, IsSlots, uncounted_slot, slots_there}
use Rattle.property_rows.specs.Vacant.{IsVacantSlot}
use Rattle.property_rows.proofs.Counted.{there-append}
use Rattle.property_rows.proofs.Turned.{Shown, there_of, there_shown, shown-length}
use Rattle.property_rows.proofs.Holding.{slot_at-within, slot_at-shown, removed, replaced, inserted, shown-set, shown-written, shown-turned, got_same}
use Rattle.property_rows.proofs.Packed.{packed-there, uncounted-there, uncounted-slots, tree-slots, slots-same, counts-set, map-insert}

-- the slot of the property at an index
module _ (slots : List Slot) (index at : ℕ) (le : index < length (present_properties slots)) (is : at ≡ slot_at slots index) where
  pub within : at < length slots
  within = let e = slot_at-within slots index le in omega (arith, e, is)

  pub here : slot_shown (get_or slots at blank) ≡ (false, get_or (present_properties slots) index no_property)
  here = ap (λ k. slot_shown (get_or slots k blank)) is ∙ slot_at-shown slots index le

  pub is_there : is_gone (get_or slots at blank) ≡ false
  is_there = ap (λ (e : Shown). e.0) here

  pub holds : property_in (get_or slots at blank) ≡ get_or (present_properties slots) index no_property
  holds = ap (λ (e : Shown). e.1) here

  -- a slot that is read
  pub read_holds : (s : Slot) → s ≡ get_or slots at s → property_in s ≡ get_or (present_properties slots) index no_property
  read_holds s e = ap property_in (got_same slots at s within e) ∙ holds

  -- the slot is written
  pub exchanged : (s t : Slot) → s ≡ get_or slots at s → t.gone ≡ s.gone → present_properties (set slots at t) ≡ set (present_properties slots) index (property_in t)
  exchanged s t e same =
      let not_gone : is_gone t ≡ false = ap (λ n. n % 2 == 1) same ∙ ap is_gone (got_same slots at s within e) ∙ is_there in
      there_shown (set slots at t) ∙ ap there_of (shown-set slots at t) ∙ ap (λ b. there_of (set (map slot_shown slots) at (b, property_in t))) not_gone
      ∙ ap (λ k. there_of (set (map slot_shown slots) k (false, property_in t))) is ∙ replaced slots index (property_in t) le

  -- it left, and was emptied
  module _ (turned : List Slot) (x : Shown) (gone : x.0 ≡ true) (value : x.1 ≡ property_in (get_or slots at blank)) (shows : map slot_shown turned ≡ set (map slot_shown slots) at x)
      (s : Slot) (read : s ≡ get_or turned at s) where
    long : at < length turned
    long = let a = within in let b = shown-length slots turned at x shows in omega (arith, a, b)

    now : slot_shown s ≡ x
    now = ap slot_shown (got_same turned at s long read) ∙ shown-turned slots turned at x within shows

    pub left_value : property_in s ≡ get_or (present_properties slots) index no_property
    left_value = ap (λ (e : Shown). e.1) now ∙ value ∙ holds

    pub left_there : (t : Slot) → t.gone ≡ s.gone → present_properties (set turned at t) ≡ remove (present_properties slots) index
    left_there t same =
        let is_one : is_gone t ≡ true = ap (λ n. n % 2 == 1) same ∙ ap (λ (e : Shown). e.0) now ∙ gone in
        there_shown (set turned at t) ∙ ap there_of (shown-written slots turned at x t shows) ∙ ap (λ b. there_of (set (map slot_shown slots) at (b, property_in t))) is_one
        ∙ ap (λ k. there_of (set (map slot_shown slots) k (true, property_in t))) is ∙ removed slots index (property_in t) le

-- slots of which one is written, whose count stays
pub written_slots : (slots : List Slot) (at : ℕ) (s t : Slot) → at < length slots → s ≡ get_or slots at s → t.gone ≡ s.gone → IsSlots slots → IsSlots (set slots at t)
written_slots slots at s t le read same are = slots-same slots (set slots at t) (counts-set slots at s t le read same) are

-- slots of which one was turned
pub turned_slots : (size : ℕ) (slots turned : List Slot) (at : ℕ) (x : Shown) → map slot_shown turned ≡ set (map slot_shown slots) at x → IsSlots slots → IsTree size turned → IsSlots turned
turned_slots size slots turned at x shows are tree =
    let same = shown-length slots turned at x shows in
    let few = are.few in
    tree-slots size turned (omega (arith, same, few)) tree

-- a slot came back, and was filled
pub back_there : (slots turned : List Slot) (index at : ℕ) (x : Shown) (s t : Slot) → IsVacantSlot slots at index → map slot_shown turned ≡ set (map slot_shown slots) at x → x.0 ≡ false
    → s ≡ get_or turned at s → t.gone ≡ s.gone → present_properties (set turned at t) ≡ insert (present_properties slots) index (property_in t)
back_there slots turned index at x s t is shows here read same =
    let within = is.place in
    let long = shown-length slots turned at x shows in
    let now : slot_shown s ≡ x = ap slot_shown (got_same turned at s (omega (arith, within, long)) read) ∙ shown-turned slots turned at x within shows in
    let not_gone : is_gone t ≡ false = ap (λ n. n % 2 == 1) same ∙ ap (λ (e : Shown). e.0) now ∙ here in
    there_shown (set turned at t) ∙ ap there_of (shown-written slots turned at x t shows) ∙ ap (λ b. there_of (set (map slot_shown slots) at (b, property_in t))) not_gone
    ∙ inserted slots at (property_in t) within is.gone ∙ ap (λ n. insert (present_properties slots) n (property_in t)) is.before

-- ---- a slot more
pub appended : (slots : List Slot) (s : Slot) (n : ℕ) → s.gone ≡ 2 * n → present_properties (slots ++ s ∷ []) ≡ present_properties slots ++ property_in s ∷ []
appended slots s n e =
    let is : is_gone s ≡ false = grind (arith, nat_tests, e) in
    there-append slots (s ∷ []) ∙ ap (λ g. present_properties slots ++ cond g [] (property_in s ∷ [])) is

-- ---- a slot less
pub last_there : (old new : List Slot) (s : Slot) → old ≡ new ++ s ∷ [] → is_gone s ≡ false → present_properties new ≡ take (length (present_properties old) - 1) (present_properties old)
last_there old new s e is =
    let both : present_properties old ≡ present_properties new ++ property_in s ∷ [] = ap present_properties e ∙ there-append new (s ∷ []) ∙ ap (λ g. present_properties new ++ cond g [] (property_in s ∷ [])) is in
    let long = ap length both in
    let more = length_push (present_properties new) (property_in s) in
    let one_less : length (present_properties old) - 1 ≡ length (present_properties new) = omega (arith, long, more) in
    sym (ap (take (length (present_properties old) - 1)) both ∙ ap (λ n. take n (present_properties new ++ property_in s ∷ [])) one_less ∙ take-append_seam (present_properties new) (property_in s ∷ []))

-- ---- a slot among packed ones
abbrev kept : List Slot → List Slot
kept slots = filter (λ s. not (is_gone s)) slots

put_is : (slots : List Slot) (i : ℕ) (t : Slot) → t.gone ≡ 0 → insert (slots_there slots) i t ≡ map uncounted_slot (insert (kept slots) i t)
put_is slots i t none =
    let same : uncounted_slot t ≡ t = λ j. record { indicator = t.indicator; gone = sym none j; order = t.order; value = t.value } in
    ap (insert (slots_there slots) i) (sym same) ∙ sym (map-insert uncounted_slot (kept slots) i t)

pub put_slots : (slots : List Slot) (i : ℕ) (t : Slot) → t.gone ≡ 0 → length (slots_there slots) < most_slots → IsSlots (insert (slots_there slots) i t)
put_slots slots i t none few =
    let long = length-map (kept slots) uncounted_slot in
    let more = long_insert (kept slots) i t in
    subst IsSlots (sym (put_is slots i t none)) (uncounted-slots (insert (kept slots) i t) (omega (arith, long, more, few)))
  where
    long_insert : (xs : List Slot) (i : ℕ) (x : Slot) → length (insert xs i x) ≡ suc (length xs)
    long_insert xs zero x = refl
    long_insert [] (suc i) x = refl
    long_insert (y ∷ ys) (suc i) x = ap suc (long_insert ys i x)

pub put_there : (slots : List Slot) (i : ℕ) (t : Slot) → t.gone ≡ 0 → present_properties (insert (slots_there slots) i t) ≡ insert (present_properties slots) i (property_in t)
put_there slots i t none =
    ap present_properties (put_is slots i t none) ∙ uncounted-there (insert (kept slots) i t) ∙ map-insert property_in (kept slots) i t
    ∙ ap (λ ps. insert ps i (property_in t)) (sym (uncounted-there (kept slots)) ∙ packed-there slots)

pub packed_slots : (slots : List Slot) → IsSlots slots → IsSlots (slots_there slots)
packed_slots slots are =
    let long = length-map (kept slots) uncounted_slot in
    let few = are.few in
    let less = packed_short slots in
    uncounted-slots (kept slots) (omega (arith, long, few, less))
  where
    packed_short : (slots : List Slot) → length (slots_there slots) ≤ length slots
    packed_short [] = omega arith
    packed_short (s ∷ ss) =
        elim (is_gone s) as (λ g. length (map uncounted_slot (cond (not g) (s ∷ kept ss) (kept ss))) ≤ suc (length ss)) [
          | true ↦ let e = packed_short ss in omega (arith, e)
          | false ↦ let e = packed_short ss in omega (arith, e)
        ]

-- ---- what `push` and `insert` leave, where they may refuse
pub either_slots : (b : Bool) (later old new : List Slot) → later ≡ cond b new old → IsSlots old → IsSlots new → IsSlots later
either_slots true later old new e a c = subst IsSlots (sym e) c
either_slots false later old new e a c = subst IsSlots (sym e) a

pub either_there : (b d : Bool) (later old new : List Slot) (ps qs : List NumberedProperty) → later ≡ cond b new old → b ≡ d → present_properties old ≡ ps → present_properties new ≡ qs → present_properties later ≡ cond d qs ps
either_there true d later old new ps qs e same a c = ap present_properties e ∙ c ∙ ap (λ b. cond b qs ps) same
either_there false d later old new ps qs e same a c = ap present_properties e ∙ a ∙ ap (λ b. cond b qs ps) same

pub next_slots : (slots : List Slot) (size : ℕ) (s : Slot) → length slots < most_slots → IsTree size (slots ++ s ∷ []) → IsSlots (slots ++ s ∷ [])
next_slots slots size s few tree = let long = length_push slots s in tree-slots size (slots ++ s ∷ []) (omega (arith, few, long)) tree

-- the slots of a vector whose slice was written
pub whole_slice : (count : ℕ) (new old : List Slot) → count ≡ length old → length new ≡ length old → take count (new ++ drop (length new) old) ≡ new
whole_slice count new old all same =
    let e : count ≡ length new = omega (arith, all, same) in
    ap (λ n. take n (new ++ drop (length new) old)) e ∙ take-append_seam new (drop (length new) old)
