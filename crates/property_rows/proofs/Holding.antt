-- The slots of properties.
--     slot_at-within, slot_at-shown      the slot of a property
--     removed, replaced, inserted      a slot that leaves, is written, or comes back
--     shown-set, shown-written, shown-turned, got_same      what slots show, after a write
use Rattle.std.proofs.Common.{◌≡◌, ℕ, zero, suc, ◌<◌, true, false, cond, List, [], ◌∷◌, map, length, take, get_or, set, refl, sym, ap, ◌∙◌, arith}
use Rattle.std.specs.List.{insert, remove}
use Rattle.property_rows.specs.declared.slot.Slot.{Slot}
use Rattle.property_rows.specs.declared.property.NumberedProperty.{NumberedProperty}
use Rattle.property_rows.specs.Slots.{is_gone, property_in, present_properties, slot_at, slot_shown, blank, no_property}
use Rattle.std.proofs.lemmas.List.{length-map}
use Rattle.property_rows.proofs.Turned.{Shown, there_of, there_shown, shown_at}

pub slot_at-within : (slots : List Slot) (i : ℕ) → i < length (present_properties slots) → slot_at slots i < length slots
slot_at-within [] i le = absurd (omega (arith, le))
slot_at-within (s ∷ ss) zero le =
    elim (is_gone s) as (λ g. zero < length (cond g (present_properties ss) (property_in s ∷ present_properties ss)) → cond g (suc (slot_at ss zero)) 0 < suc (length ss)) [
      | true ↦ λ le. let h = slot_at-within ss zero le in omega (arith, h)
      | false ↦ λ le. omega arith
    ] le
slot_at-within (s ∷ ss) (suc i) le =
    elim (is_gone s) as (λ g. suc i < length (cond g (present_properties ss) (property_in s ∷ present_properties ss)) → suc (slot_at ss (cond g (suc i) i)) < suc (length ss)) [
      | true ↦ λ le. let h = slot_at-within ss (suc i) le in omega (arith, h)
      | false ↦ λ le. let h = slot_at-within ss i (omega (arith, le)) in omega (arith, h)
    ] le

pub slot_at-shown : (slots : List Slot) (i : ℕ) → i < length (present_properties slots) → slot_shown (get_or slots (slot_at slots i) blank) ≡ (false, get_or (present_properties slots) i no_property)
slot_at-shown [] i le = absurd (omega (arith, le))
slot_at-shown (s ∷ ss) zero le =
    elim (is_gone s) as (λ g. is_gone s ≡ g → zero < length (cond g (present_properties ss) (property_in s ∷ present_properties ss))
    → slot_shown (get_or (s ∷ ss) (cond g (suc (slot_at ss zero)) 0) blank) ≡ (false, get_or (cond g (present_properties ss) (property_in s ∷ present_properties ss)) zero no_property)) [
      | true ↦ λ t le. slot_at-shown ss zero le
      | false ↦ λ t le. ap (λ b. (b, property_in s)) t
    ] refl le
slot_at-shown (s ∷ ss) (suc i) le =
    elim (is_gone s) as (λ g. suc i < length (cond g (present_properties ss) (property_in s ∷ present_properties ss))
    → slot_shown (get_or ss (slot_at ss (cond g (suc i) i)) blank) ≡ (false, get_or (cond g (present_properties ss) (property_in s ∷ present_properties ss)) (suc i) no_property)) [
      | true ↦ λ le. slot_at-shown ss (suc i) le
      | false ↦ λ le. slot_at-shown ss i (omega (arith, le))
    ] le

pub removed : (slots : List Slot) (i : ℕ) (q : NumberedProperty) → i < length (present_properties slots) → there_of (set (map slot_shown slots) (slot_at slots i) (true, q)) ≡ remove (present_properties slots) i
removed [] i q le = absurd (omega (arith, le))
removed (s ∷ ss) zero q le =
    elim (is_gone s) as (λ g. zero < length (cond g (present_properties ss) (property_in s ∷ present_properties ss))
    → there_of (set ((g, property_in s) ∷ map slot_shown ss) (cond g (suc (slot_at ss zero)) 0) (true, q)) ≡ remove (cond g (present_properties ss) (property_in s ∷ present_properties ss)) zero) [
      | true ↦ λ le. removed ss zero q le
      | false ↦ λ le. sym (there_shown ss)
    ] le
removed (s ∷ ss) (suc i) q le =
    elim (is_gone s) as (λ g. suc i < length (cond g (present_properties ss) (property_in s ∷ present_properties ss))
    → there_of ((g, property_in s) ∷ set (map slot_shown ss) (slot_at ss (cond g (suc i) i)) (true, q)) ≡ remove (cond g (present_properties ss) (property_in s ∷ present_properties ss)) (suc i)) [
      | true ↦ λ le. removed ss (suc i) q le
      | false ↦ λ le. ap (λ ps. property_in s ∷ ps) (removed ss i q (omega (arith, le)))
    ] le

pub replaced : (slots : List Slot) (i : ℕ) (q : NumberedProperty) → i < length (present_properties slots) → there_of (set (map slot_shown slots) (slot_at slots i) (false, q)) ≡ set (present_properties slots) i q
replaced [] i q le = absurd (omega (arith, le))
replaced (s ∷ ss) zero q le =
    elim (is_gone s) as (λ g. zero < length (cond g (present_properties ss) (property_in s ∷ present_properties ss))
    → there_of (set ((g, property_in s) ∷ map slot_shown ss) (cond g (suc (slot_at ss zero)) 0) (false, q)) ≡ set (cond g (present_properties ss) (property_in s ∷ present_properties ss)) zero q) [
      | true ↦ λ le. replaced ss zero q le
      | false ↦ λ le. ap (λ ps. q ∷ ps) (sym (there_shown ss))
    ] le
replaced (s ∷ ss) (suc i) q le =
    elim (is_gone s) as (λ g. suc i < length (cond g (present_properties ss) (property_in s ∷ present_properties ss))
    → there_of ((g, property_in s) ∷ set (map slot_shown ss) (slot_at ss (cond g (suc i) i)) (false, q)) ≡ set (cond g (present_properties ss) (property_in s ∷ present_properties ss)) (suc i) q) [
      | true ↦ λ le. replaced ss (suc i) q le
      | false ↦ λ le. ap (λ ps. property_in s ∷ ps) (replaced ss i q (omega (arith, le)))
    ] le

-- a slot that is gone
pub inserted : (slots : List Slot) (j : ℕ) (q : NumberedProperty) → j < length slots → is_gone (get_or slots j blank) ≡ true
    → there_of (set (map slot_shown slots) j (false, q)) ≡ insert (present_properties slots) (length (present_properties (take j slots))) q
inserted [] j q le gone = absurd (omega (arith, le))
inserted (s ∷ ss) zero q le gone = ap (λ ps. q ∷ ps) (sym (ap (λ g. cond g (present_properties ss) (property_in s ∷ present_properties ss)) gone ∙ there_shown ss))
inserted (s ∷ ss) (suc j) q le gone =
    elim (is_gone s) as (λ g. there_of ((g, property_in s) ∷ set (map slot_shown ss) j (false, q))
    ≡ insert (cond g (present_properties ss) (property_in s ∷ present_properties ss)) (length (cond g (present_properties (take j ss)) (property_in s ∷ present_properties (take j ss)))) q) [
      | true ↦ inserted ss j q (omega (arith, le)) gone
      | false ↦ ap (λ ps. property_in s ∷ ps) (inserted ss j q (omega (arith, le)) gone)
    ]

-- ---- what slots show, after a write
pub shown-set : (slots : List Slot) (k : ℕ) (t : Slot) → map slot_shown (set slots k t) ≡ set (map slot_shown slots) k (slot_shown t)
shown-set [] k t = refl
shown-set (s ∷ ss) zero t = refl
shown-set (s ∷ ss) (suc k) t = ap (λ es. slot_shown s ∷ es) (shown-set ss k t)

set-twice : (es : List Shown) (k : ℕ) (x y : Shown) → set (set es k x) k y ≡ set es k y
set-twice [] k x y = refl
set-twice (e ∷ es) zero x y = refl
set-twice (e ∷ es) (suc k) x y = ap (λ ts. e ∷ ts) (set-twice es k x y)

set-got : (es : List Shown) (k : ℕ) (x d : Shown) → k < length es → get_or (set es k x) k d ≡ x
set-got [] k x d le = absurd (omega (arith, le))
set-got (e ∷ es) zero x d le = refl
set-got (e ∷ es) (suc k) x d le = set-got es k x d (omega (arith, le))

-- a slot was turned, and then written
pub shown-written : (a b : List Slot) (k : ℕ) (x : Shown) (t : Slot) → map slot_shown b ≡ set (map slot_shown a) k x → map slot_shown (set b k t) ≡ set (map slot_shown a) k (slot_shown t)
shown-written a b k x t e = shown-set b k t ∙ ap (λ es. set es k (slot_shown t)) e ∙ set-twice (map slot_shown a) k x (slot_shown t)

pub shown-turned : (a b : List Slot) (k : ℕ) (x : Shown) → k < length a → map slot_shown b ≡ set (map slot_shown a) k x → slot_shown (get_or b k blank) ≡ x
shown-turned a b k x le e =
    let long = length-map a slot_shown in
    sym (shown_at b k blank) ∙ ap (λ es. get_or es k (slot_shown blank)) e ∙ set-got (map slot_shown a) k x (slot_shown blank) (omega (arith, le, long))

pub got_same : (slots : List Slot) (k : ℕ) (s : Slot) → k < length slots → s ≡ get_or slots k s → s ≡ get_or slots k blank
got_same [] k s le e = absurd (omega (arith, le))
got_same (t ∷ ts) zero s le e = e
got_same (t ∷ ts) (suc k) s le e = got_same ts k s (omega (arith, le)) e
