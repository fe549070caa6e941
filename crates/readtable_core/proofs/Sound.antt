-- Every change keeps what holds of every readtable.
use Rattle.std.proofs.Common.{◌≡◌, ℕ, ◌<◌, Bool, true, false, ◌||◌, List, [], get_or, length, map, set, replicate, refl, arith, rules, ◌∙◌, sym, ap, subst, Option, Some, None, is_some, inl, inr, IsTrue, IsFalse, length-set, get_or-set_same, get_or-set_other, ◌≢◌, ◌==◌, if◌then◌else◌}
use Rattle.std.specs.List.{range_with_len}
use Rattle.std.specs.Char.{to_ascii_uppercase}
use Rattle.std.proofs.lemmas.Grind.{common_steps}
use Rattle.std.proofs.lemmas.List.FromFn.{length-map-range_with_len}
use Rattle.std.proofs.lemmas.List.{get_or_past, get_or-replicate, length-replicate}
use Rattle.std.proofs.lemmas.Bool.{cases_lt, cases_eq}
use Rattle.readtable_core.specs.Characters.{standard_syntax, is_lower_case, is_digit, upper_case}
use Rattle.readtable_core.specs.Names.{is_function_name, is_dispatch_name}
use Rattle.readtable_core.specs.Tables.{CharacterEntry, Table, standard, standard_entry, standard_function, standard_sub_function, no_entry}
use Rattle.readtable_core.specs.Sound.{IsCharacterEntry, IsReadtable, is_macro, is_dispatching, dispatches, is_none_or_name}
use Rattle.readtable_core.specs.Changes.{with_character_entry, macro_entry, macro_syntax, dispatching_entry, with_dispatch_function}
use Rattle.readtable_core.proofs.Standard.{standard_at, sub_at}

macro_is_macro : (b : Bool) → true ≡ is_macro (macro_syntax b)
macro_is_macro true = refl
macro_is_macro false = refl

pub macro_sound : (name : List ℕ) (b : Bool) → IsFalse (is_dispatch_name name) → IsTrue (is_function_name name) → IsCharacterEntry (macro_entry name b)
macro_sound name b h fits = record {
  function = macro_is_macro b;
  places = rw h refl;
  keys = λ sub _. refl;
  values = λ sub. search rules;
  name = fits;
  names = λ sub. search rules;
}

none_filled : (sub : ℕ) → let none : Option (List ℕ) = None in get_or (replicate 128 none) sub None ≡ None
none_filled sub =
    let none : Option (List ℕ) = None in
    elim (cases_lt sub 128) [ inl below ↦ get_or-replicate 128 sub none none below | inr past ↦ get_or_past (replicate 128 none) sub none (rw length-replicate past) ]

pub dispatching_sound : (b : Bool) → IsCharacterEntry (dispatching_entry b)
dispatching_sound b = record {
  function = macro_is_macro b;
  places = refl;
  keys = λ sub _. none_filled sub;
  values = λ sub. rw none_filled (search rules);
  name = refl;
  names = λ sub. rw none_filled (search rules);
}

pub sub_keys : (sub : ℕ) → IsTrue (is_lower_case sub || is_digit sub) → standard_sub_function sub ≡ None
sub_keys sub h = grind (arith, common_steps)

pub sub_values : (sub : ℕ) → IsFalse (dispatches (standard_sub_function sub))
sub_values sub = grind (arith, common_steps)

pub sub_named : (sub : ℕ) → IsTrue (is_none_or_name (standard_sub_function sub))
sub_named sub = grind (arith, common_steps)

pub function_named : (c : ℕ) → IsTrue (is_none_or_name (standard_function c))
function_named c = grind (arith, common_steps)

pub function_macro : (c : ℕ) → is_some (standard_function c) ≡ is_macro (standard_syntax c)
function_macro c = grind (arith, common_steps)

pub function_dispatches : (c : ℕ) → dispatches (standard_function c) ≡ (c == 35)
function_dispatches c = grind (arith, common_steps)

dispatch_of_hash : Bool → List (Option (List ℕ))
dispatch_of_hash b = if b then map standard_sub_function (range_with_len 0 128) else []

places_by : (b : Bool) → length (dispatch_of_hash b) ≡ (if b then 128 else 0)
unfolding dispatch_of_hash
places_by true = length-map-range_with_len standard_sub_function 0 128
places_by false = refl

keys_by : (b : Bool) (sub : ℕ) → IsTrue (is_lower_case sub || is_digit sub) → get_or (dispatch_of_hash b) sub None ≡ None
unfolding dispatch_of_hash
keys_by true sub h = sub_at sub ∙ sub_keys sub h
keys_by false sub h = refl

values_by : (b : Bool) (sub : ℕ) → IsFalse (dispatches (get_or (dispatch_of_hash b) sub None))
unfolding dispatch_of_hash
values_by true sub = ap dispatches (sub_at sub) ∙ sub_values sub
values_by false sub = refl

names_by : (b : Bool) (sub : ℕ) → IsTrue (is_none_or_name (get_or (dispatch_of_hash b) sub None))
unfolding dispatch_of_hash
names_by true sub = ap is_none_or_name (sub_at sub) ∙ sub_named sub
names_by false sub = refl

pub standard_entry_sound : (c : ℕ) → IsCharacterEntry (standard_entry c)
unfolding dispatch_of_hash
standard_entry_sound c = record {
  function = function_macro c;
  places = rw function_dispatches (places_by (c == 35));
  keys = keys_by (c == 35);
  values = values_by (c == 35);
  name = function_named c;
  names = names_by (c == 35);
}

pub standard_sound : IsReadtable standard
unfolding standard
standard_sound = record {
  count = length-map-range_with_len standard_entry 0 128;
  each = λ c. subst IsCharacterEntry (sym (standard_at c)) (standard_entry_sound c);
}

pub kept : (t : Table) (c : ℕ) (e : CharacterEntry) → c < 128 → IsReadtable t → IsCharacterEntry e → IsReadtable (with_character_entry t c e)
kept t c e below s i = record {
  count = length-set t.entries c e ∙ s.count;
  each = λ k. elim (cases_eq k c) [
    | inl same ↦ subst IsCharacterEntry (sym (ap (λ n. get_or (set t.entries c e) n no_entry) same ∙ get_or-set_same t.entries c e no_entry (rw s.count below))) i
    | inr other ↦ subst IsCharacterEntry (sym (get_or-set_other t.entries c k e no_entry other)) (s.each k)
  ];
}

upper_is_no_key : (k sub : ℕ) → IsTrue (is_lower_case k || is_digit k) → IsFalse (is_digit sub) → k ≢ upper_case sub
upper_is_no_key k sub h g = grind (arith, common_steps)

pub upper_is : (c : ℕ) → to_ascii_uppercase c ≡ upper_case c
upper_is c = grind (arith, common_steps)

upper_below : (sub : ℕ) → sub < 128 → upper_case sub < 128
upper_below sub below = grind (arith, common_steps)

-- a test that each place passes, and the new function too, is passed by each place afterwards
each_place : (test : Option (List ℕ) → Bool) (b : Bool) (places : List (Option (List ℕ))) (i : ℕ) (name : List ℕ) → i < length places
    → test (Some name) ≡ b → ((k : ℕ) → test (get_or places k None) ≡ b) → (k : ℕ) → test (get_or (set places i (Some name)) k None) ≡ b
each_place test b places i name below new old k = elim (cases_eq k i) [
  | inl same ↦ ap (λ n. test (get_or (set places i (Some name)) n None)) same ∙ ap test (get_or-set_same places i (Some name) None below) ∙ new
  | inr differs ↦ ap test (get_or-set_other places i k (Some name) None differs) ∙ old k
]

pub function_sound : (e : CharacterEntry) (sub : ℕ) (name : List ℕ) → IsCharacterEntry e → upper_case sub < length e.dispatch → IsFalse (is_digit sub)
    → IsFalse (is_dispatch_name name) → IsTrue (is_function_name name) → IsCharacterEntry (with_dispatch_function e sub name)
function_sound e sub name s below digit other fits = record {
  function = s.function;
  places = length-set e.dispatch (upper_case sub) (Some name) ∙ s.places;
  keys = λ k h. get_or-set_other e.dispatch (upper_case sub) k (Some name) None (upper_is_no_key k sub h digit) ∙ s.keys k h;
  values = each_place dispatches false e.dispatch (upper_case sub) name below other s.values;
  name = s.name;
  names = each_place is_none_or_name true e.dispatch (upper_case sub) name below fits s.names;
}

pub place_of : (e : CharacterEntry) (sub : ℕ) → IsCharacterEntry e → is_dispatching e ≡ true → sub < 128 → upper_case sub < length e.dispatch
place_of e sub s d below = rw (s.places, d) (upper_below sub below)
