-- The entry of a macro character, as it is made: its function, and its sub-characters one after the other.
use Rattle.std.proofs.Common.{◌≡◌, ℕ, inl, inr, ◌+◌, ◌<◌, Bool, true, false, List, [], ◌∷◌, ◌++◌, length, map, drop, get_or, set, replicate, Option, Some, None, IsTrue, refl, sym, ap, subst, ◌∙◌, arith, length-set}
use Rattle.std.specs.Prelude.{◌||◌, is_some, unwrap_or, option_map, if◌then◌else◌}
use Rattle.std.specs.List.{list_all, flat_map, range_with_len}
use Rattle.std.specs.Option.{option_map_or}
use Rattle.std.specs.Cmp.Lexicographic.{bytes_decides}
use Rattle.std.proofs.lemmas.Bool.{and_parts, both_ways, cases_lt}
use Rattle.std.proofs.Math.Seq.{drop-length}
use Rattle.std.proofs.lemmas.List.{length-replicate, get_or-replicate, get_or_past, get_or-map, length-map}
use Rattle.lisp_object.specs.declared.datum.Datum.{Datum}
use Rattle.lisp_object.specs.Object.{Object, text, list_of}
use Rattle.lisp_object.specs.Datum.{object_of, is_proper}
use Rattle.readtable_core.specs.Characters.{is_lower_case, is_digit}
use Rattle.readtable_core.specs.Names.{is_function_name, is_dispatch_name, dispatch_name}
use Rattle.readtable_core.specs.Tables.{CharacterEntry, Table, entry_at}
use Rattle.readtable_core.specs.Sound.{IsCharacterEntry, is_macro, is_dispatching, dispatches, is_none_or_name}
use Rattle.readtable_core.specs.Changes.{with_character_entry, with_dispatch_function, macro_entry, macro_syntax, dispatching_entry}
use Rattle.readtable_core.proofs.Named.{all_named, passes}
use Rattle.package_table.specs.Table.{Name, keyword}
use Rattle.package_table.specs.Lookup.{is_symbol}
use Rattle.package_table.specs.Table as packages
use Rattle.plist_state.specs.State.{WorldState}
use Rattle.plist_state.specs.Sound.{IsSymbol}
use Rattle.world_text.specs.Snapshot.{number, dispatch_object, dispatch_objects}
use Rattle.snapshot_text.specs.BuiltWorlds.{with_table, IsWritable, IsSubFunction, IsNamedEntry}
use Rattle.snapshot_text.proofs.Filling.{updates, put_all, update_at, update_below, filled, put_next}
use Rattle.snapshot_text.proofs.ReadRows.{passing_item}
use Rattle.snapshot_text.proofs.ReadParts.{item_at, item_count}
use Rattle.snapshot_text.proofs.TableParts.{table_twice, entry_twice, entry_there, still_writable, symbol_is, upper_same}

-- ---- the function
macro_is : (b : Bool) → is_macro (macro_syntax b) ≡ true
macro_is true = refl
macro_is false = refl

-- the function of a macro character
pub function_of : CharacterEntry → Name
function_of e = unwrap_or e.function []

pub has_function : (e : CharacterEntry) (b : Bool) → IsCharacterEntry e → e.syntax ≡ macro_syntax b → e.function ≡ Some (function_of e)
unfolding function_of
has_function e b sound is =
    elim e.function as (λ o. is_some o ≡ true → o ≡ Some (unwrap_or o [])) [
      | None ↦ λ e. absurd cc
      | Some f ↦ λ e. refl
    ] (sound.function ∙ ap is_macro is ∙ macro_is b)

pub function_is : (e : CharacterEntry) → function_of e ≡ unwrap_or e.function []
unfolding function_of
function_is e = refl

pub function_name : (e : CharacterEntry) (b : Bool) → IsCharacterEntry e → e.syntax ≡ macro_syntax b → IsTrue (is_function_name (function_of e))
function_name e b sound is = ap is_none_or_name (sym (has_function e b sound is)) ∙ sound.name

pub function_named : (t : packages.Table) (e : CharacterEntry) (b : Bool) → IsNamedEntry t e → e.syntax ≡ macro_syntax b → IsSymbol t (keyword, function_of e)
function_named t e b sound is =
    let all = sym (all_named (is_symbol t keyword) (e.function ∷ e.dispatch)) ∙ sound.functions in
    symbol_is t keyword (function_of e) (ap (passes (is_symbol t keyword)) (sym (has_function e b sound.entry is))
    ∙ (and_parts (passes (is_symbol t keyword) e.function) (list_all (passes (is_symbol t keyword)) e.dispatch) all).0)

-- an entry without a dispatch table
none : {A : Type 0} (xs : List A) → length xs ≡ 0 → xs ≡ []
none [] e = refl
none (x ∷ xs) e = absurd (omega arith)

pub no_places : (e : CharacterEntry) → IsCharacterEntry e → is_dispatching e ≡ false → e.dispatch ≡ []
no_places e sound other = none e.dispatch (sound.places ∙ ap (λ b. if b then 128 else 0) other)

pub macro_is_entry : (e : CharacterEntry) (b : Bool) → IsCharacterEntry e → e.syntax ≡ macro_syntax b → is_dispatch_name (function_of e) ≡ false → macro_entry (function_of e) b ≡ e
macro_is_entry e b sound is other =
    let function = has_function e b sound is in
    let dispatch = no_places e sound (ap dispatches function ∙ other) in
    λ i. record { syntax = sym is i; function = sym function i; dispatch = sym dispatch i }

-- ---- the sub-characters
abbrev pub sub_update : List (Option Name) → ℕ → Option (Option Name)
sub_update fs sub = option_map (λ f. Some f) (get_or fs sub None)

abbrev pub subs : CharacterEntry → List (ℕ × Option Name)
subs e = updates (sub_update e.dispatch) (range_with_len 0 128)

abbrev pub sub_object : ℕ × Option Name → Object
sub_object u = list_of (number u.0 ∷ text (unwrap_or u.1 []) ∷ [])

flat_updates : (fs : List (Option Name)) (xs : List ℕ) → flat_map (λ sub. dispatch_object (get_or fs sub None) sub) xs ≡ map sub_object (updates (sub_update fs) xs)
flat_updates fs [] = refl
flat_updates fs (x ∷ xs) =
    elim (get_or fs x None) as (λ o. dispatch_object o x ++ flat_map (λ sub. dispatch_object (get_or fs sub None) sub) xs
    ≡ map sub_object (option_map_or (λ y. (x, y) ∷ updates (sub_update fs) xs) (option_map (λ f. Some f) o) (updates (sub_update fs) xs))) [
      | None ↦ flat_updates fs xs
      | Some f ↦ ap (λ ys. list_of (number x ∷ text f ∷ []) ∷ ys) (flat_updates fs xs)
    ]

pub subs_are : (e : CharacterEntry) → dispatch_objects e ≡ map sub_object (subs e)
unfolding dispatch_objects
subs_are e = flat_updates e.dispatch (range_with_len 0 128)

abbrev pub with_places : CharacterEntry → List (Option Name) → CharacterEntry
with_places e places = record e { dispatch = places }

-- The readtable has at c the entry e, but for the pairs that are left.
pub record IsFilling (s : WorldState) (n : Name) (t : Table) (c : ℕ) (e : CharacterEntry) (pairs : List Datum) (k : ℕ) (now : WorldState) : Type 0 where
  pub proper : list_all is_proper pairs ≡ true
  pub objects : map object_of pairs ≡ dispatch_objects e
  pub places : List (Option Name)
  pub is : now ≡ with_table s n (with_character_entry t c (with_places e places))
  pub left : put_all places (drop k (subs e)) ≡ e.dispatch

dispatching_is : (e : CharacterEntry) (b : Bool) → IsCharacterEntry e → e.syntax ≡ macro_syntax b → is_dispatch_name (function_of e) ≡ true → dispatching_entry b ≡ with_places e (replicate 128 None)
dispatching_is e b sound is named =
    let function : Some dispatch_name ≡ e.function = ap Some ((bytes_decides dispatch_name (function_of e)).0 named) ∙ sym (has_function e b sound is) in
    λ i. record { syntax = sym is i; function = function i; dispatch = replicate 128 None }

many_places : (e : CharacterEntry) (b : Bool) → IsCharacterEntry e → e.syntax ≡ macro_syntax b → is_dispatch_name (function_of e) ≡ true → length e.dispatch ≡ 128
many_places e b sound is named = sound.places ∙ ap (λ b. if b then 128 else 0) (ap dispatches (has_function e b sound is) ∙ named)

pub first_filling : (s : WorldState) (n : Name) (t : Table) (c : ℕ) (e : CharacterEntry) (b : Bool) (pairs : List Datum) (now : WorldState) → IsCharacterEntry e → e.syntax ≡ macro_syntax b
    → is_dispatch_name (function_of e) ≡ true → list_all is_proper pairs ≡ true → map object_of pairs ≡ dispatch_objects e
    → now ≡ with_table s n (with_character_entry t c (dispatching_entry b)) → IsFilling s n t c e pairs 0 now
first_filling s n t c e b pairs now sound is named proper objects made = record {
  proper = proper;
  objects = objects;
  places = replicate 128 None;
  is = made ∙ ap (λ f. with_table s n (with_character_entry t c f)) (dispatching_is e b sound is named);
  left = filled (sub_update e.dispatch) None e.dispatch (replicate 128 None) 0 128 refl (many_places e b sound is named) (λ q small. absurd (omega arith))
      (λ q past nothing. blank q ∙ sym (unset (get_or e.dispatch q None) nothing))
      (λ q x some. set_to (get_or e.dispatch q None) x some);
}
  where
    blank : (q : ℕ) → let no : Option Name = None in get_or (replicate 128 no) q no ≡ no
    blank q =
        let no : Option Name = None in
        elim (cases_lt q 128) [ inl below ↦ get_or-replicate 128 q no no below | inr past ↦ get_or_past (replicate 128 no) q no (rw length-replicate past) ]

    unset : (o : Option Name) → option_map (λ f. Some f) o ≡ None → o ≡ None
    unset None e = refl
    unset (Some f) e = absurd cc

    set_to : (o x : Option Name) → option_map (λ f. Some f) o ≡ Some x → x ≡ o
    set_to None x e = absurd cc
    set_to (Some f) x e = let same : Some f ≡ x = cc in sym same

-- the pair at an index is a function that may be set at a sub-character, in a readtable that may be written
pub record IsPair (s : WorldState) (n : Name) (t : Table) (c : ℕ) (e : CharacterEntry) (pairs : List Datum) (k : ℕ) (now : WorldState) (pair : Datum) : Type 0 where
  pub proper : is_proper pair ≡ true
  pub sub : ℕ
  pub function : Name
  pub object : object_of pair ≡ list_of (number sub ∷ text function ∷ [])
  pub may_be : IsSubFunction now.packages sub function
  pub table : Table
  pub writable : IsWritable now.readtables n table
  pub dispatching : is_dispatching (entry_at table c) ≡ true
  pub later : (after : WorldState) → after ≡ with_table now n (with_character_entry table c (with_dispatch_function (entry_at table c) sub function)) → IsFilling s n t c e pairs (k + 1) after

no_key : (a : Bool) (o : Option Name) → is_some o ≡ true → (IsTrue a → o ≡ None) → a ≡ false
no_key true o some nothing = absurd (let e : o ≡ None = nothing refl in both_ways (is_some o) (ap is_some e) some)
no_key false o some nothing = refl

of_update : (o x : Option Name) → option_map (λ f. Some f) o ≡ Some x → (o ≡ Some (unwrap_or x [])) × (x ≡ Some (unwrap_or x []))
of_update None x e = absurd cc
of_update (Some f) x e =
    let same : Some f ≡ x = cc in
    let named : f ≡ unwrap_or x [] = ap (λ o. unwrap_or o []) same in
    (ap Some named, sym same ∙ ap Some named)

pub pair_at : (s : WorldState) (n : Name) (t : Table) (c : ℕ) (e : CharacterEntry) (b : Bool) (pairs : List Datum) (k : ℕ) (now : WorldState) (pair : Datum)
    → IsNamedEntry s.packages e → e.syntax ≡ macro_syntax b → is_dispatch_name (function_of e) ≡ true → c < 128 → IsWritable s.readtables n t
    → IsFilling s n t c e pairs k now → k < length pairs → pair ≡ get_or pairs k pair → IsPair s n t c e pairs k now pair
pair_at s n t c e b pairs k now pair named syntax dispatches_here small w so_far few is =
    let us = subs e in
    let u = get_or us k (0, None) in
    let row = item_at pairs k pair (dispatch_objects e) so_far.objects so_far.proper few is in
    let count : length pairs ≡ length us = item_count pairs (dispatch_objects e) so_far.objects ∙ ap length (subs_are e) ∙ length-map us sub_object in
    let among : k < length us = omega arith in
    let of = of_update (get_or e.dispatch u.0 None) u.1 (update_at (sub_update e.dispatch) (range_with_len 0 128) k (0, None) among) in
    let below : u.0 < 128 = update_below (sub_update e.dispatch) 0 128 k (0, None) among in
    let many : length e.dispatch ≡ 128 = many_places e b named.entry syntax dispatches_here in
    let f = unwrap_or u.1 [] in
    let all : list_all (passes (is_symbol s.packages keyword)) e.dispatch ≡ true =
    (and_parts (passes (is_symbol s.packages keyword) e.function) (list_all (passes (is_symbol s.packages keyword)) e.dispatch)
    (sym (all_named (is_symbol s.packages keyword) (e.function ∷ e.dispatch)) ∙ named.functions)).1 in
    let same : s.packages ≡ now.packages = sym (ap (λ (x : WorldState). x.packages) so_far.is) in
    let here = with_character_entry t c (with_places e so_far.places) in
    let at_c : entry_at here c ≡ with_places e so_far.places = entry_there t c (with_places e so_far.places) (let m = w.count in omega arith) in
    let may : IsSubFunction s.packages u.0 f = record {
      character = below;
      upper = no_key (is_lower_case u.0 || is_digit u.0) (get_or e.dispatch u.0 None) (ap is_some of.0) (named.entry.keys u.0);
      name = ap is_none_or_name (sym of.0) ∙ named.entry.names u.0;
      other = ap dispatches (sym of.0) ∙ named.entry.values u.0;
      named = symbol_is s.packages keyword f (ap (passes (is_symbol s.packages keyword)) (sym of.0) ∙ passing_item (passes (is_symbol s.packages keyword)) e.dispatch all u.0 None (omega arith));
    } in
    record {
      proper = row.0;
      sub = u.0;
      function = f;
      object = row.1 ∙ ap (λ ys. get_or ys k (object_of pair)) (subs_are e) ∙ get_or-map sub_object us k (0, None) (object_of pair) among;
      may_be = subst (λ p. IsSubFunction p u.0 f) same may;
      table = here;
      writable = subst (λ (x : WorldState). IsWritable x.readtables n here) (sym so_far.is)
          (still_writable s n t here w (length-set t.entries c (with_places e so_far.places) ∙ w.count));
      dispatching = ap is_dispatching at_c ∙ ap dispatches (has_function e b named.entry syntax) ∙ dispatches_here;
      later = λ after made. record {
        proper = so_far.proper;
        objects = so_far.objects;
        places = set so_far.places u.0 u.1;
        is = made ∙ ap (λ (x : WorldState). with_table x n (with_character_entry here c (with_dispatch_function (entry_at here c) u.0 f))) so_far.is
            ∙ table_twice s n here (with_character_entry here c (with_dispatch_function (entry_at here c) u.0 f))
            ∙ ap (with_table s n) (entry_twice t c (with_places e so_far.places) (with_dispatch_function (entry_at here c) u.0 f)
            ∙ ap (λ x. with_character_entry t c (with_dispatch_function x u.0 f)) at_c
            ∙ ap (λ i. with_character_entry t c (with_places e (set so_far.places i (Some f)))) (upper_same s.packages u.0 f may)
            ∙ ap (λ o. with_character_entry t c (with_places e (set so_far.places u.0 o))) (sym of.1));
        left = put_next so_far.places us k (0, None) among ∙ so_far.left;
      };
    }

pub last_filling : (s : WorldState) (n : Name) (t : Table) (c : ℕ) (e : CharacterEntry) (pairs : List Datum) (k : ℕ) (now : WorldState) → IsFilling s n t c e pairs k now → k ≡ length pairs
    → now ≡ with_table s n (with_character_entry t c e)
last_filling s n t c e pairs k now so_far all =
    let us = subs e in
    let count : length pairs ≡ length us = item_count pairs (dispatch_objects e) so_far.objects ∙ ap length (subs_are e) ∙ length-map us sub_object in
    let done : so_far.places ≡ e.dispatch = ap (put_all so_far.places) (sym (ap (λ j. drop j us) (all ∙ count) ∙ drop-length us)) ∙ so_far.left in
    so_far.is ∙ ap (λ places. with_table s n (with_character_entry t c (with_places e places))) done
