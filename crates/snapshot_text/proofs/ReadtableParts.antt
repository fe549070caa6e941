-- A readtable, as it is made: a copy of the standard one, of its case, and then its entries one after the other.
use Rattle.std.proofs.Common.{◌≡◌, ℕ, ◌+◌, ◌<◌, Bool, true, false, not, cond, List, [], ◌∷◌, length, map, filter, drop, get_or, set, Option, Some, None, refl, sym, ap, subst, ◌∙◌, arith, length-set}
use Rattle.std.specs.Prelude.{Ok, Err, if◌then◌else◌, ◌&&◌, nat_le}
use Rattle.std.specs.List.{list_all, range_with_len}
use Rattle.std.specs.Option.{option_map_or}
use Rattle.std.specs.Ordering.{eq_by_cmp}
use Rattle.std.specs.Str.{bytes_eq}
use Rattle.std.specs.FinMap as finite
use Rattle.std.specs.FinMap.{get-insert, same_map}
use Rattle.std.proofs.Math.Seq.{drop-length}
use Rattle.std.proofs.lemmas.List.{get_or-map, length-map}
use Rattle.lisp_object.specs.declared.datum.Datum.{Datum}
use Rattle.lisp_object.specs.Object.{Object}
use Rattle.lisp_object.specs.Datum.{object_of, is_proper}
use Rattle.readtable_core.specs.Tables.{CharacterEntry, Table, entry_at, no_entry, standard}
use Rattle.readtable_core.specs.NamedFunctions.{same_entry}
use Rattle.readtable_core.specs.Changes.{with_character_entry}
use Rattle.readtable_core.proofs.Named.{same_is, named_at}
use Rattle.readtable_core.proofs.Sound.{standard_sound}
use Rattle.package_table.specs.Table.{Name, name_cmp, keyword}
use Rattle.package_table.specs.Lookup.{is_symbol}
use Rattle.plist_state.specs.declared.error.ReadtableError.TheVariants.{NoReadtable, StandardReadtable, Limit}
use Rattle.plist_state.specs.State.{Readtables, WorldState, standard_name}
use Rattle.plist_state.specs.Changes.{with_copy, state_with_readtables}
use Rattle.plist_state.specs.Sound.{HasKeywordFunctions}
use Rattle.plist_state.proofs.Orders.{name_total, name_exact, one_name}
use Rattle.world_text.specs.Snapshot.{entry_object, entry_objects}
use Rattle.snapshot_text.specs.BuiltWorlds.{with_table, CanBeMade, IsWritable, IsNamedEntry}
use Rattle.snapshot_text.proofs.Filling.{updates, put_all, update_at, update_below, filled, put_next}
use Rattle.snapshot_text.proofs.ReadParts.{item_at, item_count}
use Rattle.snapshot_text.proofs.TableParts.{table_twice, made_writable, still_writable}

-- ---- the copy
pub copied : (s : WorldState) (n : Name) → CanBeMade s.readtables n → state_with_readtables s (with_copy s.readtables standard_name n) ≡ Ok (with_table s n standard)
copied s n can =
    let m = s.readtables in
    ap (λ o. state_with_readtables s (option_map_or (λ (t : Table).
    if bytes_eq n standard_name then Err StandardReadtable
    else (if not (finite.contains_key m n) && nat_le 64 (finite.len m) then Err Limit
    else Ok (finite.insert m n t))) o (Err NoReadtable))) can.standard
    ∙ ap (λ b. state_with_readtables s (if b then Err StandardReadtable
    else (if not (finite.contains_key m n) && nat_le 64 (finite.len m) then Err Limit
    else Ok (finite.insert m n standard)))) can.other
    ∙ ap (λ b. state_with_readtables s (if b then Err Limit else Ok (finite.insert m n standard))) can.room

pub copy_writable : (s : WorldState) (n : Name) → CanBeMade s.readtables n → IsWritable (with_table s n standard).readtables n standard
copy_writable s n can = made_writable s n standard can.other can.standard standard_sound.count

-- ---- the entries
abbrev differs : Table → ℕ → Bool
differs t c = not (same_entry (entry_at t c) (entry_at standard c))

abbrev pub entry_update : Table → ℕ → Option CharacterEntry
entry_update t c = cond (differs t c) (Some (entry_at t c)) None

abbrev pub entry_updates : Table → List (ℕ × CharacterEntry)
entry_updates t = updates (entry_update t) (range_with_len 0 128)

abbrev pub update_object : ℕ × CharacterEntry → Object
update_object u = entry_object u.0 u.1

filtered_updates : (t : Table) (xs : List ℕ) → map (λ c. entry_object c (entry_at t c)) (filter (differs t) xs) ≡ map update_object (updates (entry_update t) xs)
filtered_updates t [] = refl
filtered_updates t (x ∷ xs) =
    elim (differs t x) as (λ b. map (λ c. entry_object c (entry_at t c)) (if b then x ∷ filter (differs t) xs else filter (differs t) xs)
    ≡ map update_object (option_map_or (λ y. (x, y) ∷ updates (entry_update t) xs) (cond b (Some (entry_at t x)) None) (updates (entry_update t) xs))) [
      | true ↦ ap (λ ys. entry_object x (entry_at t x) ∷ ys) (filtered_updates t xs)
      | false ↦ filtered_updates t xs
    ]

pub updates_are : (t : Table) → entry_objects t ≡ map update_object (entry_updates t)
unfolding entry_objects
updates_are t = filtered_updates t (range_with_len 0 128)

abbrev pub with_entries : Table → List CharacterEntry → Table
with_entries t entries = record t { entries = entries }

-- The readtable of this name is t, but for the entries that are left.
pub record IsMaking (s : WorldState) (n : Name) (t : Table) (rows : List Datum) (k : ℕ) (now : WorldState) : Type 0 where
  pub proper : list_all is_proper rows ≡ true
  pub objects : map object_of rows ≡ entry_objects t
  pub entries : List CharacterEntry
  pub count : length entries ≡ 128
  pub is : now ≡ with_table s n (with_entries t entries)
  pub left : put_all entries (drop k (entry_updates t)) ≡ t.entries

-- the readtable that is there, put again
table_same : (s : WorldState) (n : Name) (t : Table) → finite.get s.readtables n ≡ Some t → s ≡ with_table s n t
table_same s n t there = ap (λ (m : Readtables). record s { readtables = m }) (same_map name_total name_exact _ _ (λ q.
    elim (eq_by_cmp name_cmp q n) as (λ b. eq_by_cmp name_cmp q n ≡ b → finite.get s.readtables q ≡ cond b (Some t) (finite.get s.readtables q)) [
      | true ↦ λ e. ap (finite.get s.readtables) (one_name q n e) ∙ there
      | false ↦ λ e. refl
    ] refl ∙ sym (get-insert name_total s.readtables n t q)))

of_update : (b : Bool) (e x : CharacterEntry) → ◌≡◌ {A = Option CharacterEntry} (cond b (Some e) None) (Some x) → x ≡ e
of_update true e x is = let same : e ≡ x = cc in sym same
of_update false e x is = absurd cc

not_set : (a : Bool) (e : CharacterEntry) → ◌≡◌ {A = Option CharacterEntry} (cond (not a) (Some e) None) None → a ≡ true
not_set true e is = refl
not_set false e is = absurd cc

pub first_making : (s : WorldState) (n : Name) (t : Table) (rows : List Datum) → HasKeywordFunctions s.packages t → IsWritable s.readtables n (with_entries t standard.entries)
    → list_all is_proper rows ≡ true → map object_of rows ≡ entry_objects t → IsMaking s n t rows 0 s
first_making s n t rows named w proper objects = record {
  proper = proper;
  objects = objects;
  entries = standard.entries;
  count = w.count;
  is = table_same s n (with_entries t standard.entries) w.there;
  left = filled (entry_update t) no_entry t.entries standard.entries 0 128 w.count named.readtable.count (λ q small. absurd (omega arith))
      (λ q past nothing. sym (same_is (entry_at t q) (entry_at standard q) (not_set (same_entry (entry_at t q) (entry_at standard q)) (entry_at t q) nothing)))
      (λ q x some. of_update (differs t q) (entry_at t q) x some);
}

-- the entry at an index may be put
pub record IsEntryRow (s : WorldState) (n : Name) (t : Table) (rows : List Datum) (k : ℕ) (now : WorldState) (row : Datum) : Type 0 where
  pub proper : is_proper row ≡ true
  pub character : ℕ
  pub entry : CharacterEntry
  pub object : object_of row ≡ entry_object character entry
  pub small : character < 128
  pub named : IsNamedEntry now.packages entry
  pub table : Table
  pub writable : IsWritable now.readtables n table
  pub later : (after : WorldState) → after ≡ with_table now n (with_character_entry table character entry) → IsMaking s n t rows (k + 1) after

pub entry_row_at : (s : WorldState) (n : Name) (t : Table) (rows : List Datum) (k : ℕ) (now : WorldState) (row : Datum)
    → HasKeywordFunctions s.packages t → IsWritable s.readtables n (with_entries t standard.entries) → IsMaking s n t rows k now → k < length rows → row ≡ get_or rows k row
    → IsEntryRow s n t rows k now row
entry_row_at s n t rows k now row named w so_far few is =
    let us = entry_updates t in
    let u = get_or us k (0, no_entry) in
    let read = item_at rows k row (entry_objects t) so_far.objects so_far.proper few is in
    let count : length rows ≡ length us = item_count rows (entry_objects t) so_far.objects ∙ ap length (updates_are t) ∙ length-map us update_object in
    let among : k < length us = subst (λ j. k < j) count few in
    let of : u.1 ≡ entry_at t u.0 = of_update (differs t u.0) (entry_at t u.0) u.1 (update_at (entry_update t) (range_with_len 0 128) k (0, no_entry) among) in
    let same : s.packages ≡ now.packages = sym (ap (λ (x : WorldState). x.packages) so_far.is) in
    let here = with_entries t so_far.entries in
    record {
      proper = read.0;
      character = u.0;
      entry = u.1;
      object = read.1 ∙ ap (λ ys. get_or ys k (object_of row)) (updates_are t) ∙ get_or-map update_object us k (0, no_entry) (object_of row) among;
      small = update_below (entry_update t) 0 128 k (0, no_entry) among;
      named = subst (IsNamedEntry now.packages) (sym of) (subst (λ p. IsNamedEntry p (entry_at t u.0)) same
          (record { entry = named.readtable.each u.0; functions = named_at (is_symbol s.packages keyword) t u.0 named.functions }));
      table = here;
      writable = subst (λ (x : WorldState). IsWritable x.readtables n here) (sym so_far.is)
          (still_writable s n (with_entries t standard.entries) here w so_far.count);
      later = λ after made. record {
        proper = so_far.proper;
        objects = so_far.objects;
        entries = set so_far.entries u.0 u.1;
        count = length-set so_far.entries u.0 u.1 ∙ so_far.count;
        is = made ∙ ap (λ (x : WorldState). with_table x n (with_character_entry here u.0 u.1)) so_far.is ∙ table_twice s n here (with_character_entry here u.0 u.1);
        left = put_next so_far.entries us k (0, no_entry) among ∙ so_far.left;
      };
    }

pub last_making : (s : WorldState) (n : Name) (t : Table) (rows : List Datum) (k : ℕ) (now : WorldState) → IsMaking s n t rows k now → k ≡ length rows → now ≡ with_table s n t
last_making s n t rows k now so_far all =
    let us = entry_updates t in
    let count : length rows ≡ length us = item_count rows (entry_objects t) so_far.objects ∙ ap length (updates_are t) ∙ length-map us update_object in
    let done : so_far.entries ≡ t.entries = ap (put_all so_far.entries) (sym (ap (λ j. drop j us) (all ∙ count) ∙ drop-length us)) ∙ so_far.left in
    so_far.is ∙ ap (λ entries. with_table s n (with_entries t entries)) done
