-- What the calls on readtables make of a world that is built, where nothing is refused.
-- What the calls on readtables make of a world that is built, where nothing is refused.
use Rattle.std.proofs.Common.{◌≡◌, ℕ, ◌-◌, ◌<◌, Bool, true, false, not, cond, List, length, Some, None, refl, sym, ap, ◌∙◌, get_or-set_same}
use Rattle.std.specs.Prelude.{Result, Ok, Err, if◌then◌else◌, option_map, ◌||◌}
use Rattle.std.specs.Option.{option_map_or}
use Rattle.std.specs.Ordering.{eq_by_cmp}
use Rattle.std.specs.Cmp.{eq_by_cmp_equiv}
use Rattle.std.specs.Str.{bytes_eq}
use Rattle.std.specs.FinMap as finite
use Rattle.std.specs.FinMap.{get-insert, same_map}
use Rattle.std.proofs.lemmas.List.{set-set}
use Rattle.std.proofs.lemmas.Map.Text.{is_eq-slice_cmp}
use Rattle.readtable_core.specs.Characters.{upper_case, is_lower_case, is_digit}
use Rattle.readtable_core.specs.Tables as readtable
use Rattle.readtable_core.specs.Tables.{CharacterEntry, Table, entry_at, no_entry}
use Rattle.readtable_core.specs.Sound.{is_dispatching}
use Rattle.readtable_core.specs.Changes.{with_character_entry, with_dispatch_function}
use Rattle.readtable_core.specs.declared.refusal.DispatchRefusal.TheVariants.{NotDispatching as NoDispatch, DigitSubcharacter as Digit}
use Rattle.package_table.specs.Table as packages
use Rattle.package_table.specs.Table.{Name, name_cmp}
use Rattle.package_table.specs.Lookup.{is_symbol}
use Rattle.package_table.proofs.Frames.{equal_names}
use Rattle.plist_state.specs.declared.error.ReadtableError.{ReadtableError}
use Rattle.plist_state.specs.declared.error.ReadtableError.TheVariants.{NoReadtable, StandardReadtable, NotDispatching, DigitSubcharacter, Limit, OutOfMemory}
use Rattle.plist_state.specs.State.{Readtables, WorldState, standard_name}
use Rattle.plist_state.specs.Changes.{writable, put_changed, readtables_with_change, changed_readtable, state_with_readtables, with_sub_function, readtable_error_of, Refused}
use Rattle.plist_state.specs.Sound.{IsSymbol}
use Rattle.plist_state.proofs.Orders.{name_total, name_exact, name_tied}
use Rattle.snapshot_text.specs.BuiltWorlds.{with_table, IsWritable, IsSubFunction}

-- where it is not refused
pub same_ok : (new made : WorldState) (said : Result WorldState ReadtableError) → said ≡ Ok new → said ≡ Ok made → new ≡ made
same_ok new made said gives is = let same : new ≡ made = cc in same

writable_is : (m : Readtables) (n : Name) (t : Table) → IsWritable m n t → writable m n ≡ Ok t
writable_is m n t w =
    ap (λ o. option_map_or (λ (t : Table). if bytes_eq n standard_name then Err StandardReadtable else Ok t) o (Err NoReadtable)) w.there
    ∙ ap (λ b. if b then Err StandardReadtable else Ok t) w.other

-- a change of a readtable that may be written
pub changed_to : (s : WorldState) (n : Name) (t u : Table) (change : Table → Result Table ReadtableError) → IsWritable s.readtables n t → change t ≡ Ok u
    → state_with_readtables s (changed_readtable s.readtables n change) ≡ Ok (with_table s n u)
changed_to s n t u change w is =
    ap (λ r. state_with_readtables s (readtables_with_change s.readtables n change r)) (writable_is s.readtables n t w) ∙ ap (λ r. state_with_readtables s (put_changed s.readtables n r)) is

neither : (a b : Bool) → (a || b) ≡ false → (a ≡ false) × (b ≡ false)
neither true b e = absurd cc
neither false b e = (refl, e)

-- a function at a sub-character
pub dispatched_is : (p : packages.Table) (t : Table) (c sub : ℕ) (f : Name) → IsSubFunction p sub f → is_dispatching (entry_at t c) ≡ true
    → with_sub_function t c sub f ≡ Ok (with_character_entry t c (with_dispatch_function (entry_at t c) sub f))
dispatched_is p t c sub f may dispatching =
    let digit : is_digit sub ≡ false = (neither (is_lower_case sub) (is_digit sub) may.upper).1 in
    ap (λ o. option_map_or (λ r. Err (readtable_error_of r)) o (Ok (with_character_entry t c (with_dispatch_function (entry_at t c) sub f))))
    (ap (λ b. if not b then Some NoDispatch else (if is_digit sub then Some Digit else None)) dispatching ∙ ap (λ b. if b then Some Digit else None) digit)

pub upper_same : (p : packages.Table) (sub : ℕ) (f : Name) → IsSubFunction p sub f → upper_case sub ≡ sub
upper_same p sub f may = ap (λ b. if b then sub - 32 else sub) (neither (is_lower_case sub) (is_digit sub) may.upper).0

-- a readtable written twice, and an index in it
pub table_twice : (s : WorldState) (n : Name) (t u : Table) → with_table (with_table s n t) n u ≡ with_table s n u
table_twice s n t u = ap (λ (m : Readtables). record s { readtables = m }) (same_map name_total name_exact _ _ (λ q.
    get-insert name_total (finite.insert s.readtables n t) n u q ∙ ap (cond (eq_by_cmp name_cmp q n) (Some u)) (get-insert name_total s.readtables n t q)
    ∙ elim (eq_by_cmp name_cmp q n) as (λ b. cond b (Some u) (cond b (Some t) (finite.get s.readtables q)) ≡ cond b (Some u) (finite.get s.readtables q)) [ true ↦ refl | false ↦ refl ]
    ∙ sym (get-insert name_total s.readtables n u q)))

pub entry_twice : (t : Table) (c : ℕ) (e f : CharacterEntry) → with_character_entry (with_character_entry t c e) c f ≡ with_character_entry t c f
entry_twice t c e f = ap (λ (es : List CharacterEntry). record t { entries = es }) (set-set t.entries c e f)

pub entry_there : (t : Table) (c : ℕ) (e : CharacterEntry) → c < length t.entries → entry_at (with_character_entry t c e) c ≡ e
entry_there t c e few = get_or-set_same t.entries c e no_entry few

-- it may be written then, and again
pub made_writable : (s : WorldState) (n : Name) (u : Table) → bytes_eq n standard_name ≡ false → finite.get s.readtables standard_name ≡ Some readtable.standard
    → length u.entries ≡ 128 → IsWritable (with_table s n u).readtables n u
made_writable s n u other first many = record {
  there = get-insert name_total s.readtables n u n ∙ ap (λ b. cond b (Some u) (finite.get s.readtables n)) (name_tied n);
  other = other;
  count = many;
  standard = get-insert name_total s.readtables n u standard_name
      ∙ ap (λ b. cond b (Some u) (finite.get s.readtables standard_name)) ((eq_by_cmp_equiv name_total).symm standard_name n ∙ is_eq-slice_cmp n standard_name ∙ other) ∙ first;
}

pub still_writable : (s : WorldState) (n : Name) (t u : Table) → IsWritable s.readtables n t → length u.entries ≡ 128 → IsWritable (with_table s n u).readtables n u
still_writable s n t u w many = made_writable s n u w.other w.standard many

pub symbol_is : (t : packages.Table) (h n : Name) → is_symbol t h n ≡ true → IsSymbol t (h, n)
symbol_is t h n e =
    elim (packages.entry_at t h n) as (λ o. option_map_or (λ (k : packages.Present). bytes_eq k.home h) o false ≡ true → option_map (λ (k : packages.Present). k.home) o ≡ Some h) [
      | None ↦ λ e. absurd cc
      | Some k ↦ λ e. ap Some (equal_names k.home h e)
    ] e

-- a refusal is that memory ran out
pub refused : (made : WorldState) (said : Result WorldState ReadtableError) (e : ReadtableError) → Refused e said → said ≡ Ok made → e ≡ OutOfMemory
refused made said NoReadtable gives is = absurd cc
refused made said StandardReadtable gives is = absurd cc
refused made said NotDispatching gives is = absurd cc
refused made said DigitSubcharacter gives is = absurd cc
refused made said Limit gives is = absurd cc
refused made said OutOfMemory gives is = refl
