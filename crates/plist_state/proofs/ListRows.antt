-- Property lists by the numbers of symbols, in a finite map and in rows.
--     get-with_row, row-with_row, with_row_twice, with_row_same      one list replaced
--     get-lists_in, row-lists_in      what the rows hold
--     lent, lent_mut      the row that `get` gives, and `get_mut`
--     IsPut, put_set, put_lent, put_push      one row replaced, or added
--     lists-put, wider_put      what is shown then
--     written, lists_made, list_now      after a write through `get_mut`
--     cleared, cleared_same      after an empty row comes where there was no memory
--     property_back      a change taken back
use Rattle.std.proofs.Common.{◌≡◌, ◌≢◌, ℕ, zero, suc, ◌+◌, ◌<◌, ◌≤◌, true, false, cond, Option, None, Some, unwrap_or, List, [], ◌∷◌, ◌++◌, map, length, set, refl, sym, ap, subst, ◌∙◌, arith}
use Rattle.std.proofs.lemmas.Bool.Decides.{nat_tests}
use Rattle.std.specs.Prelude.{All, IfSome, is_some, nat_lt}
use Rattle.std.proofs.lemmas.List.Elements.{All-nil}
use Rattle.std.proofs.lemmas.Cmp.{nat_cmp_total}
use Rattle.std.proofs.lemmas.Map.Views.{tells_apart}
use Rattle.lisp_object.specs.Datum.{is_proper}
use Rattle.std.specs.Option.{option_map, option_and_then, option_copied, option_copied_mut, option_map_or}
use Rattle.std.specs.Borrow.{Bor, MutBor}
use Rattle.std.specs.Cmp.{tied_itself, unsigned_tied}
use Rattle.std.specs.Ordering.{nat_cmp, is_eq, eq_by_cmp}
use Rattle.std.specs.List.{slice_get, ItemBy, IsItemAtMut}
use Rattle.std.specs.Slice.{IsItemAt}
use Rattle.std.proofs.lemmas.Option.{slice_get_past, slice_get_within, slice_get-get_or}
use Rattle.std.specs.FinMap as finite
use Rattle.std.specs.FinMap.{get-empty, get-insert, get-remove, same_map, nat_cmp-IsAntisymmetric}
use Rattle.std.proofs.lemmas.Bool.{false≢true}
use Rattle.property_rows.specs.declared.property.NumberedProperty.{NumberedProperty}
use Rattle.plist_state.specs.declared.note.PropertyChange.{PropertyChange}
use Rattle.property_rows.specs.Rows.{PropertyRow, room}
use Rattle.plist_state.specs.Lists.{NumberedPlist, NumberedLists, plist_of_number, with_row}
use Rattle.plist_state.specs.Views.{numbered_property, items_in, plist_of, Rows, lists_from, lists_in, row_at, room_at}
use Rattle.plist_state.specs.KeptRows.{IsProperRow, IsProperRows, IsWider}
use Rattle.plist_state.specs.Undoing.{list_before}
use Rattle.plist_state.proofs.Lists.{kept, unwrap_kept}

pub one_number : (x y : ℕ) → eq_by_cmp nat_cmp x y ≡ true → x ≡ y
one_number = tells_apart nat_cmp-IsAntisymmetric

pub number_tied : (x : ℕ) → eq_by_cmp nat_cmp x x ≡ true
number_tied x = ap is_eq (tied_itself nat_cmp_total x)

pub get-with_row : (m : NumberedLists) (x : ℕ) (ps : NumberedPlist) (q : ℕ) → finite.get (with_row m x ps) q ≡ cond (eq_by_cmp nat_cmp q x) (kept ps) (finite.get m q)
get-with_row m x [] q = get-remove nat_cmp_total m x q
get-with_row m x (p ∷ ps) q = get-insert nat_cmp_total m x (p ∷ ps) q

-- the list that was put is there
pub row-with_row : (m : NumberedLists) (x : ℕ) (ps : NumberedPlist) → plist_of_number (with_row m x ps) x ≡ ps
row-with_row m x ps =
    ap (λ o. unwrap_or o []) (get-with_row m x ps x ∙ ap (λ b. cond b (kept ps) (finite.get m x)) (number_tied x)) ∙ unwrap_kept ps

-- of two lists that are put at one number the second is there
pub with_row_twice : (m : NumberedLists) (x : ℕ) (ps qs : NumberedPlist) → with_row (with_row m x ps) x qs ≡ with_row m x qs
with_row_twice m x ps qs = same_map nat_cmp_total nat_cmp-IsAntisymmetric _ _ (λ q.
    get-with_row (with_row m x ps) x qs q ∙ ap (cond (eq_by_cmp nat_cmp q x) (kept qs)) (get-with_row m x ps q)
    ∙ elim (eq_by_cmp nat_cmp q x) as (λ b. cond b (kept qs) (cond b (kept ps) (finite.get m q)) ≡ cond b (kept qs) (finite.get m q)) [ true ↦ refl | false ↦ refl ]
    ∙ sym (get-with_row m x qs q))

-- a map in which no list is empty
abbrev pub AreSome : NumberedLists → Type 0
AreSome m = (q : ℕ) → finite.get m q ≡ kept (plist_of_number m q)

-- the list that is there, put again
pub with_row_same : (m : NumberedLists) (x : ℕ) (ps : NumberedPlist) → AreSome m → ps ≡ plist_of_number m x → with_row m x ps ≡ m
with_row_same m x ps some is = same_map nat_cmp_total nat_cmp-IsAntisymmetric _ _ (λ q.
    get-with_row m x ps q
    ∙ elim (eq_by_cmp nat_cmp q x) as (λ b. eq_by_cmp nat_cmp q x ≡ b → cond b (kept ps) (finite.get m q) ≡ finite.get m q) [
      | true ↦ λ t. ap kept (is ∙ ap (plist_of_number m) (sym (one_number q x t))) ∙ sym (some q)
      | false ↦ λ t. refl
    ] refl)

-- ---- rows
-- the row of a number, where the first is that of number n
abbrev row_from : ℕ → Rows → ℕ → Option PropertyRow
row_from n [] q = None
row_from n (row ∷ rows) q = cond (eq_by_cmp nat_cmp q n) (Some row) (row_from (suc n) rows q)

got_from : (n : ℕ) (rows : Rows) (q : ℕ) → finite.get (lists_from n rows) q ≡ option_and_then (λ row. kept (plist_of row)) (row_from n rows q)
got_from n [] q = get-empty nat_cmp q
got_from n (row ∷ rows) q =
    get-with_row (lists_from (suc n) rows) n (plist_of row) q
    ∙ elim (eq_by_cmp nat_cmp q n) as (λ b. cond b (kept (plist_of row)) (finite.get (lists_from (suc n) rows) q) ≡ option_and_then (λ row. kept (plist_of row)) (cond b (Some row) (row_from (suc n) rows q))) [
      | true ↦ refl
      | false ↦ got_from (suc n) rows q
    ]

-- it stands at its place
from_place : (n : ℕ) (rows : Rows) (i q : ℕ) → q ≡ n + i → row_from n rows q ≡ slice_get rows i
from_place n [] i q is = refl
from_place n (row ∷ rows) zero q is =
    let here : eq_by_cmp nat_cmp q n ≡ true = unsigned_tied q n ∙ grind (arith, nat_tests, is) in
    ap (λ b. cond b (Some row) (row_from (suc n) rows q)) here
from_place n (row ∷ rows) (suc i) q is =
    let there : eq_by_cmp nat_cmp q n ≡ false = unsigned_tied q n ∙ grind (arith, nat_tests, is) in
    ap (λ b. cond b (Some row) (row_from (suc n) rows q)) there ∙ from_place (suc n) rows i q (omega (arith, is))

pub get-lists_in : (rows : Rows) (q : ℕ) → finite.get (lists_in rows) q ≡ option_and_then (λ row. kept (plist_of row)) (row_at rows q)
get-lists_in rows q = got_from 0 rows q ∙ ap (option_and_then (λ row. kept (plist_of row))) (from_place 0 rows q q (omega arith))

pub row-lists_in : (rows : Rows) (q : ℕ) → plist_of_number (lists_in rows) q ≡ option_map_or plist_of (row_at rows q) []
row-lists_in rows q =
    ap (λ o. unwrap_or o []) (get-lists_in rows q)
    ∙ elim (row_at rows q) as (λ o. unwrap_or (option_and_then (λ row. kept (plist_of row)) o) [] ≡ option_map_or plist_of o []) [
      | None ↦ refl
      | Some row ↦ unwrap_kept (plist_of row)
    ]

pub some_in : (rows : Rows) → AreSome (lists_in rows)
some_in rows q =
    get-lists_in rows q
    ∙ elim (row_at rows q) as (λ o. option_and_then (λ row. kept (plist_of row)) o ≡ kept (option_map_or plist_of o [])) [
      | None ↦ refl
      | Some row ↦ refl
    ]
    ∙ ap kept (sym (row-lists_in rows q))

-- the row that is found
found_row : {R : Type 0} (now : R → PropertyRow) (rows : Rows) (x : ℕ) (r : Option R) → ItemBy now rows x x r → option_map now r ≡ row_at rows x
found_row now rows x None is = sym (slice_get_past rows x is.3)
found_row now rows x (Some r) is = ap Some (is.3.1 (now r)) ∙ sym (slice_get-get_or rows x (now r) is.3.0)

pub lent : (rows slice : Rows) (x : ℕ) (row : Option (Bor PropertyRow)) → slice ≡ rows → IsItemAt slice x row → option_copied row ≡ row_at rows x
lent rows slice x row same is = found_row (λ (r : Bor PropertyRow). r.now) slice x row is ∙ ap (λ es. row_at es x) same

pub lent_mut : (rows : Rows) (x : ℕ) (row : Option (MutBor PropertyRow)) → IsItemAtMut rows x row → option_copied_mut row ≡ row_at rows x
lent_mut rows x row is = found_row (λ (r : MutBor PropertyRow). r.now) rows x row is

-- the same rows, but for one
abbrev pub IsPut : Rows → Rows → ℕ → PropertyRow → Type 0
IsPut rows later x row = (q : ℕ) → row_at later q ≡ cond (eq_by_cmp nat_cmp q x) (Some row) (row_at rows q)

put_at : (rows later : Rows) (x : ℕ) (row : PropertyRow) → row_at later x ≡ Some row → ((q : ℕ) → q ≢ x → row_at later q ≡ row_at rows q) → IsPut rows later x row
put_at rows later x row here others q =
    elim (eq_by_cmp nat_cmp q x) as (λ b. eq_by_cmp nat_cmp q x ≡ b → row_at later q ≡ cond b (Some row) (row_at rows q)) [
      | true ↦ λ t. ap (row_at later) (one_number q x t) ∙ here
      | false ↦ λ t. others q (λ same. false≢true (sym t ∙ ap (λ y. eq_by_cmp nat_cmp y x) same ∙ number_tied x))
    ] refl

set_here : (rows : Rows) (x : ℕ) (row : PropertyRow) → x < length rows → row_at (set rows x row) x ≡ Some row
set_here [] x row less = absurd (omega (arith, less))
set_here (r ∷ rows) zero row less = refl
set_here (r ∷ rows) (suc x) row less = set_here rows x row (omega (arith, less))

set_others : (rows : Rows) (x : ℕ) (row : PropertyRow) (q : ℕ) → q ≢ x → row_at (set rows x row) q ≡ row_at rows q
set_others [] x row q other = refl
set_others (r ∷ rows) zero row zero other = absurd (other refl)
set_others (r ∷ rows) zero row (suc q) other = refl
set_others (r ∷ rows) (suc x) row zero other = refl
set_others (r ∷ rows) (suc x) row (suc q) other = set_others rows x row q (λ same. other (ap (λ n. suc n) same))

pub put_set : (rows later : Rows) (x : ℕ) (old row : PropertyRow) → row_at rows x ≡ Some old → later ≡ set rows x row → IsPut rows later x row
put_set rows later x old row there is =
    put_at rows later x row (ap (λ es. row_at es x) is ∙ set_here rows x row (slice_get_within rows x old there))
    (λ q other. ap (λ es. row_at es q) is ∙ set_others rows x row q other)

-- the row that `get_mut` gave
pub put_lent : (rows : Rows) (x : ℕ) (old : MutBor PropertyRow) (row : PropertyRow) → IsItemAtMut rows x (Some old) → IsPut rows (set rows x row) x row
put_lent rows x old row there = put_set rows (set rows x row) x old.now row (sym (lent_mut rows x (Some old) there)) refl

push_here : (rows : Rows) (row : PropertyRow) → row_at (rows ++ row ∷ []) (length rows) ≡ Some row
push_here [] row = refl
push_here (r ∷ rows) row = push_here rows row

push_others : (rows : Rows) (row : PropertyRow) (q : ℕ) → q ≢ length rows → row_at (rows ++ row ∷ []) q ≡ row_at rows q
push_others [] row zero other = absurd (other refl)
push_others [] row (suc q) other = refl
push_others (r ∷ rows) row zero other = refl
push_others (r ∷ rows) row (suc q) other = push_others rows row q (λ same. other (ap (λ n. suc n) same))

pub put_push : (rows later : Rows) (row : PropertyRow) → later ≡ rows ++ row ∷ [] → IsPut rows later (length rows) row
put_push rows later row is =
    put_at rows later (length rows) row (ap (λ es. row_at es (length rows)) is ∙ push_here rows row)
    (λ q other. ap (λ es. row_at es q) is ∙ push_others rows row q other)

pub lists-put : (rows later : Rows) (x : ℕ) (row : PropertyRow) → IsPut rows later x row → lists_in later ≡ with_row (lists_in rows) x (plist_of row)
lists-put rows later x row put = same_map nat_cmp_total nat_cmp-IsAntisymmetric _ _ (λ q.
    get-lists_in later q ∙ ap (option_and_then (λ row. kept (plist_of row))) (put q)
    ∙ elim (eq_by_cmp nat_cmp q x) as (λ b. option_and_then (λ row. kept (plist_of row)) (cond b (Some row) (row_at rows q)) ≡ cond b (kept (plist_of row)) (finite.get (lists_in rows) q)) [
      | true ↦ refl
      | false ↦ sym (get-lists_in rows q)
    ]
    ∙ sym (get-with_row (lists_in rows) x (plist_of row) q))

-- the row had at most as much memory, and proper values
pub wider_put : (rows later : Rows) (x : ℕ) (row : PropertyRow) → IsPut rows later x row → room_at rows x ≤ room row → (IsProperRows rows → IsProperRow row) → IsWider rows later
wider_put rows later x row put more proper = record {
  rooms = λ q. subst (λ n. room_at rows q ≤ n) (sym (ap (λ o. option_map_or room o 0) (put q)))
      (elim (eq_by_cmp nat_cmp q x) as (λ b. eq_by_cmp nat_cmp q x ≡ b → room_at rows q ≤ option_map_or room (cond b (Some row) (row_at rows q)) 0) [
        | true ↦ λ t. subst (λ y. room_at rows y ≤ room row) (sym (one_number q x t)) more
        | false ↦ λ t. (let n : ℕ = room_at rows q in omega arith)
      ] refl);
  values = λ old q. subst (λ o. IfSome o IsProperRow) (sym (put q))
      (elim (eq_by_cmp nat_cmp q x) as (λ b. IfSome (cond b (Some row) (row_at rows q)) IsProperRow) [
        | true ↦ proper old
        | false ↦ old q
      ]);
}

pub wider_same : (rows later : Rows) → later ≡ rows → IsWider rows later
wider_same rows later is = record {
  rooms = λ q. (let same : room_at later q ≡ room_at rows q = ap (λ es. room_at es q) is in omega (arith, same));
  values = λ old. subst IsProperRows (sym is) old;
}

pub wider_both : (a b c : Rows) → IsWider a b → IsWider b c → IsWider a c
wider_both a b c x y = record {
  rooms = λ q. (let s : room_at a q ≤ room_at b q = x.rooms q in let t : room_at b q ≤ room_at c q = y.rooms q in omega (arith, s, t));
  values = λ old. y.values (x.values old);
}

-- ---- what is shown of one row
-- the row that is found is the one that is shown
pub row_shown : (rows : Rows) (x : ℕ) (row : PropertyRow) → Some row ≡ row_at rows x → plist_of_number (lists_in rows) x ≡ plist_of row
row_shown rows x row is = row-lists_in rows x ∙ ap (λ o. option_map_or plist_of o []) (sym is)

pub none_shown : (rows : Rows) (x : ℕ) → None ≡ row_at rows x → plist_of_number (lists_in rows) x ≡ []
none_shown rows x is = row-lists_in rows x ∙ ap (λ o. option_map_or plist_of o []) (sym is)

pub room_shown : (rows : Rows) (x : ℕ) (row : PropertyRow) → Some row ≡ row_at rows x → room_at rows x ≡ room row
room_shown rows x row is = ap (λ o. option_map_or room o 0) (sym is)

pub proper_shown : (rows : Rows) (x : ℕ) (row : PropertyRow) → Some row ≡ row_at rows x → IsProperRows rows → IsProperRow row
proper_shown rows x row is all = subst (λ o. IfSome o IsProperRow) (sym is) (all x)

-- the same of what `get_mut` gives
pub lent_shown : (rows : Rows) (x : ℕ) (row : MutBor PropertyRow) → IsItemAtMut rows x (Some row) → plist_of_number (lists_in rows) x ≡ plist_of row.now
lent_shown rows x row there = row_shown rows x row.now (lent_mut rows x (Some row) there)

pub none_lent : (rows : Rows) (x : ℕ) → IsItemAtMut rows x None → plist_of_number (lists_in rows) x ≡ []
none_lent rows x there = none_shown rows x (lent_mut rows x None there)

-- the same of a row that may be absent
pub list_found : (rows : Rows) (x : ℕ) (row : Option (Bor PropertyRow)) → option_copied row ≡ row_at rows x → map numbered_property (items_in row) ≡ plist_of_number (lists_in rows) x
list_found rows x None is = sym (none_shown rows x is)
list_found rows x (Some row) is = sym (row_shown rows x row.now is)

pub proper_found : (rows : Rows) (x : ℕ) (row : Option (Bor PropertyRow)) → option_copied row ≡ row_at rows x → IsProperRows rows → All (λ p. is_proper p.value ≡ true) (items_in row)
proper_found rows x None is all = All-nil (λ (p : NumberedProperty). is_proper p.value ≡ true)
proper_found rows x (Some row) is all = proper_shown rows x row.now is all

-- whether the symbol of a number has properties, by how many there are
pub has_counted : (rows : Rows) (x n : ℕ) → n ≡ length (plist_of_number (lists_in rows) x) → nat_lt 0 n ≡ finite.contains_key (lists_in rows) x
has_counted rows x n is = ap (nat_lt 0) is ∙ some_kept (plist_of_number (lists_in rows) x) ∙ sym (ap is_some (some_in rows x))
  where
    some_kept : (ps : NumberedPlist) → nat_lt 0 (length ps) ≡ is_some (kept ps)
    some_kept [] = refl
    some_kept (p ∷ ps) = grind (arith, nat_tests)

-- one row is written
pub record IsWritten (rows later : Rows) (x : ℕ) (ps : NumberedPlist) : Type 0 where
  pub lists : lists_in later ≡ with_row (lists_in rows) x ps
  pub wider : IsWider rows later

-- a row that was written through `get_mut`
module _ (rows : Rows) (x : ℕ) (old : MutBor PropertyRow) (row : PropertyRow)
    (there : IsItemAtMut rows x (Some old)) (more : room old.now ≤ room row) (proper : IsProperRow old.now → IsProperRow row) where
  pub written : IsWritten rows (set rows x row) x (plist_of row)
  written =
      let is : Some old.now ≡ row_at rows x = lent_mut rows x (Some old) there in
      let put : IsPut rows (set rows x row) x row = put_lent rows x old row there in
      record {
        lists = lists-put rows (set rows x row) x row put;
        wider = wider_put rows (set rows x row) x row put
            (let same : room_at rows x ≡ room old.now = room_shown rows x old.now is in omega (arith, more, same))
            (λ all. proper (proper_shown rows x old.now is all));
      }

  -- what was made of the list
  pub lists_made : (f : NumberedPlist → NumberedPlist) → plist_of row ≡ f (plist_of old.now) → lists_in (set rows x row) ≡ with_row (lists_in rows) x (f (plist_of_number (lists_in rows) x))
  lists_made f made = written.lists ∙ ap (with_row (lists_in rows) x) (made ∙ ap f (sym (lent_shown rows x old there)))

  pub list_now : plist_of_number (lists_in (set rows x row)) x ≡ plist_of row
  list_now = ap (λ m. plist_of_number m x) written.lists ∙ row-with_row (lists_in rows) x (plist_of row)

-- the list in the row is as it was
pub written_same : (rows later : Rows) (x : ℕ) (ps : NumberedPlist) → IsWritten rows later x ps → ps ≡ plist_of_number (lists_in rows) x → lists_in later ≡ lists_in rows
written_same rows later x ps w is = w.lists ∙ with_row_same (lists_in rows) x ps (some_in rows) is

-- a row without properties, of which a row that had no memory was made, or that was added
module _ (rows later : Rows) (x : ℕ) (row : PropertyRow) (put : IsPut rows later x row) (nil : room_at rows x ≡ 0) (empty : row.items ≡ []) where
  pub cleared : IsWritten rows later x []
  cleared = record {
    lists = lists-put rows later x row put ∙ ap (with_row (lists_in rows) x) (ap (map numbered_property) empty);
    wider = wider_put rows later x row put (omega (arith, nil))
        (λ all. subst (λ (xs : List NumberedProperty). All (λ p. is_proper p.value ≡ true) xs) (sym empty) (All-nil (λ (p : NumberedProperty). is_proper p.value ≡ true)));
  }

  pub cleared_same : lists_in later ≡ lists_in rows
  cleared_same =
      written_same rows later x [] cleared (sym (row-lists_in rows x ∙
      elim (row_at rows x) as (λ o. option_map_or room o 0 ≡ 0 → option_map_or plist_of o [] ≡ []) [
        | None ↦ λ e. refl
        | Some old ↦ λ e. no_items old.items old.spare e
      ] nil))
    where
      no_items : (ps : List NumberedProperty) (n : ℕ) → length ps + n ≡ 0 → map numbered_property ps ≡ []
      no_items [] n e = refl
      no_items (p ∷ ps) n e = absurd (omega (arith, e))

pub no_room : (rows : Rows) (x : ℕ) → None ≡ row_at rows x → room_at rows x ≡ 0
no_room rows x is = ap (λ o. option_map_or room o 0) (sym is)

-- a change of the list of a number that was put, taken back
pub property_back : (rows later : Rows) (x : ℕ) (ps : NumberedPlist) (change : PropertyChange)
    → lists_in later ≡ with_row (lists_in rows) x ps → list_before change (plist_of_number (lists_in later) x) ≡ plist_of_number (lists_in rows) x
    → with_row (lists_in later) x (list_before change (plist_of_number (lists_in later) x)) ≡ lists_in rows
property_back rows later x ps change put back =
    (λ i. with_row (put i) x (back i)) ∙ with_row_twice (lists_in rows) x ps (plist_of_number (lists_in rows) x)
    ∙ with_row_same (lists_in rows) x (plist_of_number (lists_in rows) x) (some_in rows) refl
