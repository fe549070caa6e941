-- Empty rows that come where there was none, or where one had no memory.
--     within, read_row      a row that is there, and the one that is read
--     IsAlike, alike_same, alike_both      the rows hold what they held
--     alike_put, alike_push, alike_still, alike_remade      so it is after an empty row comes, or none
--     within_remade      the row that was put is there
use Rattle.std.proofs.Common.{◌≡◌, ℕ, zero, suc, ◌<◌, ◌++◌, Some, List, [], ◌∷◌, length, get_or, set, refl, sym, ap, subst, ◌∙◌, arith}
use Rattle.std.specs.Option.{option_map_or, IsSome}
use Rattle.std.proofs.Math.ListN.{length-set}
use Rattle.std.proofs.lemmas.Option.{slice_get_past, slice_get_read}
use Rattle.property_rows.specs.declared.property.NumberedProperty.{NumberedProperty}
use Rattle.property_rows.specs.Rows.{PropertyRow, room}
use Rattle.plist_state.specs.Views.{Rows, lists_in, row_at, room_at}
use Rattle.plist_state.specs.KeptRows.{IsWider}
use Rattle.plist_state.specs.RowIndexes.{Indexes, IsIndexedIn, AreRowIndexes}
use Rattle.plist_state.proofs.ListRows.{IsPut, put_set, put_push, wider_same, wider_both, cleared, cleared_same}
use Rattle.plist_state.proofs.Placing.{are_indexed}
use Rattle.plist_state.proofs.Indexing.{IsIndexed-nil}

pub within : (rows : Rows) (x : ℕ) → x < length rows → IsSome (row_at rows x)
within [] x less = absurd (omega (arith, less))
within (row ∷ rows) zero less = refl
within (row ∷ rows) (suc x) less = within rows x (omega (arith, less))

pub read_row : (rows : Rows) (x : ℕ) (row : PropertyRow) → x < length rows → row ≡ get_or rows x row → row_at rows x ≡ Some row
read_row rows x row less is = slice_get_read rows (length rows) x row refl less is

-- the same lists, in as much memory, with the same indexes
pub record IsAlike (rows later : Rows) : Type 0 where
  pub lists : lists_in later ≡ lists_in rows
  pub wider : IsWider rows later
  pub indexed : (indexes : Indexes) → AreRowIndexes rows indexes → AreRowIndexes later indexes

pub alike_same : (rows : Rows) → IsAlike rows rows
alike_same rows = record { lists = refl; wider = wider_same rows rows refl; indexed = λ indexes all. all }

pub alike_both : (a b c : Rows) → IsAlike a b → IsAlike b c → IsAlike a c
alike_both a b c x y = record {
  lists = y.lists ∙ x.lists;
  wider = wider_both a b c x.wider y.wider;
  indexed = λ indexes all. y.indexed indexes (x.indexed indexes all);
}

pub alike_put : (rows later : Rows) (x : ℕ) (row : PropertyRow) → IsPut rows later x row → room_at rows x ≡ 0 → row.items ≡ [] → IsAlike rows later
alike_put rows later x row put nil empty = record {
  lists = cleared_same rows later x row put nil empty;
  wider = (cleared rows later x row put nil empty).wider;
  indexed = λ indexes all.
      are_indexed rows later indexes indexes x row all put
      (subst (λ (items : List NumberedProperty). IsIndexedIn indexes x items) (sym empty) (λ i is. IsIndexed-nil i.entries)) (λ q other. refl);
}

pub alike_push : (rows later : Rows) (row : PropertyRow) → later ≡ rows ++ row ∷ [] → row.items ≡ [] → IsAlike rows later
alike_push rows later row is empty =
    alike_put rows later (length rows) row (put_push rows later row is)
    (ap (λ o. option_map_or room o 0) (slice_get_past rows (length rows) (omega arith))) empty

-- nothing came
pub alike_still : (a b c : Rows) → IsAlike a b → c ≡ b → IsAlike a c
alike_still a b c x is = subst (IsAlike a) (sym is) x

-- an empty row with memory is put where one had none
pub alike_remade : (a b : Rows) (x : ℕ) (old row : PropertyRow) → IsAlike a b → x < length b → old ≡ get_or b x old → room old ≡ 0 → row.items ≡ [] → IsAlike a (set b x row)
alike_remade a b x old row so_far less is nil empty =
    let there : row_at b x ≡ Some old = read_row b x old less is in
    alike_both a b (set b x row) so_far
    (alike_put b (set b x row) x row (put_set b (set b x row) x old row there refl) (ap (λ o. option_map_or room o 0) there ∙ nil) empty)

pub within_remade : (b : Rows) (x : ℕ) (row : PropertyRow) → x < length b → IsSome (row_at (set b x row) x)
within_remade b x row less = within (set b x row) x (let same : length (set b x row) ≡ length b = length-set b x row in omega (arith, less, same))
