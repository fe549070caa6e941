-- What holds of the rows of properties.
use Rattle.std.specs.Prelude.{◌≡◌, ℕ, ◌≤◌, true, All, IfSome, codes}
use Rattle.lisp_object.specs.declared.datum.Datum.{Datum}
use Rattle.lisp_object.specs.Datum.{is_proper}
use Rattle.plist_state.specs.declared.note.PropertyChange.{PropertyChange}
use Rattle.plist_state.specs.declared.note.PropertyChange.TheVariants.{Set, Added, Removed, Pushed, Popped}
use Rattle.property_rows.specs.Rows.{PropertyRow}
use Rattle.plist_state.specs.Views.{Rows, row_at, room_at}

-- each value in the row is proper
abbrev pub IsProperRow : PropertyRow → Type 0
IsProperRow row = All (λ p. is_proper p.value ≡ true) row.items

-- each value in all rows is proper
abbrev pub IsProperRows : Rows → Type 0
IsProperRows rows = (i : ℕ) → IfSome (row_at rows i) IsProperRow

-- the datum that is NIL
abbrev pub IsEmptyList : Datum → Type 0
IsEmptyList d = d ≡ Datum.Symbol (codes "COMMON-LISP") (codes "NIL")

-- what a change took out or overwrote is proper
abbrev pub IsProperChange : PropertyChange → Type 0
IsProperChange (Set index value) = is_proper value ≡ true
IsProperChange Added = Unit {0}
IsProperChange (Removed index property) = is_proper property.value ≡ true
IsProperChange (Pushed index empty) = IsEmptyList empty
IsProperChange (Popped index items) = All (λ d. is_proper d ≡ true) items.items

-- the rows of one hold what those of the other held, in as much memory
pub record IsWider (rows later : Rows) : Type 0 where
  pub rooms : (i : ℕ) → room_at rows i ≤ room_at later i
  pub values : IsProperRows rows → IsProperRows later
