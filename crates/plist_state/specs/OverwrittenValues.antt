-- Values that do not matter where one goes back, since each is overwritten as earlier changes are undone.
use Rattle.std.specs.Prelude.{◌≡◌, ℕ, ◌+◌, ◌-◌, ◌<◌, ◌==◌, nat_le, if◌then◌else◌, Option, None, Some, List, [], ◌∷◌, length}
use Rattle.std.specs.Option.{option_and_then}
use Rattle.lisp_object.specs.Object.{Object}
use Rattle.plist_state.specs.declared.note.PropertyChange.{PropertyChange}
use Rattle.plist_state.specs.declared.note.PropertyChange.TheVariants.{Set, Added, Removed, Pushed, Popped}
use Rattle.plist_state.specs.declared.note.Note.{Note}
use Rattle.plist_state.specs.declared.note.Note.TheVariants.{Property, Made, Changed, InPackage, InReadtable, InBase}
use Rattle.plist_state.specs.declared.overwritten.PropertyPlace.{PropertyPlace}
use Rattle.plist_state.specs.Lists.{plist_of_number, with_row}
use Rattle.plist_state.specs.Views.{NumberedRest}
use Rattle.plist_state.specs.Undoing.{with_value_at, rest_before}
use Rattle.plist_state.specs.Journal.{ContinuesJournal}

-- where the property at a place was before a change of its list; none where its value is overwritten as the change is undone
abbrev pub before_change : PropertyChange → PropertyPlace → Option PropertyPlace
before_change (Set index value) p = if index == p.index then None else Some p
before_change Added p = if p.index + 1 == p.length then None else Some (record { index = p.index; length = p.length - 1 })
before_change (Removed index property) p =
    Some (record { index = if nat_le index p.index then p.index + 1 else p.index; length = p.length + 1 })
before_change (Pushed index empty) p = Some p
before_change (Popped index items) p = Some p

-- Where the property at a place of the list of the symbol x was before a note; a note on anything else leaves the place.
abbrev pub before_note : ℕ → Note → PropertyPlace → Option PropertyPlace
before_note x (Property number change) p = if number == x then before_change change p else Some p
before_note x (Made name) p = Some p
before_note x (Changed name change) p = Some p
before_note x (InPackage name) p = Some p
before_note x (InReadtable name) p = Some p
before_note x (InBase base) p = Some p

-- where the place was before these notes, of which the last is undone first
abbrev pub before_notes : ℕ → List Note → PropertyPlace → Option PropertyPlace
before_notes x [] p = Some p
before_notes x (n ∷ ns) p = option_and_then (before_note x n) (before_notes x ns p)

-- with this value at an index of the list of the symbol x
abbrev pub with_at : NumberedRest → ℕ → ℕ → Object → NumberedRest
with_at r x index v = record r { properties = with_row r.properties x (with_value_at (plist_of_number r.properties x) index v) }

-- There is a property at this place, and whatever it has, one gets back to the same.
pub record IsPlaceOverwritten (ms : List (List Note)) (x : ℕ) (p : PropertyPlace) : Type 0 where
  pub within : p.index < p.length
  pub same : (r : NumberedRest) (v : Object) → length (plist_of_number r.properties x) ≡ p.length
      → ContinuesJournal ms r ms (with_at r x p.index v) × ContinuesJournal ms (with_at r x p.index v) ms r

-- Where the list of the symbol x had so many properties before a change, a note of the other change leads back as well.
abbrev pub OverwriteLeadsBackAs : List (List Note) → ℕ → ℕ → PropertyChange → PropertyChange → Type 0
OverwriteLeadsBackAs ms x count change other =
    (ns : List (List Note)) (t u : NumberedRest) → length (plist_of_number t.properties x) ≡ count → rest_before (Property x change) u ≡ t
    → ContinuesJournal ms (rest_before (Property x other) u) ns u → ContinuesJournal ms t ns u
