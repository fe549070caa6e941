-- What contracts see of the journal, and what holds of it.
use Rattle.std.specs.Prelude.{◌≡◌, ℕ, ◌<◌, ◌≤◌, Some, List, [], ◌∷◌, length, map}
use Rattle.std.specs.FinMap as finite
use Rattle.std.specs.Global.{Vec}
use Rattle.std.specs.Vec.{vec_len, vec_capacity}
use Rattle.readtable_core.specs.Tables.{CharacterEntry, Table, entry_at}
use Rattle.package_table.specs.Table.{Name}
use Rattle.plist_state.specs.declared.note.TableChange.{TableChange}
use Rattle.plist_state.specs.declared.note.TableChange.TheVariants.{Over, Letters, Character}
use Rattle.plist_state.specs.declared.note.Note.{Note}
use Rattle.plist_state.specs.declared.note.Note.TheVariants.{Property, Made, Changed, InPackage, InReadtable, InBase}
use Rattle.plist_state.specs.State.{Readtables}
use Rattle.plist_state.specs.Lists.{plist_of_number}
use Rattle.plist_state.specs.Views.{Rows, room_at, NumberedRest}
use Rattle.plist_state.specs.KeptRows.{IsProperChange}
use Rattle.plist_state.specs.Undoing.{all_undone, undone_since, rests_at}

-- the notes under each mark
abbrev pub marks_of : List (Vec Note) → List (List Note)
marks_of ms = map (λ m. m.items) ms

-- the newest mark, if there is one, has room for a note more
abbrev pub has_room : List (Vec Note) → Type 0
has_room [] = Unit {0}
has_room (m ∷ []) = vec_len m < vec_capacity m
has_room (m ∷ n ∷ ms) = has_room (n ∷ ms)

-- a character of which an entry is noted is below 128
abbrev pub IsTableChange : TableChange → Type 0
IsTableChange (Over before) = Unit {0}
IsTableChange (Letters letters) = Unit {0}
IsTableChange (Character c entry) = c < 128

-- the note of what is at a character of the readtable of this name
pub record IsEntryNote (m : Readtables) (n : Name) (c : ℕ) (note : Note) : Type 0 where
  pub name : Vec ℕ
  pub entry : CharacterEntry
  pub named : name.items ≡ n
  pub noted : note ≡ Changed name (Character c entry)
  pub was : (t : Table) → finite.get m n ≡ Some t → entry ≡ entry_at t c

-- what was overwritten can be put back
abbrev pub CanBeUndone : Note → Type 0
CanBeUndone (Property number change) = IsProperChange change
CanBeUndone (Made name) = Unit {0}
CanBeUndone (Changed name change) = IsTableChange change
CanBeUndone (InPackage name) = Unit {0}
CanBeUndone (InReadtable name) = Unit {0}
CanBeUndone (InBase base) = Unit {0}

-- the rows have memory for these property lists
abbrev pub FitsRows : Rows → NumberedRest → Type 0
FitsRows rows r = (i : ℕ) → length (plist_of_number r.properties i) ≤ room_at rows i

-- each rest on the way back over these notes can be put back, and the rows have memory for it
abbrev pub LeadsBack : List Note → NumberedRest → Rows → Type 0
LeadsBack [] r rows = Unit {0}
LeadsBack (n ∷ ns) r rows = CanBeUndone n × FitsRows rows (all_undone (n ∷ ns) r) × LeadsBack ns r rows

-- the notes of each mark lead back, from the newest mark to the first
abbrev pub IsJournal : List (List Note) → NumberedRest → Rows → Type 0
IsJournal [] r rows = Unit {0}
IsJournal (m ∷ ms) r rows = LeadsBack m (undone_since ms r) rows × IsJournal ms r rows

-- From the rest u one gets back with the notes ns to what one gets back to from t with the notes ms.
pub record ContinuesJournal (ms : List (List Note)) (t : NumberedRest) (ns : List (List Note)) (u : NumberedRest) : Type 0 where
  pub same : rests_at ns u ≡ rests_at ms t
  pub journal : (rows : Rows) → FitsRows rows t → IsJournal ms t rows → IsJournal ns u rows

-- A change of the readtables alone: whatever else is kept, one gets back to what one got back to before.
abbrev pub ContinuesTables : List (List Note) → Readtables → List (List Note) → Readtables → Type 0
ContinuesTables ms before ns later =
    (r : NumberedRest) → ContinuesJournal ms (record r { readtables = before }) ns (record r { readtables = later })
