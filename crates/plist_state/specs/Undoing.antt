-- How changes are taken back: of a property list, of the readtables, and of all that a world keeps besides its packages.
use Rattle.std.specs.Prelude.{◌≡◌, ℕ, Bool, false, zero, suc, ◌+◌, ◌-◌, nat_le, if◌then◌else◌, List, [], ◌∷◌, length, map, take, bytes_eq, vec_capacity}
use Rattle.std.specs.Global.{Vec}
use Rattle.std.specs.Option.{option_map_or}
use Rattle.std.specs.FinMap as finite
use Rattle.lisp_object.specs.Object.{Object, pair, pairs}
use Rattle.lisp_object.specs.Datum.{object_of}
use Rattle.lisp_object.specs.declared.datum.Datum.{Datum}
use Rattle.readtable_core.specs.Tables.{Table}
use Rattle.readtable_core.specs.Changes.{with_character_entry}
use Rattle.package_table.specs.Table.{Name}
use Rattle.plist_state.specs.declared.note.PropertyChange.{PropertyChange}
use Rattle.plist_state.specs.declared.note.PropertyChange.TheVariants.{Set, Added, Removed, Pushed, Popped}
use Rattle.plist_state.specs.declared.note.TableChange.{TableChange}
use Rattle.plist_state.specs.declared.note.TableChange.TheVariants.{Over, Letters, Character}
use Rattle.plist_state.specs.declared.note.Note.{Note}
use Rattle.plist_state.specs.declared.note.Note.TheVariants.{Property, Made, Changed, InPackage, InReadtable, InBase}
use Rattle.plist_state.specs.Lists.{NumberedPlist, plist_of_number, with_row}
use Rattle.plist_state.specs.State.{Readtables}
use Rattle.plist_state.specs.Views.{numbered_property, NumberedRest}

-- with the value at an index, if the list reaches so far
abbrev pub with_value_at : NumberedPlist → ℕ → Object → NumberedPlist
with_value_at [] k x = []
with_value_at (p ∷ ps) zero x = (p.0, x) ∷ ps
with_value_at (p ∷ ps) (suc k) x = p ∷ with_value_at ps k x

-- a list without its first element; another object as it is
abbrev pub without_first : Object → Object
without_first (pair x xs) = xs
without_first x = x

-- how many elements a list has; none where it is no list with one
abbrev pub element_count : Object → ℕ
element_count (pair x xs) = suc (element_count xs)
element_count _ = 0

-- a list with these items before its own, if they have room for those; else it, and another object, as it is
abbrev pub with_items : Vec Datum → Object → Object
with_items items (pair x xs) =
    if nat_le (length items.items + element_count (pair x xs)) (vec_capacity items) then pairs (map object_of items.items) (pair x xs) else pair x xs
with_items items x = x

-- with what is made of the value at an index
abbrev pub with_changed_at : (Object → Object) → NumberedPlist → ℕ → NumberedPlist
with_changed_at f [] k = []
with_changed_at f (p ∷ ps) zero = (p.0, f p.1) ∷ ps
with_changed_at f (p ∷ ps) (suc k) = p ∷ with_changed_at f ps k

-- with the property before the one at an index, or last where the list does not reach so far
abbrev pub with_inserted : NumberedPlist → ℕ → ℕ × Object → NumberedPlist
with_inserted [] k p = p ∷ []
with_inserted (q ∷ ps) zero p = p ∷ q ∷ ps
with_inserted (q ∷ ps) (suc k) p = q ∷ with_inserted ps k p

-- the list before the change
abbrev pub list_before : PropertyChange → NumberedPlist → NumberedPlist
list_before (Set index value) ps = with_value_at ps index (object_of value)
list_before Added ps = take (length ps - 1) ps
list_before (Removed index property) ps = with_inserted ps index (numbered_property property)
list_before (Pushed index empty) ps = with_changed_at without_first ps index
list_before (Popped index items) ps = with_changed_at (with_items items) ps index

-- the change leads back from the later list to the one before
abbrev pub GoesBack : NumberedPlist → NumberedPlist → PropertyChange → Type 0
GoesBack before later change = list_before change later ≡ before

-- the readtable before the change
abbrev pub table_before : TableChange → Table → Table
table_before (Over before) t = before
table_before (Letters letters) t = record t { letters = letters }
table_before (Character c entry) t = with_character_entry t c entry

-- the readtables before a change of the one of this name
abbrev pub tables_before : Readtables → Name → TableChange → Readtables
tables_before m n change = option_map_or (λ t. finite.insert m n (table_before change t)) (finite.get m n) m

-- the rest before the change
abbrev pub rest_before : Note → NumberedRest → NumberedRest
rest_before (Property number change) r = record r { properties = with_row r.properties number (list_before change (plist_of_number r.properties number)) }
rest_before (Made name) r = record r { readtables = finite.remove r.readtables name.items }
rest_before (Changed name change) r = record r { readtables = tables_before r.readtables name.items change }
rest_before (InPackage name) r = record r { current_package = name.items }
rest_before (InReadtable name) r = record r { current_readtable = name.items }
rest_before (InBase base) r = record r { read_base = base }

-- the rest before all these changes: the last is undone first
abbrev pub all_undone : List Note → NumberedRest → NumberedRest
all_undone [] r = r
all_undone (n ∷ ns) r = rest_before n (all_undone ns r)

-- the rest at the first of these marks, each of which is the changes since, up to the next one
abbrev pub undone_since : List (List Note) → NumberedRest → NumberedRest
undone_since [] r = r
undone_since (m ∷ ms) r = all_undone m (undone_since ms r)

-- the rest at each of these marks
abbrev pub rests_at : List (List Note) → NumberedRest → List NumberedRest
rests_at [] r = []
rests_at (m ∷ ms) r = undone_since (m ∷ ms) r ∷ rests_at ms r

-- where this note is undone, the readtable of this name is gone, or an earlier one, whatever it was
abbrev pub restores : Name → Note → Bool
restores n (Made name) = bytes_eq name.items n
restores n (Changed name (Over before)) = bytes_eq name.items n
restores n _ = false
