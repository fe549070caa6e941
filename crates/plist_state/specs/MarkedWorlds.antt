-- What contracts see of a world, and what holds of it.
use Rattle.std.specs.Prelude.{◌≡◌, ℕ, ◌<◌, ◌≤◌, ◌^◌, ◌++◌, List, [], ◌∷◌, length, All}
use Rattle.std.specs.Global.{Vec}
use Rattle.package_table.specs.Numbers.{Numbered, Tables, table_now}
use Rattle.plist_state.specs.declared.note.Note.{Note}
use Rattle.plist_state.specs.declared.replaced.Replaced.{Replaced}
use Rattle.plist_state.specs.declared.stored.Stored.{Stored}
use Rattle.plist_state.specs.declared.world.World.TheInside.{Inside}
use Rattle.plist_state.specs.State.{Rest, WorldState, Worlds, state_with}
use Rattle.plist_state.specs.Sound.{IsSoundWorldState}
use Rattle.plist_state.specs.Lists.{lists, AreListsOfSymbols}
use Rattle.plist_state.specs.Views.{NumberedRest, Rows, rest_of}
use Rattle.plist_state.specs.KeptRows.{IsProperRows}
use Rattle.plist_state.specs.RowIndexes.{AreRowIndexes}
use Rattle.plist_state.specs.Sizes.{Sizes, AreSizes}
use Rattle.plist_state.specs.Undoing.{rests_at}
use Rattle.plist_state.specs.Journal.{marks_of, IsJournal}

-- what is kept beside the packages, with the property lists by their symbols and not by their numbers
abbrev pub rest_in : Numbered → NumberedRest → Rest
rest_in s r =
    record {
      properties = lists s r.properties;
      readtables = r.readtables;
      current_package = r.current_package;
      current_readtable = r.current_readtable;
      read_base = r.read_base;
    }

-- the state of these packages, and of what is kept besides
abbrev pub state_in : Numbered → NumberedRest → WorldState
state_in s r = state_with s.0 (rest_in s r)

-- the states that were marked: at each mark the packages, and the rest
abbrev pub marked_states : List Numbered → List NumberedRest → List WorldState
marked_states [] rests = []
marked_states (s ∷ ss) [] = []
marked_states (s ∷ ss) (r ∷ rests) = state_in s r ∷ marked_states ss rests

-- the state of what was replaced, and the states that were marked in it
abbrev pub worlds_in : Replaced → Worlds
worlds_in e = (state_in (table_now e.packages) (rest_of e.stored), marked_states e.packages.1.marked (rests_at (marks_of e.marks.items) (rest_of e.stored)))

-- what was replaced has one mark more, at which another was put in its place
abbrev pub earlier_states : List Replaced → List WorldState
earlier_states [] = []
earlier_states (e ∷ es) = (worlds_in e).1 ++ (worlds_in e).0 ∷ earlier_states es

-- the state of a world, and the states that were marked: those of what was replaced come first
abbrev pub worlds_of : Inside → Worlds
worlds_of a =
    (state_in (table_now a.packages) (rest_of a.stored), earlier_states a.earlier.items ++ marked_states a.packages.1.marked (rests_at (marks_of a.marks.items) (rest_of a.stored)))

-- at each mark, each number that has a list is that of a symbol
abbrev pub AreMarkedListsOfSymbols : List Numbered → List NumberedRest → Type 0
AreMarkedListsOfSymbols [] rests = Unit {0}
AreMarkedListsOfSymbols (s ∷ ss) [] = Unit {0}
AreMarkedListsOfSymbols (s ∷ ss) (r ∷ rests) = AreListsOfSymbols s r.properties × AreMarkedListsOfSymbols ss rests

-- The packages have as many marks as the rest. One can go back to each, and each marked state is sound.
pub record AreMarksSound (ss : List Numbered) (ms : List (List Note)) (r : NumberedRest) (rows : Rows) : Type 0 where
  pub as_many : length ss ≡ length ms
  pub journal : IsJournal ms r rows
  pub owned : AreMarkedListsOfSymbols ss (rests_at ms r)
  pub sound : All IsSoundWorldState (marked_states ss (rests_at ms r))

-- each value is proper, each index is that of its row, each size that of its list, each list has its symbol, and the state is sound, now and at each mark
pub record IsKeptPart (packages : Tables) (stored : Stored) (notes : List (Vec Note)) (noted : Sizes) : Type 0 where
  pub values : IsProperRows stored.properties.items
  pub indexed : AreRowIndexes stored.properties.items stored.indexes.entries
  pub sizes : AreSizes (rest_of stored).properties noted
  pub owned : AreListsOfSymbols (table_now packages) (rest_of stored).properties
  pub sound : IsSoundWorldState (state_in (table_now packages) (rest_of stored))
  pub marked : AreMarksSound packages.1.marked (marks_of notes) (rest_of stored) stored.properties.items

-- what was replaced can be put back
abbrev pub CanBePutBack : Replaced → Type 0
CanBePutBack e = IsKeptPart e.packages e.stored e.marks.items e.sizes.entries

-- what was replaced, which has so many marks
pub record AreReplacedParts (es : List Replaced) (marks : ℕ) : Type 0 where
  pub each : All CanBePutBack es
  pub count : marks ≡ length (earlier_states es)
  pub below : marks < 2 ^ 62

-- what a world keeps now is as it has to be, and so is each thing that was replaced and may come back
pub record HasKeptWorld (a : Inside) : Type 0 where
  pub now : IsKeptPart a.packages a.stored a.marks.items a.sizes.entries
  pub earlier : AreReplacedParts a.earlier.items a.earlier_marks

-- On the way back to a mark of the world before, this world is nearer: it was marked there, at that mark or a later one.
abbrev pub IsWayBack : ℕ → Worlds → Worlds → Type 0
IsWayBack mark before w = (later : List WorldState) × (before.1 ≡ w.1 ++ w.0 ∷ later) × (mark ≤ length w.1)
