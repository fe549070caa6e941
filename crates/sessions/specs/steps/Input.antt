-- What a session has read and not answered yet: what is pending, and what more bytes, or the end of the input, are to it.
use Rattle.std.specs.Prelude.{◌≡◌, ℕ, ◌+◌, ◌<◌, ◌≤◌, Bool, true, cond, List, [], ◌++◌, length, drop, Option, Some, IsSome}
use Rattle.lisp_object.specs.Object.{Object, IsSound}
use Rattle.lisp_object.specs.Datum.{object_of, is_proper}
use Rattle.package_table.specs.Symbols.{are_there}
use Rattle.plist_state.specs.State.{WorldState}
use Rattle.form_reader.specs.Reader.{begun, fed, limits_of, BeginsAt, HasBegunAfter, IsAfterBytes, IsDecidedFrom, MayGoOn}
use Rattle.lisp_reading.specs.Deciding.{decided_from}
use Rattle.lisp_reading.specs.Reading.{form, empty, refused}
use Rattle.sessions.specs.declared.input.Pending.{Pending}
use Rattle.sessions.specs.declared.input.Fed.{Fed}
use Rattle.sessions.specs.declared.input.FedPiece.{FedPiece}
use Rattle.sessions.specs.declared.input.Fed.TheVariants.{Nothing, Form, Refused}
use Rattle.session_words.specs.declared.mode.Mode.{Mode}
use Rattle.prevalence_store.specs.meaning.Acceptance.{between, form_limits, read_in, setting_in}
use Rattle.user_macros.specs.Functions.{Functions}

-- These bytes are pending, as they are read in this world and mode: the reader was fed them, and they decide nothing alone. Of
-- them those are kept since what the reader has open began, and no more.
pub record IsPending (functions : Functions) (world : WorldState) (mode : Mode) (pending : Pending) (bytes : List ℕ) : Type 0 where
  pub limits : limits_of pending.reader ≡ form_limits
  pub after : IsAfterBytes (setting_in functions world mode) pending.reader bytes
  pub count : fed pending.reader ≡ length bytes
  pub kept : pending.text.items ≡ drop pending.dropped bytes
  pub only : pending.dropped ≡ begun pending.reader
  pub more : MayGoOn bytes (read_in functions world mode bytes)
  pub has_begun : HasBegunAfter (setting_in functions world mode) pending.reader bytes

-- A store is open, and some bytes are pending in its world.
pub record AwaitsMore (functions : Functions) (left : Option WorldState) (mode : Mode) (pending : Pending) : Type 0 where
  pub is_open : IsSome left
  pub some : (world : WorldState) → left ≡ Some world → (bytes : List ℕ) × IsPending functions world mode pending bytes

-- The bytes begin with a form, whatever follows them, and this is its own text. What follows the form are the last byte, if
-- that is left, and what comes next. Nothing is pending.
pub record HasForm (functions : Functions) (world : WorldState) (mode : Mode) (pending : Pending) (bytes : List ℕ) (object : Object) (own : List ℕ) (left : Bool) : Type 0 where
  pub start : ℕ
  pub stop : ℕ
  pub next : ℕ
  pub reads : (more : List ℕ) → read_in functions world mode (bytes ++ more) ≡ form object start stop next
  pub is_own : own ≡ between start stop bytes
  pub next_is : next + cond left 1 0 ≡ length bytes
  pub none : (later : WorldState) (in_mode : Mode) → IsPending functions later in_mode pending []

-- the bytes are refused, whatever follows them
pub record HasRefusal (functions : Functions) (world : WorldState) (mode : Mode) (bytes : List ℕ) (number : ℕ) : Type 0 where
  pub at : ℕ
  pub reads : (more : List ℕ) → read_in functions world mode (bytes ++ more) ≡ refused number at

-- what these bytes are, the last of which were fed now
abbrev pub FeedsInput : Functions → WorldState → Mode → Pending → List ℕ → Fed → Type 0
FeedsInput functions world mode pending bytes Nothing = IsPending functions world mode pending bytes
FeedsInput functions world mode pending bytes (Form it left) =
    (has : HasForm functions world mode pending bytes (object_of it.read.datum) it.own.items left) × (has.start ≡ it.start) × (has.next ≡ it.next)
FeedsInput functions world mode pending bytes (Refused number start at) =
    (is : HasRefusal functions world mode bytes number) × (is.at ≡ at) × BeginsAt (setting_in functions world mode) bytes start
    × IsDecidedFrom (setting_in functions world mode) bytes start

-- the bytes are a form to their end, and this is its own text
pub record IsLastForm (functions : Functions) (world : WorldState) (mode : Mode) (bytes : List ℕ) (object : Object) (own : List ℕ) : Type 0 where
  pub start : ℕ
  pub stop : ℕ
  pub reads : read_in functions world mode bytes ≡ form object start stop (length bytes)
  pub is_own : own ≡ between start stop bytes

-- what the bytes are if none follow
abbrev pub FinishesInput : Functions → WorldState → Mode → List ℕ → Fed → Type 0
FinishesInput functions world mode bytes Nothing = read_in functions world mode bytes ≡ empty
FinishesInput functions world mode bytes (Form it left) =
    (last : IsLastForm functions world mode bytes (object_of it.read.datum) it.own.items) × (last.start ≡ it.start) × (length bytes ≡ it.next)
FinishesInput functions world mode bytes (Refused number start at) =
    (read_in functions world mode bytes ≡ refused number at) × BeginsAt (setting_in functions world mode) bytes start
    × (decided_from (setting_in functions world mode) bytes ≡ start)

-- a form has a proper datum, and a sound object
abbrev pub IsSoundFed : Fed → Type 0
IsSoundFed Nothing = Unit {0}
IsSoundFed (Form it left) = (is_proper it.read.datum ≡ true) × IsSound (object_of it.read.datum)
IsSoundFed (Refused number start at) = Unit {0}

-- where they are known to be, the symbols of a form are all in the packages of this world
abbrev pub AreAllThere : WorldState → Fed → Type 0
AreAllThere world Nothing = Unit {0}
AreAllThere world (Form it left) = it.read.known ≡ true → are_there world.packages (object_of it.read.datum) ≡ true
AreAllThere world (Refused number start at) = Unit {0}

-- the places are among so many bytes
abbrev pub PlacesAreWithin : ℕ → Fed → Type 0
PlacesAreWithin many Nothing = Unit {0}
PlacesAreWithin many (Form it left) = (it.start < it.next) × (it.next ≤ many)
PlacesAreWithin many (Refused number start at) = (start ≤ many) × (at ≤ many)

-- Of a piece some bytes were fed: the first of them that decides something is the last that was; if none does, all were. Before and
-- after it so many bytes are pending.
pub record FeedsPart (piece : List ℕ) (before after : ℕ) (part : FedPiece) : Type 0 where
  pub some : 0 < part.count
  pub within : part.count ≤ length piece
  pub all : part.fed ≡ Nothing → part.count ≡ length piece
  pub sound : IsSoundFed part.fed
  pub places : PlacesAreWithin (before + part.count) part.fed
  pub pending : after ≤ before + part.count
