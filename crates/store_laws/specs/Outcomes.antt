-- What a session over an input comes to: it is decided by the world in which the session begins, its mode and the input, whatever the
-- disk, the pace of its snapshots, and whether it has groups.
use Rattle.std.specs.Prelude.{◌≡◌, ◌≢◌, ℕ, ◌+◌, ◌≤◌, List, [], ◌++◌, Option, None, Some}
use Rattle.disk_trait.specs.Disk.{State}
use Rattle.gate_log.specs.Layout.{LogRecord}
use Rattle.lisp_reading.specs.Reading.{ReadingResult as Reading, form, empty, refused}
use Rattle.plist_state.specs.State.{WorldState}
use Rattle.session_words.specs.declared.mode.Mode.{Mode}
use Rattle.sessions.specs.declared.ending.Ended.{Ended}
use Rattle.sessions.specs.declared.ending.Ended.TheVariants.{End, Unreadable, Unaccepted, Store}
use Rattle.prevalence_store.specs.meaning.Acceptance.{read_in}
use Rattle.sessions.specs.FormAnswers.{Progress, after_forms, last_line, one_form}
use Rattle.sessions.specs.Serve.{IsAfter}
use Rattle.prevalence_store.specs.calls.Store.{StoreView}
use Rattle.sessions.specs.Streams.{Writes}
use Rattle.user_macros.specs.Functions.{Functions}

-- The input has so many forms, each read in the world that the ones before it left, and this came of them: what is left is discarded
-- text alone, or the reader refuses it.
pub record HasForms (functions : Functions) (world : WorldState) (mode : Mode) (input : List ℕ) (forms : ℕ) (far : Progress) : Type 0 where
  pub far_is : after_forms functions forms world mode input ≡ Some far
  pub no_more : one_form functions far.world mode far.rest (read_in functions far.world mode far.rest) ≡ None

-- The first form of the input whose evaluation is refused is the last of so many, and this came of them.
pub record EndsAtRefusal (functions : Functions) (world : WorldState) (mode : Mode) (input : List ℕ) (forms : ℕ) (far : Progress) : Type 0 where
  pub far_is : after_forms functions forms world mode input ≡ Some far
  pub refused : far.refused ≢ []
  pub accepted : ℕ
  pub one_more : forms ≡ accepted + 1
  pub before : Progress
  pub before_is : after_forms functions accepted world mode input ≡ Some before
  pub none_refused : before.refused ≡ []

-- the answers to an input that has just these forms: the line of each, and that of a refusal of the reader
abbrev pub answers : Functions → Mode → Progress → List ℕ
answers functions mode far = far.lines ++ last_line (read_in functions far.world mode far.rest)

-- how a session ends that comes to the end of its input, by what is left after the forms of it
abbrev pub IsEndBy : Reading → Ended → Type 0
IsEndBy (form object start stop next) ended = ⊥
IsEndBy empty ended = ended ≡ End
IsEndBy (refused number at) (Unreadable told place) = told ≡ number
IsEndBy (refused number at) _ = ⊥

-- the session came to the end of its input, or to what the reader refuses in it
abbrev pub IsByInput : Ended → Type 0
IsByInput End = Unit {0}
IsByInput (Unreadable number place) = Unit {0}
IsByInput (Unaccepted number place) = ⊥
IsByInput (Store number) = ⊥

module _ (functions : Functions) {D R : Type 0} (state : D → State) (old new : StoreView D R) (world : WorldState) (mode : Mode) (input : List ℕ) (held written : Option (List ℕ)) where
  -- A session over this input, which has these forms, came to the end of it: it wrote the answers to all of it, and left the store
  -- with the world and the records after all its forms.
  pub record Completes (ended : Ended) (forms : ℕ) (far : Progress) : Type 0 where
    pub all : HasForms functions world mode input forms far
    pub ends : IsEndBy (read_in functions far.world mode far.rest) ended
    pub output : Writes held written (answers functions mode far)
    pub after : IsAfter functions state old new world far

  -- A strict session over this input ended at the first form that is refused: it wrote the lines of the forms up to that one, and left
  -- the store with the world and the records after them.
  pub record StopsAtRefusal (forms : ℕ) (far : Progress) : Type 0 where
    pub first : EndsAtRefusal functions world mode input forms far
    pub output : Writes held written far.lines
    pub after : IsAfter functions state old new world far

  -- A session over this input, which has these forms, was cut short: it took the first so many of them, wrote a front of the answers
  -- to all of it, and left the store with the world after those that it took, or with none.
  pub record BreaksOff (far : Progress) (forms : ℕ) : Type 0 where
    pub taken : ℕ
    pub among : taken ≤ forms
    pub so_far : Progress
    pub so_far_is : after_forms functions taken world mode input ≡ Some so_far
    pub bytes : List ℕ
    pub unwritten : List ℕ
    pub front : answers functions mode far ≡ bytes ++ unwritten
    pub output : Writes held written bytes
    pub records_left : List LogRecord
    pub records_are : far.taken ≡ so_far.taken ++ records_left
    pub left : (now : WorldState) → new.world ≡ Some now → now ≡ so_far.world
