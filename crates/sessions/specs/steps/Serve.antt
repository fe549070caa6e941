-- What a piece of the input comes to in a session, up to the first byte that decides something.
use Rattle.std.specs.Prelude.{◌≡◌, ◌≢◌, ◌⊎◌, ℕ, ◌+◌, ◌<◌, ◌≤◌, Bool, true, List, [], ◌++◌, drop, Option, None, Some, Ok, Err, Result}
use Rattle.disk_trait.specs.Disk.{State}
use Rattle.lisp_object.specs.declared.refusal.TheConstants.{INPUT, OUTPUT}
use Rattle.sessions.specs.declared.input.Pending.{Pending}
use Rattle.session_words.specs.declared.mode.Mode.{Mode}
use Rattle.sessions.specs.declared.ending.Ended.{Ended}
use Rattle.sessions.specs.declared.ending.Ended.TheVariants as ways
use Rattle.sessions.specs.declared.ending.Place.{Place}
use Rattle.session_words.specs.declared.wanted.SessionOptions.{SessionOptions}
use Rattle.sessions.specs.declared.ending.Ending.{Ending}
use Rattle.sessions.specs.declared.ending.Ending.TheVariants.{End, Reader, Store}
use Rattle.sessions.specs.FormAnswers.{Progress, after_forms}
use Rattle.sessions.specs.Pace.{Pace, PacesForms, fill_of}
use Rattle.sessions.specs.steps.Input.{IsPending}
use Rattle.sessions.specs.steps.Course.{CourseComesOn, Course}
use Rattle.sessions.specs.Serve.{Advances, AreFormsAccepted, RefusesAt, Serves, ServesInPace, StaysAnswered, StaysRefused, StaysStopped, StopsStrict}
use Rattle.prevalence_store.specs.calls.Store.{StoreView}
use Rattle.plist_state.specs.State.{WorldState}
use Rattle.user_macros.specs.Functions.{Functions}

-- an ending, with the place of a refusal of the reader
abbrev pub ended_at : Place → Ending → Ended
ended_at place End = ways.End
ended_at place (Reader number) = ways.Unreadable number place
ended_at place (Store number) = ways.Store number

-- how `serve` tells of an end
abbrev pub ending_of : Ended → Ending
ending_of ways.End = End
ending_of (ways.Unreadable number place) = Reader number
ending_of (ways.Unaccepted number place) = Reader number
ending_of (ways.Store number) = Store number

-- Forms were answered, and the same ones of any text that goes on. Of what is left of the text the reader was fed all but these
-- last bytes. If the session is strict, none of the forms was refused.
pub record SessionGoesOn (functions : Functions) {D R : Type 0} (state : D → State) (strict : Bool) (course later : Course) (old new : StoreView D R) (world : WorldState) (mode : Mode) (text : List ℕ)
    (held written : Option (List ℕ)) (pending : Pending) (left : List ℕ) : Type 0 where
  pub forms : ℕ
  pub far : Progress
  pub advances : Advances functions state old new world mode text held written forms far
  pub paced : PacesForms functions old.limit world far.taken course.pace later.pace (fill_of state old) (fill_of state new)
  pub comes : CourseComesOn course later forms text far.rest
  pub accepted : strict ≡ true → far.refused ≡ []
  pub stays : (more : List ℕ) → after_forms functions forms world mode (text ++ more) ≡ Some (record far { rest = far.rest ++ more })
  pub bytes : List ℕ
  pub rest : far.rest ≡ bytes ++ left
  pub is_pending : IsPending functions far.world mode pending bytes

module _ (functions : Functions) {D R : Type 0} (state : D → State) (pace : Pace) (old new : StoreView D R) (world : WorldState) (mode : Mode) (text : List ℕ) (held written : Option (List ℕ)) where
  -- The forms are the same whatever follows the text. A refusal of the reader stays one, also if the output failed in the line of it; the
  -- end of the input is not told by a text that may go on.
  abbrev pub StaysEnded : {group : Bool} (ending : Ending) → Serves functions state old new world mode text held written group ending → Type 0
  StaysEnded End served = ⊥
  StaysEnded (Reader number) served = StaysRefused functions world mode text served.forms served.far number
  StaysEnded (Store number) served =
      (number ≡ OUTPUT → served.lines ≡ served.forms → (refusal : ℕ) × StaysRefused functions world mode text served.forms served.far refusal)
      × StaysAnswered functions world mode text served.forms served.far

  -- the session has ended
  pub record HasSessionEnded (group : Bool) (ending : Ending) : Type 0 where
    pub serves : Serves functions state old new world mode text held written group ending
    pub paced : ServesInPace functions state pace old new world mode text held written ending serves
    pub stays : StaysEnded ending serves

module _ (functions : Functions) {D R : Type 0} (state : D → State) (wanted : SessionOptions) (course : Course) (old new : StoreView D R) (world : WorldState) (mode : Mode) (text : List ℕ) (held written : Option (List ℕ)) where
  -- a session over the text, and how far its snapshots have come; if it is strict, what was answered was accepted
  abbrev pub ServesStrict : Ending → Type 0
  ServesStrict ending =
      (served : Serves functions state old new world mode text held written wanted.group ending)
      × ServesInPace functions state course.pace old new world mode text held written ending served
      × (wanted.strict ≡ true → AreFormsAccepted served.forms served.lines served.far served.answered)

  -- a session over the text that ended so, with the place of a refusal
  abbrev pub EndsAt : Ended → Type 0
  EndsAt ways.End = ServesStrict End
  EndsAt (ways.Unreadable number place) =
      (is : ServesStrict (Reader number)) × RefusesAt functions state old new world mode text held written course.pace course.forms course.bytes number is.0 place
  EndsAt (ways.Unaccepted number place) =
      (wanted.strict ≡ true) × StopsStrict functions state old new world mode text held written course.pace course.forms course.bytes number place
  EndsAt (ways.Store number) = ServesStrict (Store number) × (number ≢ INPUT)

  -- the session ended so before the end of the text, with the place of a refusal; it has not come to the end of the input
  abbrev pub HasEndedAt : Ended → Type 0
  HasEndedAt ways.End = ⊥
  HasEndedAt (ways.Unreadable number place) =
      (is : HasSessionEnded functions state course.pace old new world mode text held written wanted.group (Reader number))
      × (wanted.strict ≡ true → AreFormsAccepted is.serves.forms is.serves.lines is.serves.far is.serves.answered)
      × RefusesAt functions state old new world mode text held written course.pace course.forms course.bytes number is.serves place
  HasEndedAt (ways.Unaccepted number place) =
      (wanted.strict ≡ true) × (stops : StopsStrict functions state old new world mode text held written course.pace course.forms course.bytes number place)
      × StaysStopped functions state old new world mode text held written course.pace course.forms course.bytes number place stops
  HasEndedAt (ways.Store number) =
      (is : HasSessionEnded functions state course.pace old new world mode text held written wanted.group (Store number))
      × (wanted.strict ≡ true → AreFormsAccepted is.serves.forms is.serves.lines is.serves.far is.serves.answered)

module _ (functions : Functions) {D R : Type 0} (state : D → State) (wanted : SessionOptions) (course later : Course) (old new : StoreView D R) (world : WorldState) (mode : Mode) (text : List ℕ) (held written : Option (List ℕ)) (pending : Pending) where
  -- The session goes on; or it has ended, whatever follows the text.
  abbrev pub AnswersPiece : Option Ended → Type 0
  AnswersPiece None = SessionGoesOn functions state wanted.strict course later old new world mode text held written pending []
  AnswersPiece (Some ended) = (more : List ℕ) → HasEndedAt functions state wanted course old new world mode (text ++ more) held written ended

  -- What a piece comes to, if the text ends with it: so many bytes of it are done with, and those after them are left; or the
  -- session has ended.
  abbrev pub PieceComesTo : List ℕ → Result ℕ Ended → Type 0
  PieceComesTo piece (Ok count) = SessionGoesOn functions state wanted.strict course later old new world mode text held written pending (drop count piece)
  PieceComesTo piece (Err ended) = AnswersPiece (Some ended)

-- Of so many bytes some are done with; or none, if what was pending before them is a form, and the first of them follows it. Before
-- and after it so many bytes are pending.
abbrev pub PassesBytes : (before after many : ℕ) → Result ℕ Ended → Type 0
PassesBytes before after many (Ok count) =
    (count ≤ many) × (after ≤ before + count) × ((0 < count) ⊎ ((0 < before) × (after ≡ 0)))
PassesBytes before after many (Err ended) = Unit {0}
