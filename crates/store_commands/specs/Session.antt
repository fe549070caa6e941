-- What a session over a disk does, and what it has written. Of what the files of a folder hold no clause can say a thing.
use Rattle.std.specs.Prelude.{◌≡◌, ◌⊎◌, ℕ, List, [], ◌++◌, Option, Some, true}
use Rattle.disk_trait.specs.Disk.{State}
use Rattle.lisp_reading.specs.Reading.{empty, refused}
use Rattle.plist_state.specs.State.{WorldState}
use Rattle.session_words.specs.declared.mode.Mode.{Mode}
use Rattle.sessions.specs.declared.ending.Ended.{Ended}
use Rattle.sessions.specs.declared.ending.Ended.TheVariants.{End}
use Rattle.sessions.specs.declared.ending.Place.{Place}
use Rattle.session_words.specs.declared.wanted.SessionOptions.{SessionOptions}
use Rattle.prevalence_store.specs.meaning.Acceptance.{read_in}
use Rattle.user_macros.specs.Functions.{Functions}
use Rattle.sessions.specs.Account.{first_account}
use Rattle.prevalence_store.specs.calls.Open.{IsOpened}
use Rattle.sessions.specs.FormAnswers.{Progress, after_forms, last_line, refusal_line}
use Rattle.sessions.specs.Serve.{IsPlace, IsFormUnaccepted, ServesWanted, ended_after_cut}
use Rattle.prevalence_store.specs.calls.Store.{StoreView}
use Rattle.prevalence_store.specs.calls.Zeros.{TriesToCutZeros}
use Rattle.diagnostics.specs.declared.refusal.Refusal.{Refusal}
use Rattle.session_ledger.specs.OutgoingLines.{WentOut}
use Rattle.store_commands.specs.Status.{status_of_ended}
use Rattle.store_commands.specs.declared.status.Status.{Status}
use Rattle.store_commands.specs.declared.status.Status.TheVariants.{Done, Helped, FormRefused, Unanswered, WordsRefused, LeftOut, Fault}
use Rattle.store_commands.specs.declared.told.Remark.{Remark}
use Rattle.store_commands.specs.declared.told.Remark.TheVariants.{Refused}

-- how many bytes each of the two files of a store may have
abbrev pub half_limit : ℕ
half_limit = 1073741824

-- The store that a disk holds was opened with these macro functions, and it served the input as was wanted. It may have written zeros ahead,
-- which were cut then, and it was closed: this is its disk. What failed in the cut is how the session ended.
pub record IsSession (functions : Functions) (wanted : SessionOptions) {D R : Type 0} (state : D → State) (disk : D) (macros : R) (had has held written : Option (List ℕ)) (ended : Ended) (back : D) : Type 0 where
  pub opened : StoreView D R
  pub is_opened : IsOpened functions state disk macros half_limit opened
  pub served : StoreView D R
  pub served_ended : Ended
  pub serves : ServesWanted functions state wanted opened served is_opened.world had has held written served_ended
  pub closed : StoreView D R
  pub cuts : TriesToCutZeros functions state served closed
  pub ended_is : ended ≡ ended_after_cut cuts.result served_ended
  -- what went out, and when: by then it was stored
  pub went : WentOut functions state (first_account is_opened.world wanted.mode had opened.disk) closed held written
  pub disk_is : back ≡ closed.disk

-- What a session writes where the macro functions mean this, and each form is read in this mode.
module _ (functions : Functions) (mode : Mode) where
  -- the lines of so many forms of the input were written, and this last line
  pub record LinesAreWritten (world : WorldState) (input held : List ℕ) (written : Option (List ℕ)) (last : List ℕ) : Type 0 where
    pub forms : ℕ
    pub far : Progress
    pub far_is : after_forms functions forms world mode input ≡ Some far
    pub all : written ≡ Some (held ++ (far.lines ++ last))

  -- A session was broken off: what was written is a first part of the answers to what was read, as the store of some world gives
  -- them, and nothing else.
  pub record IsBrokenOff (input held : List ℕ) (written : Option (List ℕ)) : Type 0 where
    pub world : WorldState
    pub read : List ℕ
    pub left : List ℕ
    pub parts : input ≡ read ++ left
    pub forms : ℕ
    pub far : Progress
    pub far_is : after_forms functions forms world mode read ≡ Some far
    pub front : List ℕ
    pub unwritten : List ℕ
    pub lines : far.lines ++ last_line (read_in functions far.world mode far.rest) ≡ front ++ unwritten
    pub all : written ≡ Some (held ++ front)

module _ (functions : Functions) (wanted : SessionOptions) where
  -- Of what was read of the input this is left after its first forms, and in it something is refused at a place, which is told: so many
  -- forms and so many bytes of the input come before it.
  pub record IsAtPlace (world : WorldState) (input : List ℕ) (place : Place) (refuses : Progress → ℕ → Type 0) : Type 0 where
    pub read : List ℕ
    pub left : List ℕ
    pub parts : input ≡ read ++ left
    pub forms : ℕ
    pub far : Progress
    pub far_is : after_forms functions forms world wanted.mode read ≡ Some far
    pub at : ℕ
    pub is_refused : refuses far at
    pub is_place : IsPlace 0 0 forms read far.rest at place
    -- in a strict session each of these forms was accepted
    pub accepted : wanted.strict ≡ true → far.refused ≡ []

  -- the reader refused what is left at this place
  abbrev pub IsUnreadable : Refusal → Progress → ℕ → Type 0
  IsUnreadable refusal far at = read_in functions far.world wanted.mode far.rest ≡ refused refusal.number at

  -- in a strict session, the form that begins at this place was refused
  abbrev pub StopsAtForm : Refusal → Progress → ℕ → Type 0
  StopsAtForm refusal far start = (wanted.strict ≡ true) × IsFormUnaccepted functions far.world wanted.mode far.rest refusal.number start

  -- The answers to the input end with the line of this refusal, by the reader, or of a form of a strict session.
  abbrev pub AnswersToRefusal : WorldState → Refusal → List ℕ → List ℕ → Option (List ℕ) → Type 0
  AnswersToRefusal world refusal input held written =
      ((lines : LinesAreWritten functions wanted.mode world input held written (refusal_line refusal.number))
      × ((place : ℕ) × (read_in functions lines.far.world wanted.mode lines.far.rest ≡ refused refusal.number place))
      × IsAtPlace world input refusal.place (IsUnreadable refusal))
      ⊎ ((stopped : IsAtPlace world input refusal.place (StopsAtForm refusal))
      × (written ≡ Some (held ++ (stopped.far.lines ++ refusal_line refusal.number))))

  -- The input was answered to its end; in a strict session no form was refused.
  abbrev pub AnswersWhole : List ℕ → List ℕ → Option (List ℕ) → Type 0
  AnswersWhole input held written =
      (world : WorldState) × (lines : LinesAreWritten functions wanted.mode world input held written [])
      × (read_in functions lines.far.world wanted.mode lines.far.rest ≡ empty) × (wanted.strict ≡ true → lines.far.refused ≡ [])

  -- the status after a session that ended in this way; a strict one may have answered nothing of a text
  abbrev pub IsStatusAfter : Ended → Status → Type 0
  IsStatusAfter ended status = (status ≡ status_of_ended ended) ⊎ ((wanted.strict ≡ true) × (ended ≡ End) × (status ≡ Unanswered))

  -- The input was answered as the store of some world answers it: to its end, or to a refusal, which is told.
  abbrev pub AnswersInput : Status → Remark → List ℕ → List ℕ → Option (List ℕ) → Type 0
  AnswersInput Done told input held written = AnswersWhole input held written
  AnswersInput Unanswered told input held written = (wanted.strict ≡ true) × AnswersWhole input held written
  AnswersInput FormRefused told input held written =
      (world : WorldState) × (refusal : Refusal) × (told ≡ Refused refusal) × AnswersToRefusal world refusal input held written
  AnswersInput Helped told input held written = Unit {0}
  AnswersInput WordsRefused told input held written = Unit {0}
  AnswersInput LeftOut told input held written = ⊥
  AnswersInput (Fault number) told input held written = Unit {0}

-- at the end of the input nothing of it is left
abbrev pub ReadsToEnd : Status → Option (List ℕ) → Type 0
ReadsToEnd Done left = left ≡ Some []
ReadsToEnd Unanswered left = left ≡ Some []
ReadsToEnd FormRefused left = Unit {0}
ReadsToEnd Helped left = Unit {0}
ReadsToEnd WordsRefused left = Unit {0}
ReadsToEnd LeftOut left = Unit {0}
ReadsToEnd (Fault number) left = Unit {0}
