-- How a session goes, and how it ends: one relation, with a case for each ending.
--
-- Read it in this order: `Progress` and `after_forms` of Answers.antt, what comes of the forms of a text; `Serves`, which forms were taken and
-- answered, with `Ends`, a record for each ending; `EndsInPace` of Pace.antt, which snapshots were taken; `HasRead`, how much was read. Then
-- `ServesInput` is all of these over a reader, and `ServesWanted`, which contracts cite, adds places and strict sessions.
--
-- There `lines` is how many forms were answered, and `lines` of a `Progress` their bytes; `taken` are the records of the forms that wrote.
use Rattle.std.specs.Prelude.{◌≡◌, ◌≢◌, ◌⊎◌, ℕ, zero, suc, ◌+◌, ◌-◌, ◌<◌, ◌≤◌, ◌==◌, if◌then◌else◌, max, List, [], ◌∷◌, ◌++◌, length, take, drop, Option, Some, Result, Ok, Err, Bool, true, false}
use Rattle.disk_trait.specs.Disk.{State, IsHonest}
use Rattle.disk_trait.specs.Half.{opposite_of}
use Rattle.disk_trait.specs.declared.half.Half.{Half}
use Rattle.gate_log.specs.Layout.{Contents, LogRecord, batch_size, half_base, next_version, with_records}
use Rattle.lisp_object.specs.declared.refusal.TheConstants.{DEVICE, LOG_FULL, REOPEN, SNAPSHOT_TOO_LARGE, INPUT, OUTPUT, NO_MEMORY}
use Rattle.session_words.specs.declared.mode.Mode.{Mode}
use Rattle.sessions.specs.declared.ending.Ended.{Ended}
use Rattle.sessions.specs.declared.ending.Ended.TheVariants as ways
use Rattle.sessions.specs.declared.ending.Place.{Place}
use Rattle.session_words.specs.declared.wanted.SessionOptions.{SessionOptions}
use Rattle.sessions.specs.declared.ending.Ending.{Ending}
use Rattle.sessions.specs.declared.ending.Ending.TheVariants.{End, Reader, Store}
use Rattle.prevalence_store.specs.meaning.Acceptance.{after, read_in, setting_in, table_in, transaction_value}
use Rattle.lisp_reading.specs.Deciding.{decided_from}
use Rattle.prevalence_store.specs.calls.Execute.{DeviceFails, SurvivesAs}
use Rattle.prevalence_store.specs.calls.ExecuteAll.{AllOrNone}
use Rattle.prevalence_store.specs.calls.Store.{LeavesAlone, StoreView, Describes}
use Rattle.sessions.specs.FormAnswers.{Progress, after_forms, last_line, refusal_line}
use Rattle.sessions.specs.Pace.{EndsInPace, IsOverIn, Pace, PacesForms, fill_of, first_pace}
use Rattle.lisp_object.specs.Object.{Object}
use Rattle.form_reader.specs.Reader.{MayGoOn}
use Rattle.lisp_reading.specs.Reading.{form, empty, is_whitespace, refused}
use Rattle.prevalence_store.specs.calls.Snapshot.{IsTooLarge}
use Rattle.sessions.specs.Streams.{Writes}
use Rattle.plist_state.specs.State.{WorldState}
use Rattle.world_text.specs.Snapshot.{snapshot}
use Rattle.user_macros.specs.Functions.{Functions}

-- the half in use after so many snapshots
abbrev pub half_after : ℕ → Half → Half
half_after zero half = half
half_after (suc snapshots) half = opposite_of (half_after snapshots half)

-- what a half holds that was begun with the text of a world, on a disk that mixes or does not, so many generations after these contents, and
-- these records after it
abbrev pub contents_after : (mixes : Bool) → Contents → ℕ → WorldState → List LogRecord → Contents
contents_after mixes k snapshots first entries = record { version = next_version mixes k.version; generation = k.generation + snapshots; snapshot = snapshot first; entries = entries }

module _ {D R : Type 0} (state : D → State) (old new : StoreView D R) where
  -- No snapshot was taken: the half that was in use has these records more.
  pub record IsHalfExtended (taken : List LogRecord) : Type 0 where
    pub half : new.half ≡ old.half
    pub version : new.version ≡ old.version
    pub generation : new.generation ≡ old.generation
    pub record_count : new.record_count ≡ old.record_count + length taken
    pub size : new.size ≡ old.size + batch_size old.version taken
    pub first_size : new.first_size ≡ old.first_size
    -- each record had room
    pub fits : new.size ≤ max old.size old.limit
    pub described : (k : Contents) → IsHonest (state old.disk) → Describes old k (state old.disk).reads
        → Describes new (with_records k taken) (state new.disk).reads
    -- the half that is not in use is left alone
    pub other : IsHonest (state old.disk) → LeavesAlone (opposite_of old.half) (state old.disk) (state new.disk)
    -- forms that leave no record leave all as it was, the disk too
    pub untouched : taken ≡ [] → new ≡ old

  -- Snapshots were taken, the last of them after the earlier of these records: the half in use is the text of the world that
  -- they left, and the later records.
  pub record IsHalfRenewed (functions : Functions) (world : WorldState) (taken : List LogRecord) : Type 0 where
    pub snapshots : ℕ
    pub some : 1 ≤ snapshots
    pub earlier : List LogRecord
    pub later : List LogRecord
    pub parts : taken ≡ earlier ++ later
    pub first : WorldState
    pub first_is : after functions world earlier ≡ Some first
    pub half : new.half ≡ half_after snapshots old.half
    pub version : new.version ≡ next_version (state old.disk).mixes old.version
    pub generation : new.generation ≡ old.generation + snapshots
    pub record_count : new.record_count ≡ length later
    pub size : new.size ≡ half_base new.version (length (snapshot first)) + batch_size new.version later
    pub first_size : new.first_size ≡ half_base new.version (length (snapshot first))
    -- the text and each record had room
    pub fits : new.size ≤ old.limit
    pub described : (k : Contents) → IsHonest (state old.disk) → Describes old k (state old.disk).reads
        → Describes new (contents_after (state old.disk).mixes k snapshots first later) (state new.disk).reads

module _ (functions : Functions) {D R : Type 0} (state : D → State) (old new : StoreView D R) (world : WorldState) where
  -- The device has not failed: the world and the log are those after these forms, on an honest disk in the files too.
  pub record IsAfter (far : Progress) : Type 0 where
    pub left : new.world ≡ Some far.world
    -- the records make this world
    pub records : after functions world far.taken ≡ Some far.world
    pub limit : new.limit ≡ old.limit
    pub macros : new.macros ≡ old.macros
    pub failures : (state new.disk).failures ≡ (state old.disk).failures
    pub mixes : (state new.disk).mixes ≡ (state old.disk).mixes
    pub log : IsHalfExtended state old new far.taken ⊎ IsHalfRenewed state old new functions world far.taken

-- the half would pass its limit by the record of the form that this text begins with
abbrev pub IsOver : Functions → {D R : Type 0} → (D → State) → StoreView D R → WorldState → Mode → List ℕ → Type 0
IsOver functions state store world mode text = IsOverIn functions store.limit (fill_of state store) world mode text

module _ (functions : Functions) {D R : Type 0} (state : D → State) (old new : StoreView D R) where
  module _ (world : WorldState) (mode : Mode) (text : List ℕ) (held written : Option (List ℕ)) where
    -- the first forms of the text were taken and answered, each line whole
    pub record Advances (forms : ℕ) (far : Progress) : Type 0 where
      pub far_is : after_forms functions forms world mode text ≡ Some far
      pub lines : Writes held written far.lines
      pub after : IsAfter functions state old new world far
      pub survives : SurvivesAs functions state old new world far.taken (length far.taken)

    -- ---- how a session ends: the forms that were taken, those whose lines were written whole, and the part of the next line

    module _ (forms : ℕ) (far : Progress) (lines : ℕ) (answered : Progress) (part : List ℕ) where
      -- nothing but discarded text is left
      pub record EndsAtEndOfInput : Type 0 where
        pub all : lines ≡ forms
        pub no_part : part ≡ []
        pub nothing_left : read_in functions far.world mode far.rest ≡ empty
        pub after : IsAfter functions state old new world far

      -- the reader refused what is left, and that was answered
      pub record EndsAtReaderRefusal (number : ℕ) : Type 0 where
        pub all : lines ≡ forms
        pub at : ℕ
        pub reads : read_in functions far.world mode far.rest ≡ refused number at
        pub line : part ≡ refusal_line number
        pub after : IsAfter functions state old new world far

      -- The device failed as the last forms were logged, which had room for their records; they were not answered, and nothing is
      -- known of the world. It is one form, if the session has no groups.
      pub record EndsAtFailedRecord (group : Bool) (number : ℕ) : Type 0 where
        pub device : number ≡ DEVICE
        pub some_open : lines < forms
        pub no_part : part ≡ []
        -- the store as the first of them was taken
        pub mid : StoreView D R
        pub before : IsAfter functions state old mid world answered
        pub entries : List LogRecord
        pub some : 0 < length entries
        pub one_open : group ≡ false → (forms ≡ lines + 1) × (length entries ≡ 1)
        pub were_accepted : far.taken ≡ answered.taken ++ entries
        pub fits : mid.size + batch_size mid.version entries ≤ mid.limit
        pub failed : DeviceFails state mid new (opposite_of mid.half)
        -- a crash at any moment since leaves all of them, or none
        pub all_or_none : AllOrNone functions state mid new answered.world entries

      -- The device failed in a snapshot, for which there was a half; all forms were answered, and nothing is known of the world.
      pub record EndsAtFailedSnapshot (number : ℕ) : Type 0 where
        pub device : number ≡ DEVICE
        pub all : lines ≡ forms
        pub no_part : part ≡ []
        -- the store as the snapshot was begun
        pub mid : StoreView D R
        pub before : IsAfter functions state old mid world far
        pub fits : IsTooLarge (state mid.disk).mixes mid far.world → ⊥
        pub failed : DeviceFails state mid new mid.half

      -- The next form is accepted in that world, and has no room; nor has it in a half that holds nothing but the text of it,
      -- as this one does: a snapshot was taken, and no form logged since.
      pub record EndsAtFullLog (number : ℕ) : Type 0 where
        pub full : number ≡ LOG_FULL
        pub all : lines ≡ forms
        pub no_part : part ≡ []
        pub next : IsOver functions state new far.world mode far.rest
        pub renewed : IsHalfRenewed state old new functions world far.taken
        pub none_since : renewed.later ≡ []
        pub only_text : new.size ≡ half_base new.version (length (snapshot far.world))
        pub after : IsAfter functions state old new world far

      -- the next form is accepted in that world, and has no room, and there is no half for a snapshot of it
      pub record EndsAtTooLargeWorld (number : ℕ) : Type 0 where
        pub large : number ≡ SNAPSHOT_TOO_LARGE
        pub all : lines ≡ forms
        pub no_part : part ≡ []
        pub next : IsOver functions state new far.world mode far.rest
        pub why : IsTooLarge (state new.disk).mixes new far.world
        pub after : IsAfter functions state old new world far

      -- a read failed
      pub record EndsAtFailedRead (number : ℕ) : Type 0 where
        pub input : number ≡ INPUT
        pub all : lines ≡ forms
        pub no_part : part ≡ []
        -- more was needed: no form of what was read is left unanswered
        pub more : MayGoOn far.rest (read_in functions far.world mode far.rest)
        pub after : IsAfter functions state old new world far

      -- A write failed, or took nothing: the lines so far are the first part of what was to be written. The line that was begun is
      -- that of the next form, if one was not answered, and else that of a refusal of the reader.
      pub record EndsAtFailedWrite (number : ℕ) : Type 0 where
        pub output : number ≡ OUTPUT
        pub unwritten : List ℕ
        pub some_left : unwritten ≢ []
        pub front : far.lines ++ last_line (read_in functions far.world mode far.rest) ≡ answered.lines ++ part ++ unwritten
        pub in_form : lines < forms → (next : Progress) × (after_forms functions (lines + 1) world mode text ≡ Some next)
            × ((rest : List ℕ) × (rest ≢ []) × (next.lines ≡ answered.lines ++ part ++ rest))
        pub after : IsAfter functions state old new world far

      -- a growth was refused: no form is in that was not answered
      pub record EndsOutOfMemory (number : ℕ) : Type 0 where
        pub memory : number ≡ NO_MEMORY
        pub all : lines ≡ forms
        pub no_part : part ≡ []
        pub after : IsAfter functions state old new world far

      -- by the way in which the session ended; a fault by its number has one of seven causes
      abbrev pub Ends : Bool → Ending → Type 0
      Ends group End = EndsAtEndOfInput
      Ends group (Reader number) = EndsAtReaderRefusal number
      Ends group (Store number) =
          EndsAtFailedRecord group number ⊎ (EndsAtFailedSnapshot number ⊎ (EndsAtFullLog number ⊎ (EndsAtTooLargeWorld number
          ⊎ (EndsAtFailedRead number ⊎ (EndsAtFailedWrite number ⊎ EndsOutOfMemory number)))))

    -- A session over this text: its first forms were taken, each read in the world that the ones before it left, in this mode,
    -- and logged by its own text if it was accepted. If the session has no groups, each was answered before the next was taken.
    pub record Serves (group : Bool) (ending : Ending) : Type 0 where
      pub forms : ℕ
      pub far : Progress
      pub far_is : after_forms functions forms world mode text ≡ Some far
      -- of these so many were answered whole
      pub lines : ℕ
      pub answered : Progress
      pub answered_is : after_forms functions lines world mode text ≡ Some answered
      pub at_most : lines ≤ forms
      pub in_turn : group ≡ false → forms ≤ lines + 1
      -- and a part of the next line was written
      pub part : List ℕ
      pub output : Writes held written (answered.lines ++ part)
      pub survives : SurvivesAs functions state old new world far.taken (length answered.taken)
      pub ends : Ends forms far lines answered part group ending

-- These first forms of a text come first in each text that goes on from it too, and come to this there.
abbrev pub StaysAnswered : Functions → WorldState → Mode → (text : List ℕ) (forms : ℕ) (far : Progress) → Type 0
StaysAnswered functions world mode text forms far =
    (more : List ℕ) → after_forms functions forms world mode (text ++ more) ≡ Some (record far { rest = far.rest ++ more })

-- After these forms the reader refuses what is left of the text with this number, and with more after it too, at the same place; and the
-- forms are the same then.
abbrev pub StaysRefused : Functions → WorldState → Mode → (text : List ℕ) (forms : ℕ) (far : Progress) (number : ℕ) → Type 0
StaysRefused functions world mode text forms far number = (at : ℕ) × ((more : List ℕ)
    → (after_forms functions forms world mode (text ++ more) ≡ Some (record far { rest = far.rest ++ more }))
    × (read_in functions far.world mode (far.rest ++ more) ≡ refused number at))

-- The forms of a session that is cut short are the same whatever follows what was read; or the input was at its end, which no read that
-- failed tells. So no part of a token is taken for a form.
abbrev pub StaysOrEnds : Functions → WorldState → Mode → (text : List ℕ) (forms : ℕ) (far : Progress) (number : ℕ) (left : List ℕ) → Type 0
StaysOrEnds functions world mode text forms far number left =
    StaysAnswered functions world mode text forms far ⊎ ((left ≡ []) × (number ≢ INPUT))

-- How much a session has read when it ends: at the end of the input all of it; at a refusal of the reader, also if the output
-- failed in the line of it, all of it, or so much that what follows makes no difference; else what the reader has left is what
-- was not read, and the forms are decided.
abbrev pub HasRead : (functions : Functions) {D R : Type 0} {group : Bool} (state : D → State) (old new : StoreView D R) (world : WorldState) (mode : Mode) (text : List ℕ)
    (held written : Option (List ℕ)) (ending : Ending) → Serves functions state old new world mode text held written group ending → List ℕ → Option (List ℕ) → Type 0
HasRead functions state old new world mode text held written End served left reader = (left ≡ []) × (reader ≡ Some left)
HasRead functions state old new world mode text held written (Reader number) served left reader =
    ((left ≡ []) ⊎ StaysRefused functions world mode text served.forms served.far number) × (reader ≡ Some left)
HasRead functions state old new world mode text held written (Store number) served left reader =
    (number ≡ OUTPUT → served.lines ≡ served.forms → (left ≡ []) ⊎ ((refusal : ℕ) × StaysRefused functions world mode text served.forms served.far refusal))
    × (reader ≡ Some left)
    × StaysOrEnds functions world mode text served.forms served.far number left

-- how far the snapshots had come as a session ended that began at this pace
abbrev pub ServesInPace : (functions : Functions) {D R : Type 0} {group : Bool} (state : D → State) (pace : Pace) (old new : StoreView D R) (world : WorldState) (mode : Mode) (text : List ℕ)
    (held written : Option (List ℕ)) (ending : Ending) → Serves functions state old new world mode text held written group ending → Type 0
ServesInPace functions state pace old new world mode text held written ending served =
    EndsInPace functions old.limit world pace (fill_of state old) mode served.forms served.far served.lines served.answered (fill_of state new) ending

-- A session over what a reader gives, with snapshots at this pace, with groups or without: what the reader had is what was read and what
-- is left.
pub record ServesInput (functions : Functions) {D R : Type 0} (state : D → State) (group : Bool) (pace : Pace) (old new : StoreView D R) (world : WorldState) (mode : Mode) (had has held written : Option (List ℕ)) (ending : Ending) : Type 0 where
  pub text : List ℕ
  pub serves : Serves functions state old new world mode text held written group ending
  pub paced : ServesInPace functions state pace old new world mode text held written ending serves
  pub reads : (all : List ℕ) → had ≡ Some all
      → (left : List ℕ) × (all ≡ text ++ left) × HasRead functions state old new world mode text held written ending serves left has

-- ---- a session with places, which may be strict

-- The text begins with a form, with this byte of it, and its evaluation is refused with this number.
pub record IsFormUnaccepted (functions : Functions) (world : WorldState) (mode : Mode) (text : List ℕ) (number start : ℕ) : Type 0 where
  pub object : Object
  pub stop : ℕ
  pub next : ℕ
  pub reads : read_in functions world mode text ≡ form object start stop next
  pub refused : transaction_value functions.names world object ≡ Err number

-- In a text of which so many forms were answered and this is left, before which came so many other forms and bytes: the place
-- that is at these offsets in what is left.
pub record IsPlace (forms_before bytes_before forms : ℕ) (text left : List ℕ) (at : ℕ) (place : Place) : Type 0 where
  pub forms_are : place.forms ≡ forms + forms_before
  pub at_is : place.at + length left ≡ bytes_before + length text + at
  -- it begins in what is left
  pub begins : bytes_before + length text ≤ place.start + length left
  pub ends : place.start ≤ bytes_before + length text

-- What the reader refuses of these bytes, with this number at an offset, begins at another: what is before it is discarded text alone,
-- from there on they are refused alone, at the same byte, and the first byte there is no whitespace.
pub record IsRefusedFrom (functions : Functions) (world : WorldState) (mode : Mode) (left : List ℕ) (number at from : ℕ) : Type 0 where
  pub discarded : read_in functions world mode (take from left) ≡ empty
  pub order : from ≤ at
  pub alone : read_in functions world mode (drop from left) ≡ refused number (at - from)
  pub first : ℕ
  pub others : List ℕ
  pub parts : drop from left ≡ first ∷ others
  pub no_whitespace : is_whitespace (table_in world mode) first ≡ false

-- where that begins in these bytes: every text before it came to nothing, attempt by attempt
abbrev pub refused_from : Functions → WorldState → Mode → List ℕ → ℕ
refused_from functions world mode left = decided_from (setting_in functions world mode) left

module _ (functions : Functions) {D R : Type 0} (state : D → State) (old new : StoreView D R) (world : WorldState) (mode : Mode) (text : List ℕ) (held written : Option (List ℕ)) (pace : Pace) where
  -- The session ended as a form was refused: it was answered, and those before it were accepted.
  pub record StopsStrict (forms_before bytes_before number : ℕ) (place : Place) : Type 0 where
    pub forms : ℕ
    pub far : Progress
    pub advances : Advances functions state old new world mode text held written forms far
    pub later : Pace
    pub paced : PacesForms functions old.limit world far.taken pace later (fill_of state old) (fill_of state new)
    pub accepted : ℕ
    pub one_more : forms ≡ accepted + 1
    pub before : Progress
    pub before_is : after_forms functions accepted world mode text ≡ Some before
    pub none_refused : before.refused ≡ []
    pub start : ℕ
    pub refuses : IsFormUnaccepted functions before.world mode before.rest number start
    pub is_place : IsPlace forms_before bytes_before accepted text before.rest start place
    pub begins : place.start ≡ place.at

  -- the forms are the same in each text that goes on
  abbrev pub StaysStopped : (forms_before bytes_before number : ℕ) (place : Place) → StopsStrict forms_before bytes_before number place → Type 0
  StaysStopped forms_before bytes_before number place stops =
      StaysAnswered functions world mode text stops.forms stops.far × StaysAnswered functions world mode text stops.accepted stops.before

  -- The reader refused what was left, at this place, and what it refused begins just where the place says.
  abbrev pub RefusesAt : {group : Bool} (forms_before bytes_before number : ℕ) → Serves functions state old new world mode text held written group (Reader number) → Place → Type 0
  RefusesAt forms_before bytes_before number served place =
      (at : ℕ) × (read_in functions served.far.world mode served.far.rest ≡ refused number at) × IsPlace forms_before bytes_before served.forms text served.far.rest at place
      × (place.start + length served.far.rest ≡ bytes_before + length text + refused_from functions served.far.world mode served.far.rest)
      × IsRefusedFrom functions served.far.world mode served.far.rest number at (refused_from functions served.far.world mode served.far.rest)

-- All that was answered was accepted; and if more than one form is open, all that was taken.
abbrev pub AreFormsAccepted : (forms lines : ℕ) (far answered : Progress) → Type 0
AreFormsAccepted forms lines far answered = (answered.refused ≡ []) × (lines + 1 < forms → far.refused ≡ [])

-- the pace at which a session begins that is wanted so
abbrev pub pace_wanted : SessionOptions → Pace
pace_wanted wanted = first_pace wanted.snapshot_every wanted.snapshot_ratio

-- A session over what a reader gives, as it is wanted: as `ServesInput`, with the place of a refusal of the reader counted in the input;
-- and if it is strict all forms whose lines were written whole were accepted, but the one at which it ended.
abbrev pub ServesWanted : (functions : Functions) {D R : Type 0} (state : D → State) (wanted : SessionOptions) (old new : StoreView D R) (world : WorldState) (had has held written : Option (List ℕ)) → Ended → Type 0
ServesWanted functions state wanted old new world had has held written ways.End =
    (served : ServesInput functions state wanted.group (pace_wanted wanted) old new world wanted.mode had has held written End)
    × (wanted.strict ≡ true → AreFormsAccepted served.serves.forms served.serves.lines served.serves.far served.serves.answered)
ServesWanted functions state wanted old new world had has held written (ways.Unreadable number place) =
    (served : ServesInput functions state wanted.group (pace_wanted wanted) old new world wanted.mode had has held written (Reader number))
    × (wanted.strict ≡ true → AreFormsAccepted served.serves.forms served.serves.lines served.serves.far served.serves.answered)
    × RefusesAt functions state old new world wanted.mode served.text held written (pace_wanted wanted) 0 0 number served.serves place
ServesWanted functions state wanted old new world had has held written (ways.Unaccepted number place) =
    (wanted.strict ≡ true) × (text : List ℕ)
    × (stops : StopsStrict functions state old new world wanted.mode text held written (pace_wanted wanted) 0 0 number place)
    × ((all : List ℕ) → had ≡ Some all → (left : List ℕ) × (all ≡ text ++ left) × (has ≡ Some left))
    -- the input is at its end, or what follows makes no difference
    × ((all : List ℕ) → had ≡ Some all → (all ≡ text) ⊎ StaysStopped functions state old new world wanted.mode text held written (pace_wanted wanted) 0 0 number place stops)
ServesWanted functions state wanted old new world had has held written (ways.Store number) =
    (served : ServesInput functions state wanted.group (pace_wanted wanted) old new world wanted.mode had has held written (Store number))
    × (wanted.strict ≡ true → AreFormsAccepted served.serves.forms served.serves.lines served.serves.far served.serves.answered)

-- ---- after a session

-- How it ended, where zeros were cut behind the half in use: with the number of what failed there, else as it ended. A store that met a
-- device fault before cuts nothing.
abbrev pub ended_after_cut : Result Unit ℕ → Ended → Ended
ended_after_cut (Ok done) ended = ended
ended_after_cut (Err number) ended = if number == REOPEN then ended else ways.Store number
