-- What the program does for the words that it was started with.
use Rattle.std.specs.Prelude.{◌≡◌, ◌==◌, ◌||◌, ◌⊎◌, ℕ, Bool, true, false, List, [], ◌++◌, Option, Some, Result, Ok, Err}
use Rattle.disk_trait.specs.Disk.{State}
use Rattle.disk_trait.specs.declared.half.Half.{Half}
use Rattle.disk_trait.specs.declared.host.HostError.{HostError}
use Rattle.lisp_object.specs.declared.refusal.TheConstants.{DEVICE, DAMAGED, MISSING_MACRO, VERSION, INPUT, NO_MEMORY}
use Rattle.clap.specs.Words.{Text}
use Rattle.plist_state.specs.State.{WorldState}
use Rattle.world_text.specs.Snapshot.{snapshot}
use Rattle.world_forms.specs.Forms.{forms}
use Rattle.user_macros.specs.Functions.{Functions}
use Rattle.prevalence_store.specs.calls.Open.{IsUnopened}
use Rattle.sessions.specs.declared.ending.Ended.{Ended}
use Rattle.session_words.specs.declared.wanted.SessionOptions.{SessionOptions}
use Rattle.store_commands.specs.Report.{DumpsWorld, IsExport, IsReport, IsSnapshot, IsUpgrade, TellsHalf, TellsHalfAndPosition, TellsVersion, WritesForms, half_line, position_line, version_line}
use Rattle.store_commands.specs.Session.{AnswersInput, IsBrokenOff, IsSession, IsStatusAfter, ReadsToEnd, half_limit}
use Rattle.store_commands.specs.SessionsInRow.{AreSessions}
use Rattle.store_commands.specs.Status.{HasFaultNumber, IsCarriedOut, TakesWords, status_of_ended, status_of_host}
use Rattle.diagnostics.specs.StreamTexts.{IsFrontWritten}
use Rattle.store_commands.specs.EndLines.{IsToldOf, left_out_of}
use Rattle.store_commands.specs.declared.status.Status.{Status}
use Rattle.store_commands.specs.declared.status.Status.TheVariants.{Fault, WordsRefused}
use Rattle.store_commands.specs.declared.told.Remark.{Remark}
use Rattle.store_commands.specs.declared.told.Remark.TheVariants.{Cause}
use Rattle.command_words.specs.declared.words.Report.TheVariants.{Dump, Verify}
use Rattle.command_words.specs.declared.words.Task.{Task}
use Rattle.command_words.specs.declared.words.Task.TheVariants.{Export, Run, Snapshot, Tell, Upgrade}

-- nothing was read, and nothing written
abbrev pub AreStreamsUntouched : {I O : Type 0} → I → I → O → O → Type 0
AreStreamsUntouched input left held written = (left ≡ input) × (written ≡ held)

-- before the store is opened: there is no memory for the words, no seed is had, or the folder is not opened
abbrev pub IsEarlyFault : Status → Type 0
IsEarlyFault status = (status ≡ Fault NO_MEMORY) ⊎ ((status ≡ Fault INPUT) ⊎ (status ≡ Fault DEVICE))

-- numbers that nothing but the opening of a store answers
abbrev pub is_opening_fault : ℕ → Bool
is_opening_fault number = number == DAMAGED || (number == MISSING_MACRO || number == VERSION)

-- `run` alone reads
abbrev pub reads_input : Task → Bool
reads_input (Run wanted) = true
reads_input Snapshot = false
reads_input Upgrade = false
reads_input (Export content) = false
reads_input (Tell report) = false

-- `run` that ends well reads to the end; the other commands read nothing
abbrev pub TaskReads : Task → Status → List ℕ → Option (List ℕ) → Type 0
TaskReads (Run wanted) status input left = ReadsToEnd status left
TaskReads Snapshot status input left = left ≡ Some input
TaskReads Upgrade status input left = left ≡ Some input
TaskReads (Export content) status input left = left ≡ Some input
TaskReads (Tell report) status input left = left ≡ Some input

-- ---- over the files of a folder, of which no clause can say what they hold

module _ (functions : Functions) where
  -- what a command writes if it ends well, and what of a refusal is told
  abbrev pub TaskWrites : Task → Status → Remark → List ℕ → List ℕ → Option (List ℕ) → Type 0
  TaskWrites (Run wanted) status told input held written = AnswersInput functions wanted status told input held written
  TaskWrites Snapshot status told input held written = TellsHalf status held written
  TaskWrites Upgrade status told input held written = TellsVersion status held written
  TaskWrites (Export content) status told input held written = WritesForms content status (left_out_of told) held written
  TaskWrites (Tell Dump) status told input held written = DumpsWorld status held written
  TaskWrites (Tell Verify) status told input held written = TellsHalfAndPosition status held written

  -- what a command wrote that met a fault is the first part of what it would have written, over the store of some world
  abbrev pub TaskBreaksOff : Task → List ℕ → List ℕ → Option (List ℕ) → Type 0
  TaskBreaksOff (Run wanted) input held written = IsBrokenOff functions wanted.mode input held written
  TaskBreaksOff Snapshot input held written = (half : Half) × (generation : ℕ) × (records : ℕ) × IsFrontWritten held written (half_line half generation records)
  TaskBreaksOff Upgrade input held written = (version : ℕ) × IsFrontWritten held written (version_line version)
  TaskBreaksOff (Export content) input held written = (world : WorldState) × IsFrontWritten held written (forms world content)
  TaskBreaksOff (Tell Dump) input held written = (world : WorldState) × IsFrontWritten held written (snapshot world)
  TaskBreaksOff (Tell Verify) input held written =
      (half : Half) × (generation : ℕ) × (records : ℕ) × (found : Option ℕ) × IsFrontWritten held written (half_line half generation records ++ position_line found)

-- The store that a disk holds was not opened, all macro functions registered or not, and the status tells why; the disk is left as
-- the opening left it.
abbrev pub IsStatusOfUnopenedStore : Functions → {D : Type 0} → (D → State) → (disk back : D) → Bool → Status → Type 0
IsStatusOfUnopenedStore functions state disk back whole status =
    (number : ℕ) × (status ≡ Fault number) × IsUnopened functions state disk whole half_limit number back

-- What a task does with these macro functions, the input and the output. What a reader has left, and what a writer holds, is told
-- by two functions.
module _ (functions : Functions) {D R : Type 0} (state : D → State) (macros : R) (whole : Bool)
    {I O : Type 0} (remaining : I → Option (List ℕ)) (contents : O → Option (List ℕ)) (input left : I) (held written : O) where
  -- It was carried out over the store that a disk holds: a session went so, and the status is that of its end; or a snapshot was
  -- taken, the store was upgraded or exported, or something was told of it. The disk is left as the store that was closed left it.
  abbrev pub IsCarriedOutOn : D → D → Task → Status → Remark → Type 0
  IsCarriedOutOn disk back (Run wanted) status told =
      (ended : Ended) × IsStatusAfter functions wanted ended status × IsToldOf ended told
      × IsSession functions wanted state disk macros (remaining input) (remaining left) (contents held) (contents written) ended back
  IsCarriedOutOn disk back Snapshot status told =
      IsSnapshot functions state disk macros (contents held) (contents written) status back × (left ≡ input)
  IsCarriedOutOn disk back Upgrade status told =
      IsUpgrade functions state disk macros (contents held) (contents written) status back × (left ≡ input)
  IsCarriedOutOn disk back (Export content) status told =
      IsExport functions state content disk macros (contents held) (contents written) status back (left_out_of told) × (left ≡ input)
  IsCarriedOutOn disk back (Tell report) status told =
      IsReport functions state report disk macros (contents held) (contents written) status back × (left ≡ input)

  -- It is carried out over the store that a disk holds; or the store is not opened, and nothing is read or written. The first disk
  -- becomes the second.
  abbrev pub DoesOn : D → D → Task → Status → Remark → Type 0
  DoesOn disk back task status told =
      IsCarriedOutOn disk back task status told ⊎ (IsStatusOfUnopenedStore functions state disk back whole status × AreStreamsUntouched input left held written)

module _ (functions : Functions) {I O : Type 0} (remaining : I → Option (List ℕ)) (contents : O → Option (List ℕ)) (input left : I) (held written : O) where
  -- A task, for the store in a folder, was done, whatever that holds: this is the status, and this is to be told.
  pub record Performs (folder : Text) (task : Task) (status : Status) (told : Remark) : Type 0 where
    -- neither is help written nor are the words refused
    pub taken : TakesWords status
    -- no folder has an empty name
    pub nameless : folder ≡ [] → IsEarlyFault status × AreStreamsUntouched input left held written
    pub unread : reads_input task ≡ false → left ≡ input
    pub unopened : (number : ℕ) → status ≡ Fault number → is_opening_fault number ≡ true → AreStreamsUntouched input left held written
    pub fault : HasFaultNumber status
    pub reads : (text : List ℕ) → remaining input ≡ Some text → TaskReads task status text (remaining left)
    pub writes : (text had : List ℕ) → remaining input ≡ Some text → contents held ≡ Some had
        → TaskWrites functions task status told text had (contents written)
    -- after a fault
    pub breaks_off : (text had : List ℕ) (number : ℕ) → remaining input ≡ Some text → contents held ≡ Some had → status ≡ Fault number
        → TaskBreaksOff functions task text had (contents written)

-- ---- the opening of the folder

-- before the folder is looked at: there is no memory for the words, no seed is had, or no name
abbrev pub IsBeforeFolder : Text → Status → Type 0
IsBeforeFolder folder status = (status ≡ Fault NO_MEMORY) ⊎ ((status ≡ Fault INPUT) ⊎ ((folder ≡ []) × (status ≡ Fault DEVICE)))

module _ {D I O : Type 0} (input left : I) (held written : O) where
  -- An opening of the folder gave this, with or without `--existing`. If no store is opened there, nothing is read or written, and a cause is
  -- told.
  abbrev pub OpensFolder : (opens : Text → Bool → Result D HostError → Type 0) (follows : D → Type 0) → Text → Bool → Status → Remark → Type 0
  OpensFolder opens follows folder existing status told =
      (IsBeforeFolder folder status × AreStreamsUntouched input left held written)
      ⊎ (((error : HostError) × opens folder existing (Err error) × (status ≡ status_of_host error) × (told ≡ Cause error) × AreStreamsUntouched input left held written)
      ⊎ ((disk : D) × opens folder existing (Ok disk) × follows disk))

module _ (functions : Functions) {D R : Type 0} (state : D → State) (macros : R) (whole : Bool)
    {I O : Type 0} (remaining : I → Option (List ℕ)) (contents : O → Option (List ℕ)) (input left : I) (held written : O) where
  -- the task is done over the disk that the opening gave
  abbrev pub DoesAfter : Task → Status → Remark → D → Type 0
  DoesAfter task status told disk = (back : D) × DoesOn functions state macros whole remaining contents input left held written disk back task status told

-- ---- at a terminal

module _ (functions : Functions) {D R : Type 0} (state : D → State) (macros : R) (whole : Bool)
    {I O : Type 0} (remaining : I → Option (List ℕ)) (contents : O → Option (List ℕ)) (input left : I) (held written : O) where
  -- Sessions in a row went so over the store that a disk holds, and the status is that of the last one; or the store is not opened,
  -- and nothing is read or written. The first disk becomes the second.
  abbrev pub SitsOn : D → D → SessionOptions → Status → Remark → Type 0
  SitsOn disk back wanted status told =
      ((ended : Ended) × (status ≡ status_of_ended ended) × IsToldOf ended told
      × AreSessions functions wanted state disk macros (remaining input) (remaining left) (contents held) (contents written) ended back)
      ⊎ (IsStatusOfUnopenedStore functions state disk back whole status × AreStreamsUntouched input left held written)

  -- sessions in a row went so over the disk that the opening gave; each other task is as anywhere
  abbrev pub SitsAfter : Task → Status → Remark → D → Type 0
  SitsAfter (Run wanted) status told disk = (back : D) × SitsOn disk back wanted status told
  SitsAfter Snapshot status told disk = DoesAfter functions state macros whole remaining contents input left held written Snapshot status told disk
  SitsAfter Upgrade status told disk = DoesAfter functions state macros whole remaining contents input left held written Upgrade status told disk
  SitsAfter (Export content) status told disk = DoesAfter functions state macros whole remaining contents input left held written (Export content) status told disk
  SitsAfter (Tell report) status told disk = DoesAfter functions state macros whole remaining contents input left held written (Tell report) status told disk

module _ (functions : Functions) {I O : Type 0} (remaining : I → Option (List ℕ)) (contents : O → Option (List ℕ)) (input left : I) (held written : O) where
  -- `run` was sessions in a row, for the store in a folder: this is the status, and this is to be told.
  pub record PerformsInTurn (folder : Text) (wanted : SessionOptions) (status : Status) (told : Remark) : Type 0 where
    pub taken : TakesWords status
    pub nameless : folder ≡ [] → IsEarlyFault status × AreStreamsUntouched input left held written
    pub unopened : (number : ℕ) → status ≡ Fault number → is_opening_fault number ≡ true → AreStreamsUntouched input left held written
    pub fault : HasFaultNumber status
    -- after a fault: what the last session wrote, over the store of some world, after those before it
    pub breaks_off : (text had : List ℕ) (number : ℕ) → remaining input ≡ Some text → contents held ≡ Some had → status ≡ Fault number
        → (rest : List ℕ) × (said : List ℕ) × IsBrokenOff functions wanted.mode rest (had ++ said) (contents written)

  -- `run` is sessions in a row there; each other task is as anywhere
  abbrev pub PerformsAtTerminal : Text → Task → Status → Remark → Type 0
  PerformsAtTerminal folder (Run wanted) status told = PerformsInTurn folder wanted status told
  PerformsAtTerminal folder Snapshot status told = Performs functions remaining contents input left held written folder Snapshot status told
  PerformsAtTerminal folder Upgrade status told = Performs functions remaining contents input left held written folder Upgrade status told
  PerformsAtTerminal folder (Export content) status told = Performs functions remaining contents input left held written folder (Export content) status told
  PerformsAtTerminal folder (Tell report) status told = Performs functions remaining contents input left held written folder (Tell report) status told

-- The words have a mistake, or ask for help: no task is done, and nothing is read. Where they are refused, or memory ran out, nothing
-- goes to the output.
pub record PerformsNone {I O : Type 0} (input left : I) (held written : O) (status : Status) : Type 0 where
  pub unread : left ≡ input
  pub not_carried_out : IsCarriedOut status → ⊥
  pub no_opening : (number : ℕ) → status ≡ Fault number → is_opening_fault number ≡ true → ⊥
  pub refused : status ≡ WordsRefused → written ≡ held
  pub memory : status ≡ Fault NO_MEMORY → written ≡ held
