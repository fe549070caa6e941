-- What each look tells of what was seen.
use Rattle.std.specs.Prelude.{◌≡◌, ◌≢◌, ◌⊎◌, ℕ, Bool, false, true, List, [], Option, Result, Ok, Err, MatchResult, if◌then◌else◌}
use Rattle.clap.specs.Words.{Text}
use Rattle.command_words.specs.LookLine.{AsksToLook, text_of}
use Rattle.command_words.specs.declared.looks.InfoPart.{InfoPart}
use Rattle.command_words.specs.declared.looks.Look.{Look}
use Rattle.command_words.specs.declared.looks.Look.TheVariants.{Backup, Dump, Info, Log, Show, Verify}
use Rattle.command_words.specs.declared.looks.RecordPlace.{RecordPlace}
use Rattle.command_words.specs.declared.looks.Records.{Records}
use Rattle.command_words.specs.declared.looks.Shown.{Shown}
use Rattle.command_words.specs.declared.words.Report.TheVariants as reports
use Rattle.disk_trait.specs.Disk.{State}
use Rattle.disk_trait.specs.declared.host.HostError.{HostError}
use Rattle.disk_trait.specs.declared.host.HostError.TheVariants.{NoName}
use Rattle.disk_trait.specs.declared.host.IfMissing.{IfMissing}
use Rattle.lisp_object.specs.declared.refusal.TheConstants.{INPUT, NO_MEMORY}
use Rattle.log_look.specs.FirstRecords.{IsCut, IsNoPlace, LookIsUnopened as IsNoLog}
use Rattle.log_look.specs.SeenState.{state_of_sight}
use Rattle.log_look.specs.declared.error.LogError.{LogError}
use Rattle.log_look.specs.declared.host.Figures.{Figures}
use Rattle.log_look.specs.declared.sight.Sight.{Sight}
use Rattle.messages.specs.Position.{position}
use Rattle.plist_state.specs.State.{WorldState}
use Rattle.prevalence_store.specs.calls.Open.{IsOpened, IsUnopened}
use Rattle.prevalence_store.specs.calls.Store.{StoreView}
use Rattle.store_commands.specs.Folders.{OpensStore}
use Rattle.store_commands.specs.Report.{IsReport}
use Rattle.store_commands.specs.Session.{half_limit}
use Rattle.store_commands.specs.StatusAfterText.{TellsText}
use Rattle.store_commands.specs.Status.{IsOfWords}
use Rattle.store_commands.specs.declared.status.Status.{Status}
use Rattle.store_commands.specs.declared.status.Status.TheVariants as statuses
use Rattle.store_looks.specs.FailedLooks.{IsOfBackup, of_log, of_show, status_of}
use Rattle.store_looks.specs.declared.unlooked.Unlooked.{Unlooked}
use Rattle.store_looks.specs.declared.unlooked.Unlooked.TheVariants as unlooked
use Rattle.store_reports.specs.Backup.{IsBackupMade, HasNoBackup}
use Rattle.store_reports.specs.Figures.{AreFiguresOf, file_info_text, info_text, verified_text}
use Rattle.store_reports.specs.Log.{IsLogText, least_records}
use Rattle.store_reports.specs.NewStorePlaces.{Deed}
use Rattle.store_reports.specs.PropertyCounts.{IsCountText, IsNoCount}
use Rattle.store_reports.specs.ShownProperties.{ArePropertiesShown, ArePropertiesUnshown}
use Rattle.store_reports.specs.declared.backups.BackupError.{BackupError}
use Rattle.store_reports.specs.declared.figures.HalfFigures.{HalfFigures}
use Rattle.store_reports.specs.declared.log.LogPart.{LogPart}
use Rattle.store_reports.specs.declared.numbers.Notation.{Notation}
use Rattle.store_reports.specs.declared.numbers.Notation.TheVariants as notations
use Rattle.store_reports.specs.declared.selection.Layout.TheVariants.{Forms, Json, Lines}
use Rattle.store_reports.specs.declared.selection.Selection.{Selection}
use Rattle.store_reports.specs.declared.showing.ShowError.{ShowError}
use Rattle.user_macros.specs.Functions.{Functions}

-- ---- the folder

-- The files of a folder are opened so, of which one is a half in use; no folder has an empty name.
unfoldable pub SeesFolder : (Sight → Option HostError → Type 0) → (Text → IfMissing → Result Sight HostError → Type 0) → Text → Result Sight HostError → Type 0
SeesFolder tells opens folder result = ((folder ≡ []) × (result ≡ Err NoName)) ⊎ ((folder ≢ []) × OpensStore state_of_sight tells opens folder true result)

-- ---- the system

-- what it may give where it is asked
pub record System : Type 1 where
  -- the files of a folder are measured so
  pub measures : Text → Result Figures HostError → Type 0
  -- a backup of a world is at a place
  pub made : Text → WorldState → Type 0
  -- there is none, and why
  pub unmade : Text → WorldState → BackupError → Type 0

-- where a backup is what was done for it
abbrev pub system_of : (Text → Result Figures HostError → Type 0) → {D : Type 0} → (D → State) → (Deed D → Type 0) → System
system_of measures state does = record {
  measures = measures;
  made = λ dir world. IsBackupMade state does half_limit world dir;
  unmade = λ dir world error. HasNoBackup state does half_limit world dir error;
}

-- ---- what the words ask for

-- the selection has the texts of the options
pub record IsSelection (shown : Shown) (selection : Selection) : Type 0 where
  pub symbol : text_of selection.symbol ≡ text_of shown.symbol
  pub in_package : text_of selection.package ≡ text_of shown.package
  pub indicator : text_of selection.indicator ≡ text_of shown.indicator
  pub like : text_of selection.like ≡ text_of shown.like
  pub layout : selection.layout ≡ (if shown.json then Json else (if shown.forms then Forms else Lines))

-- how figures and records are written
abbrev pub notation_of : Bool → Notation
notation_of json = if json then notations.Json else notations.Lines

-- the properties that are asked for are shown, or counted
abbrev pub TellsProperties : Bool → Notation → Selection → WorldState → List ℕ → Type 0
TellsProperties false notation selection world text = ArePropertiesShown selection world text
TellsProperties true notation selection world text = IsCountText selection world notation text

-- why properties are not shown, or not counted
abbrev pub WithholdsProperties : Bool → Selection → WorldState → ShowError → Type 0
WithholdsProperties false selection world error = ArePropertiesUnshown selection world error
WithholdsProperties true selection world error = IsNoCount selection world error

-- the part of the log that was asked for
abbrev pub part_of : Records → LogPart
part_of records = record {
  from = records.from.number;
  generation = records.from.generation;
  with_generation = records.places;
  notation = notation_of records.json;
}

-- ---- the records of what was seen

-- the lines of the records that are asked for were written
unfoldable pub TellsLog : Option (List ℕ) → Option (List ℕ) → Records → Sight → Status → Type 0
TellsLog held written records sight status =
    (text : List ℕ) × IsLogText (part_of records) (state_of_sight sight).reads text × TellsText status held written text

-- why the log of what was seen is not shown
unfoldable pub WithholdsLog : Records → Sight → Unlooked → Type 0
WithholdsLog records sight why =
    (error : LogError) × IsNoPlace (least_records records.from.number) records.from.generation error (state_of_sight sight).reads × (why ≡ of_log error)

-- ---- the files that were seen

-- the figures of the half in use that was seen, and of the files as they were measured
pub record TellsFileFigures (held written : Option (List ℕ)) (notation : Notation) (measured : Result Figures HostError → Type 0) (sight : Sight) (status : Status) : Type 0 where
  pub half : HalfFigures
  pub figures : AreFiguresOf (state_of_sight sight).reads half
  pub files : Figures
  pub are_measured : measured (Ok files)
  pub tells : TellsText status held written (file_info_text notation half files)

-- the files were not measured, or the log of the sight was not opened
unfoldable pub WithholdsFileFigures : (Result Figures HostError → Type 0) → Sight → Unlooked → Type 0
WithholdsFileFigures measured sight why =
    ((error : HostError) × measured (Err error) × (why ≡ unlooked.Host error))
    ⊎ (((error : LogError) × IsNoLog error (state_of_sight sight).reads × (why ≡ of_log error)) ⊎ (why ≡ unlooked.Fault NO_MEMORY))

-- ---- a store that was seen is opened in memory, with these macro functions

module _ (functions : Functions) {R : Type 0} (macros : R) where
  -- the files that were seen opened as a store, and a text of its world was written
  pub record TellsOfWorld (Is : WorldState → List ℕ → Type 0) (sight : Sight) (held written : Option (List ℕ)) (status : Status) : Type 0 where
    pub opened : StoreView Sight R
    pub is_opened : IsOpened functions state_of_sight sight macros half_limit opened
    pub text : List ℕ
    pub is : Is is_opened.world text
    pub tells : TellsText status held written text

  -- The files that were seen opened as a store, and this is so of its world.
  pub record LookHasWorldThat (Is : WorldState → Type 0) (sight : Sight) : Type 0 where
    pub opened : StoreView Sight R
    pub is_opened : IsOpened functions state_of_sight sight macros half_limit opened
    pub is : Is is_opened.world

  -- the files that were seen opened as a store, and a backup was made of its world
  unfoldable pub BacksUp : (WorldState → Type 0) → Sight → Status → Type 0
  BacksUp made sight status = LookHasWorldThat made sight × (status ≡ statuses.Done)

  -- what is told

  module _ (held written : Option (List ℕ)) where
    -- the figures of the half in use that was seen, of its world, and of the files as they were measured
    pub record TellsFigures (notation : Notation) (measured : Result Figures HostError → Type 0) (sight : Sight) (status : Status) : Type 0 where
      pub half : HalfFigures
      pub figures : AreFiguresOf (state_of_sight sight).reads half
      pub files : Figures
      pub are_measured : measured (Ok files)
      pub same : Sight
      pub reads : (state_of_sight same).reads ≡ (state_of_sight sight).reads
      pub tells : TellsOfWorld (λ world text. text ≡ info_text notation half world files) same held written status

    -- the figures of the half in use that was seen and of the files, or these with the figures of its world
    unfoldable pub TellsInfo : InfoPart → (Result Figures HostError → Type 0) → Sight → Status → Type 0
    TellsInfo part measured sight status =
        ((part.files ≡ true) × TellsFileFigures held written (notation_of part.json) measured sight status)
        ⊎ ((part.files ≡ false) × TellsFigures (notation_of part.json) measured sight status)

    -- the properties that are asked for, or how many they are
    unfoldable pub TellsShown : Shown → Sight → Status → Type 0
    TellsShown shown sight status =
        (selection : Selection) × IsSelection shown selection
        × TellsOfWorld (TellsProperties shown.count (notation_of shown.json) selection) sight held written status

    -- the text of the world after so many records
    unfoldable pub TellsDump : RecordPlace → Sight → Status → Type 0
    TellsDump place sight status =
        (cut : Sight) × IsCut place.number place.generation (state_of_sight sight).reads (state_of_sight cut).reads
        × ((back : Sight) × IsReport functions state_of_sight reports.Dump cut macros held written status back)

    -- the half in use and the position of messages
    pub record TellsVerified (sight : Sight) (status : Status) : Type 0 where
      pub opened : StoreView Sight R
      pub is_opened : IsOpened functions state_of_sight sight macros half_limit opened
      pub tells : TellsText status held written (verified_text opened.half opened.generation opened.record_count (position is_opened.world))

    -- What a look of each kind writes of the files that were seen, and how it ends.
    unfoldable pub TellsLook : System → Text → Look → Sight → Status → Type 0
    TellsLook system folder (Show shown) sight status = TellsShown shown sight status
    TellsLook system folder (Info part) sight status = TellsInfo part (system.measures folder) sight status
    TellsLook system folder (Log records) sight status = TellsLog held written records sight status
    TellsLook system folder (Backup to) sight status = BacksUp (system.made to.now) sight status × (written ≡ held)
    TellsLook system folder (Dump place) sight status = TellsDump place sight status
    TellsLook system folder Verify sight status = TellsVerified sight status

-- the files that were seen opened as no store, whether all macro functions are registered or not
unfoldable pub OpensAsNoStore : Functions → Bool → Sight → Unlooked → Type 0
OpensAsNoStore functions whole sight why =
    (number : ℕ) × (back : Sight) × IsUnopened functions state_of_sight sight whole half_limit number back × (why ≡ unlooked.Fault number)

-- why `verify` tells nothing: the files opened as no store, or memory ran out
unfoldable pub WithholdsVerified : Functions → Bool → Sight → Unlooked → Type 0
WithholdsVerified functions whole sight why = OpensAsNoStore functions whole sight why ⊎ (why ≡ unlooked.Fault NO_MEMORY)

-- why nothing is told
module _ (functions : Functions) {R : Type 0} (macros : R) (whole : Bool) where
  -- the files were not measured, or the log of the sight was not opened, or the store
  unfoldable pub WithholdsFigures : (Result Figures HostError → Type 0) → Sight → Unlooked → Type 0
  WithholdsFigures measured sight why =
      ((error : HostError) × measured (Err error) × (why ≡ unlooked.Host error))
      ⊎ (((error : LogError) × IsNoLog error (state_of_sight sight).reads × (why ≡ of_log error))
      ⊎ ((same : Sight) × ((state_of_sight same).reads ≡ (state_of_sight sight).reads) × (OpensAsNoStore functions whole same why ⊎ (why ≡ unlooked.Fault NO_MEMORY))))

  -- why `info` tells nothing
  unfoldable pub WithholdsInfo : InfoPart → (Result Figures HostError → Type 0) → Sight → Unlooked → Type 0
  WithholdsInfo part measured sight why =
      ((part.files ≡ true) × WithholdsFileFigures measured sight why) ⊎ ((part.files ≡ false) × WithholdsFigures measured sight why)

  -- why `show` tells nothing
  unfoldable pub WithholdsShown : Shown → Sight → Unlooked → Type 0
  WithholdsShown shown sight why =
      OpensAsNoStore functions whole sight why
      ⊎ ((selection : Selection) × IsSelection shown selection
      × ((error : ShowError) × LookHasWorldThat functions macros (λ world. WithholdsProperties shown.count selection world error) sight × (why ≡ of_show error)))

  -- why `dump` tells nothing: there is no such record, or the files, cut off after it, opened as no store
  unfoldable pub WithholdsDump : RecordPlace → Sight → Unlooked → Type 0
  WithholdsDump place sight why =
      ((error : LogError) × IsNoPlace place.number place.generation error (state_of_sight sight).reads × (why ≡ of_log error))
      ⊎ ((cut : Sight) × IsCut place.number place.generation (state_of_sight sight).reads (state_of_sight cut).reads × OpensAsNoStore functions whole cut why)

  -- the store was not opened, or a backup of its world was not made
  unfoldable pub WithholdsBackup : (WorldState → BackupError → Type 0) → Sight → Unlooked → Type 0
  WithholdsBackup unmade sight why =
      OpensAsNoStore functions whole sight why
      ⊎ ((error : BackupError) × LookHasWorldThat functions macros (λ world. unmade world error) sight × IsOfBackup error why)

  -- why a look of each kind tells nothing
  unfoldable pub WithholdsLook : System → Text → Look → Sight → Unlooked → Type 0
  WithholdsLook system folder (Show shown) sight why = WithholdsShown shown sight why
  WithholdsLook system folder (Info part) sight why = WithholdsInfo part (system.measures folder) sight why
  WithholdsLook system folder (Log records) sight why = WithholdsLog records sight why
  WithholdsLook system folder (Backup to) sight why = WithholdsBackup (system.unmade to.now) sight why
  WithholdsLook system folder (Dump place) sight why = WithholdsDump place sight why
  WithholdsLook system folder Verify sight why = WithholdsVerified functions whole sight why

-- ---- the whole look

-- how a look ends: with what it told, or why it told nothing
abbrev pub status_in : Result Status Unlooked → Status
status_in (Ok status) = status
status_in (Err why) = status_of why

module _ (functions : Functions) {R : Type 0} (macros : R) (whole : Bool) (system : System) (lacks_seeds : Type 0) (opens : Text → Result Sight HostError → Type 0) where
  -- The files of the folder were opened so, and this is told of what was seen, or nothing. Before that no seed was had, of a system that may lack them.
  unfoldable pub LooksAt : Text → Look → Option (List ℕ) → Option (List ℕ) → Result Status Unlooked → Type 0
  LooksAt folder look held written ended =
      (lacks_seeds × (ended ≡ Err (unlooked.Fault INPUT)))
      ⊎ (((error : HostError) × opens folder (Err error) × (ended ≡ Err (unlooked.Host error)))
      ⊎ ((sight : Sight) × opens folder (Ok sight)
      × MatchResult ended (TellsLook functions macros held written system folder look sight)
      (WithholdsLook functions macros whole system folder look sight)))

  -- the words are refused, or ask for help; or they ask for a look, which ended so
  unfoldable pub LooksAsAsked : List Text → Option (List ℕ) → Option (List ℕ) → Status → Type 0
  LooksAsAsked words held written status =
      IsOfWords status
      ⊎ ((folder : Text) × (look : Look) × AsksToLook words folder look
      × ((ended : Result Status Unlooked) × (status ≡ status_in ended) × LooksAt folder look held written ended))
