-- What `dump`, `verify`, `snapshot`, `upgrade` and `export` tell of a store.
use Rattle.std.specs.Prelude.{◌≡◌, ◌≢◌, ℕ, List, [], ◌∷◌, ◌++◌, Option, None, Some, codes, decimal}
use Rattle.disk_trait.specs.Disk.{State}
use Rattle.disk_trait.specs.declared.half.Half.{Half}
use Rattle.disk_trait.specs.declared.half.Half.TheVariants.{A, B}
use Rattle.gate_log.specs.Layout.{next_version}
use Rattle.plist_state.specs.State.{WorldState}
use Rattle.world_text.specs.Snapshot.{snapshot}
use Rattle.world_forms.specs.Forms.{forms}
use Rattle.world_forms.specs.Properties.{left_out_lines}
use Rattle.session_words.specs.declared.content.Content.{Content}
use Rattle.user_macros.specs.Functions.{Functions}
use Rattle.prevalence_store.specs.calls.Open.{IsOpened}
use Rattle.prevalence_store.specs.calls.Snapshot.{Snapshots}
use Rattle.prevalence_store.specs.calls.Store.{StoreView}
use Rattle.prevalence_store.specs.declared.outcome.Outcome.{Outcome}
use Rattle.prevalence_store.specs.declared.outcome.Outcome.TheVariants.{Accepted, Snapshotted, Refused}
use Rattle.sessions.specs.Streams.{Writes}
use Rattle.messages.specs.Position.{position}
use Rattle.store_commands.specs.StatusAfterText.{TellsText}
use Rattle.store_commands.specs.Session.{half_limit}
use Rattle.store_commands.specs.declared.status.Status.{Status}
use Rattle.store_commands.specs.declared.status.Status.TheVariants.{Done, Helped, FormRefused, Unanswered, WordsRefused, LeftOut, Fault}
use Rattle.command_words.specs.declared.words.Report.{Report}
use Rattle.command_words.specs.declared.words.Report.TheVariants.{Dump, Verify}

-- the letter of a half
abbrev pub letter_of : Half → List ℕ
letter_of A = codes "A"
letter_of B = codes "B"

-- the line on the half in use: which it is, its generation, and how many records it holds
abbrev pub half_line : Half → ℕ → ℕ → List ℕ
half_line half generation records = codes "half " ++ (letter_of half ++ (codes " generation " ++ (decimal generation ++ (codes " records " ++ (decimal records ++ 10 ∷ [])))))

-- the line on the half in use of an open store
abbrev pub half_line_of : {D R : Type 0} → StoreView D R → List ℕ
half_line_of store = half_line store.half store.generation store.record_count

-- the line on the position, where there is one
abbrev pub position_line : Option ℕ → List ℕ
position_line None = []
position_line (Some number) = codes "position " ++ (decimal number ++ 10 ∷ [])

-- what is told of an open store with this world: `dump` writes the text of it, and `verify` the line on the half in use, and that on
-- the position of messages
abbrev pub report_text : Report → {D R : Type 0} → StoreView D R → WorldState → List ℕ
report_text Dump store world = snapshot world
report_text Verify store world = half_line_of store ++ position_line (position world)

-- The store that a disk holds was opened with these macro functions, this was told of it, and it was closed: this is its disk.
pub record IsReport (functions : Functions) {D R : Type 0} (state : D → State) (report : Report) (disk : D) (macros : R)
    (held written : Option (List ℕ)) (status : Status) (back : D) : Type 0 where
  pub opened : StoreView D R
  pub is_opened : IsOpened functions state disk macros half_limit opened
  pub tells : TellsText status held written (report_text report opened is_opened.world)
  pub disk_is : back ≡ opened.disk

-- an outcome that is no accepted form
abbrev pub HasNoValue : Outcome → Type 0
HasNoValue (Accepted value) = ⊥
HasNoValue Snapshotted = Unit {0}
HasNoValue (Refused number) = Unit {0}

-- After a snapshot the line on the half in use is written, which is the one that holds it; if it was refused, nothing.
abbrev pub TellsSnapshot : Outcome → {D R : Type 0} → StoreView D R → Status → Option (List ℕ) → Option (List ℕ) → Type 0
TellsSnapshot (Accepted value) store status held written = ⊥
TellsSnapshot Snapshotted store status held written = TellsText status held written (half_line_of store)
TellsSnapshot (Refused number) store status held written = (status ≡ Fault number) × (written ≡ held)

-- The store that a disk holds was opened with these macro functions, it took a snapshot, which was told, and it was closed: this is
-- its disk.
pub record IsSnapshot (functions : Functions) {D R : Type 0} (state : D → State) (disk : D) (macros : R)
    (held written : Option (List ℕ)) (status : Status) (back : D) : Type 0 where
  pub opened : StoreView D R
  pub is_opened : IsOpened functions state disk macros half_limit opened
  pub closed : StoreView D R
  pub outcome : Outcome
  pub snapshots : Snapshots functions state opened closed is_opened.world outcome
  pub tells : TellsSnapshot outcome closed status held written
  pub disk_is : back ≡ closed.disk

-- the line on the version of the half in use
abbrev pub version_line : ℕ → List ℕ
version_line version = codes "version " ++ (decimal version ++ 10 ∷ [])

-- After an upgrade the line on the version is written; if its snapshot was refused, nothing.
abbrev pub TellsUpgrade : Outcome → {D R : Type 0} → StoreView D R → Status → Option (List ℕ) → Option (List ℕ) → Type 0
TellsUpgrade (Accepted value) store status held written = ⊥
TellsUpgrade Snapshotted store status held written = TellsText status held written (version_line store.version)
TellsUpgrade (Refused number) store status held written = (status ≡ Fault number) × (written ≡ held)

-- A snapshot was taken where the half that it begins has another version than the one that was in use, and nothing was done else.
pub record Upgrades (functions : Functions) {D R : Type 0} (state : D → State) (old new : StoreView D R) (world : WorldState) (outcome : Outcome) : Type 0 where
  pub earlier : old.version ≢ next_version (state old.disk).mixes old.version → Snapshots functions state old new world outcome
  pub latest : old.version ≡ next_version (state old.disk).mixes old.version → (new ≡ old) × (outcome ≡ Snapshotted)

-- The store that a disk holds was opened with these macro functions, it was upgraded, which was told, and it was closed: this is its
-- disk.
pub record IsUpgrade (functions : Functions) {D R : Type 0} (state : D → State) (disk : D) (macros : R)
    (held written : Option (List ℕ)) (status : Status) (back : D) : Type 0 where
  pub opened : StoreView D R
  pub is_opened : IsOpened functions state disk macros half_limit opened
  pub closed : StoreView D R
  pub outcome : Outcome
  pub upgrades : Upgrades functions state opened closed is_opened.world outcome
  pub tells : TellsUpgrade outcome closed status held written
  pub disk_is : back ≡ closed.disk

-- All forms were written, and nothing was left out; or all but what no form can make, of which there are lines; or a part of them, as of
-- every text.
abbrev pub TellsForms : Status → Option (List ℕ) → Option (List ℕ) → (forms left_out lines : List ℕ) → Type 0
TellsForms LeftOut held written forms left_out lines = Writes held written forms × ((lines ≡ left_out) × (left_out ≢ []))
TellsForms Done held written forms left_out lines = TellsText Done held written forms × ((lines ≡ left_out) × (left_out ≡ []))
TellsForms (Fault number) held written forms left_out lines = TellsText (Fault number) held written forms
TellsForms Helped held written forms left_out lines = ⊥
TellsForms FormRefused held written forms left_out lines = ⊥
TellsForms Unanswered held written forms left_out lines = ⊥
TellsForms WordsRefused held written forms left_out lines = ⊥

-- The store that a disk holds was opened with these macro functions, the forms of its world were written, and it was closed: this is its
-- disk, and these are the lines on the properties that no form can set.
pub record IsExport (functions : Functions) {D R : Type 0} (state : D → State) (content : Content) (disk : D) (macros : R)
    (held written : Option (List ℕ)) (status : Status) (back : D) (lines : List ℕ) : Type 0 where
  pub opened : StoreView D R
  pub is_opened : IsOpened functions state disk macros half_limit opened
  pub tells : TellsForms status held written (forms is_opened.world content) (left_out_lines is_opened.world) lines
  pub disk_is : back ≡ opened.disk

-- ---- over the files of a folder, of which no clause can say what they hold

-- so far as it ends well, the output has the text of some world more
abbrev pub DumpsWorld : Status → List ℕ → Option (List ℕ) → Type 0
DumpsWorld Done held written = (world : WorldState) × (written ≡ Some (held ++ snapshot world))
DumpsWorld FormRefused held written = ⊥
DumpsWorld Unanswered held written = ⊥
DumpsWorld Helped held written = Unit {0}
DumpsWorld WordsRefused held written = Unit {0}
DumpsWorld LeftOut held written = ⊥
DumpsWorld (Fault number) held written = Unit {0}

-- and the line on some half, and that on a position
abbrev pub TellsHalfAndPosition : Status → List ℕ → Option (List ℕ) → Type 0
TellsHalfAndPosition Done held written =
    (half : Half) × (generation : ℕ) × (records : ℕ) × (found : Option ℕ) × (written ≡ Some (held ++ (half_line half generation records ++ position_line found)))
TellsHalfAndPosition FormRefused held written = ⊥
TellsHalfAndPosition Unanswered held written = ⊥
TellsHalfAndPosition Helped held written = Unit {0}
TellsHalfAndPosition WordsRefused held written = Unit {0}
TellsHalfAndPosition LeftOut held written = ⊥
TellsHalfAndPosition (Fault number) held written = Unit {0}

-- by the status: a command that is done has written the line on some half
abbrev pub TellsHalf : Status → List ℕ → Option (List ℕ) → Type 0
TellsHalf Done held written = (half : Half) × (generation : ℕ) × (records : ℕ) × (written ≡ Some (held ++ half_line half generation records))
TellsHalf FormRefused held written = ⊥
TellsHalf Unanswered held written = ⊥
TellsHalf Helped held written = Unit {0}
TellsHalf WordsRefused held written = Unit {0}
TellsHalf LeftOut held written = ⊥
TellsHalf (Fault number) held written = Unit {0}

-- by the status: a command that is done has written the line on some version
abbrev pub TellsVersion : Status → List ℕ → Option (List ℕ) → Type 0
TellsVersion Done held written = (version : ℕ) × (written ≡ Some (held ++ version_line version))
TellsVersion FormRefused held written = ⊥
TellsVersion Unanswered held written = ⊥
TellsVersion Helped held written = Unit {0}
TellsVersion WordsRefused held written = Unit {0}
TellsVersion LeftOut held written = ⊥
TellsVersion (Fault number) held written = Unit {0}

-- and the forms of some world; the lines are on the properties of it that no form can set
abbrev pub WritesForms : Content → Status → List ℕ → List ℕ → Option (List ℕ) → Type 0
WritesForms content Done lines held written =
    (world : WorldState) × (written ≡ Some (held ++ forms world content)) × (left_out_lines world ≡ [])
WritesForms content LeftOut lines held written =
    (world : WorldState) × (written ≡ Some (held ++ forms world content)) × (lines ≡ left_out_lines world)
WritesForms content FormRefused lines held written = ⊥
WritesForms content Unanswered lines held written = ⊥
WritesForms content Helped lines held written = Unit {0}
WritesForms content WordsRefused lines held written = Unit {0}
WritesForms content (Fault number) lines held written = Unit {0}
