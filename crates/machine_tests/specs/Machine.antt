-- A machine on which the program runs, and what is there at each moment of it.
use Rattle.std.specs.Prelude.{◌≤◌, ℕ, List, Option, Result, Ok, length}
use Rattle.clap.specs.Words.{Text}
use Rattle.disk_trait.specs.Disk.{Image, IsHonest, State, Throughout}
use Rattle.disk_trait.specs.declared.host.HostError.{HostError}
use Rattle.disk_trait.specs.declared.host.IfMissing.{IfMissing}
use Rattle.plist_state.specs.State.{WorldState}
use Rattle.prevalence_store.specs.Theorem.{Call, MeansAsBefore}
use Rattle.sessions.specs.Account.{Account, first_account}
use Rattle.sessions.specs.declared.ending.Ended.{Ended}
use Rattle.session_ledger.specs.OutgoingLines.{calls_in, disk_after_lines}
use Rattle.session_words.specs.declared.wanted.SessionOptions.{SessionOptions}
use Rattle.store_commands.specs.Session.{IsSession}
use Rattle.store_laws.specs.Batches.{IsAfterCalls, MeansCalls}
use Rattle.user_macros.specs.Functions.{Functions}

-- each disk is honest as a folder is opened
abbrev pub IsHonestMachine : {D : Type 0} → (D → State) → (Text → IfMissing → Result D HostError → Type 0) → Type 0
IsHonestMachine {D} state opens = (folder : Text) (if_missing : IfMissing) (disk : D) → opens folder if_missing (Ok disk) → IsHonest (state disk)

-- ---- of a session of the program

module _ (functions : Functions) (wanted : SessionOptions) {D R : Type 0} (state : D → State) {disk : D} {macros : R} {had has held written : Option (List ℕ)} {ended : Ended} {back : D}
    (session : IsSession functions wanted state disk macros had has held written ended back) where
  -- the account with which it began
  abbrev pub account_of_session : Account D
  account_of_session = first_account session.is_opened.world wanted.mode had session.opened.disk

  -- the session as calls of the store: one for each time that lines went out, and a last one
  abbrev pub calls_of_session : List (Call D)
  calls_of_session = calls_in functions state account_of_session session.closed session.went

  -- Lines went out at least k times, and a crash at some moment from the k-th on, up to the end of the session, might have left this image.
  abbrev pub IsLeftSince : ℕ → Image → Type 0
  IsLeftSince k image = (k ≤ length session.went.out.sent) × (state back).left_since (state (disk_after_lines account_of_session session.went.out.sent k)).moment image

-- A store that is opened on this disk finds what earlier sessions on such a machine answered: if the disk reads what a crash left of a session
-- since lines went out for the k-th time, the store has the world after all forms of at least k times, and of no time a part.
abbrev pub FindsAnswered : Functions → {D : Type 0} (R : Type 0) → (D → State) → D → WorldState → Type 0
FindsAnswered functions {D} R state disk world =
    (wanted : SessionOptions) (start back : D) (macros : R) (had has held written : Option (List ℕ)) (ended : Ended) → IsHonest (state start)
    → (earlier : IsSession functions wanted state start macros had has held written ended back)
    → (k : ℕ) → IsLeftSince functions wanted state earlier k (state disk).reads
    → IsAfterCalls functions earlier.is_opened.world (calls_of_session functions wanted state earlier) k world

-- A session of the program went over the store that a disk holds.
pub record IsThereByThen (functions : Functions) (wanted : SessionOptions) {D R : Type 0} (state : D → State) (macros : R) (had has held written : Option (List ℕ)) (disk : D) : Type 0 where
  pub back : D
  pub ended : Ended
  pub session : IsSession functions wanted state disk macros had has held written ended back
  -- it found what was answered before
  pub found : FindsAnswered functions R state disk session.is_opened.world
  -- a crash while the store was opened leaves what the files meant before
  pub opening : Throughout (state disk) (state session.opened.disk) (MeansAsBefore functions (state disk))
  -- from the moment on at which lines went out for the k-th time, a crash leaves the world after all forms of at least k times, and of no
  -- time a part
  pub there : (k : ℕ) (image : Image) → IsLeftSince functions wanted state session k image
      → MeansCalls functions session.is_opened.world (calls_of_session functions wanted state session) k image
