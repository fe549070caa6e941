-- What a recipient of the lines of a session keeps account of, and what it asks before they are handed to it.
use Rattle.std.specs.Prelude.{◌≡◌, ◌⊎◌, ℕ, ◌+◌, List, ◌++◌, length, Option, Some, unwrap_or}
use Rattle.disk_trait.specs.Disk.{State, IsHonest, Throughout}
use Rattle.gate_log.specs.Layout.{LogRecord}
use Rattle.plist_state.specs.State.{WorldState}
use Rattle.prevalence_store.specs.Theorem.{Call, Survives}
use Rattle.prevalence_store.specs.calls.ExecuteAll.{MeansAllOrNone}
use Rattle.prevalence_store.specs.calls.Store.{StoreView}
use Rattle.session_words.specs.declared.mode.Mode.{Mode}
use Rattle.prevalence_store.specs.meaning.Acceptance.{read_in}
use Rattle.sessions.specs.FormAnswers.{Progress, after_forms, last_line}
use Rattle.user_macros.specs.Functions.{Functions}

-- How the session began: its world, the mode in which it reads, and what its reader had, if that is told. And how it was when lines were
-- last handed on, or, if none were, as it began: of how many forms they were so far, the world after these, and the disk.
pub record Account (D : Type 0) : Type 0 where
  pub first : WorldState
  pub mode : Mode
  pub input : Option (List ℕ)
  pub forms : ℕ
  pub now : WorldState
  pub disk : D

-- the account as a session begins: no line was handed on
abbrev pub first_account : {D : Type 0} → WorldState → Mode → Option (List ℕ) → D → Account D
first_account world mode input disk = record { first = world; mode = mode; input = input; forms = 0; now = world; disk = disk }

-- the account after the lines of so many forms more, with the store as it is then
abbrev pub with_forms : {D R : Type 0} → ℕ → StoreView D R → Account D → Account D
with_forms forms store account = record {
  first = account.first;
  mode = account.mode;
  input = account.input;
  forms = account.forms + forms;
  now = unwrap_or store.world account.now;
  disk = store.disk;
}

module _ (functions : Functions) {D R : Type 0} (state : D → State) (account : Account D) (store : StoreView D R) (lines : List ℕ) (forms : ℕ) where
  -- These are the lines of so many forms of the session, the next ones after those whose lines were handed on; there may be that of a
  -- refusal of the reader behind them, which acknowledges nothing. All that these forms wrote is stored: what was done since lines were
  -- last handed on survives as a call that has acknowledged them all.
  pub record AreStored : Type 0 where
    -- the whole input, also what was not read yet; some text, if the input is not told
    pub text : List ℕ
    pub of_input : (all : List ℕ) → account.input ≡ Some all → text ≡ all
    pub before : Progress
    pub before_is : after_forms functions account.forms account.first account.mode text ≡ Some before
    pub before_now : before.world ≡ account.now
    -- what comes of these forms
    pub far : Progress
    pub far_is : after_forms functions forms before.world account.mode before.rest ≡ Some far
    pub lines_are : (lines ≡ far.lines) ⊎ (lines ≡ far.lines ++ last_line (read_in functions far.world account.mode far.rest))
    pub left : store.world ≡ Some far.world
    pub survives : IsHonest (state account.disk) → Survives functions (state account.disk) (state store.disk) account.now far.taken (length far.taken) (Some far.world)
    -- and a crash at any moment since leaves all of them, or none
    pub all_or_none : IsHonest (state account.disk) → Throughout (state account.disk) (state store.disk) (MeansAllOrNone functions account.now far.taken)

  -- as a call of the store
  abbrev pub call_of_stored : AreStored → Call D
  call_of_stored stored = record { disk = store.disk; taken = stored.far.taken; acknowledged = length stored.far.taken; left = Some stored.far.world }

-- These forms, if any, were taken since lines were last handed on, and none of them was acknowledged. A crash at any moment since leaves all
-- of them, or none.
pub record AreUnderWay (functions : Functions) {D R : Type 0} (state : D → State) (account : Account D) (store : StoreView D R) : Type 0 where
  pub taken : List LogRecord
  pub survives : IsHonest (state account.disk) → Survives functions (state account.disk) (state store.disk) account.now taken 0 store.world
  pub all_or_none : IsHonest (state account.disk) → Throughout (state account.disk) (state store.disk) (MeansAllOrNone functions account.now taken)
