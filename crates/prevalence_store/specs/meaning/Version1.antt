-- What version 1 made of forms and files. This is the only place that has rules of version 1: forms had at most 65,536 bytes,
-- *READ-BASE* was no value and no place, so that every world read in base 10, only symbols of COMMON-LISP were operators, and no form
-- took names away.
use Rattle.std.specs.Prelude.{◌≡◌, ℕ, ◌≤◌, true, false, List, length, Option, None, Some, Result}
use Rattle.std.specs.List.{AllByRecursion}
use Rattle.disk_trait.specs.Disk.{Image}
use Rattle.gate_log.specs.Layout.{Contents, LogRecord}
use Rattle.gate_log.specs.Log as gated
use Rattle.evaluator.specs.Operators.{standard_operator_of}
use Rattle.plist_state.specs.State.{WorldState, initial}
use Rattle.plist_state.specs.Sound.{IsSoundWorldState}
use Rattle.snapshot_text.specs.NamedFunctions.{are_covered}
use Rattle.world_text.specs.Snapshot.{snapshot_in}
use Rattle.user_macros.specs.Functions.{Functions}
use Rattle.session_words.specs.declared.mode.Mode.{Mode}
use Rattle.prevalence_store.specs.meaning.Acceptance.{Acceptance, Rules, accepts_by, after_by}

-- the rules of version 1
abbrev pub rules1 : Rules
rules1 = record { text_limit = 65536; based = false; operators = standard_operator_of; forgets = false }

-- what a text gave in a world
abbrev pub accepts1 : Functions → WorldState → Mode → List ℕ → Result Acceptance ℕ
accepts1 functions world mode text = accepts_by rules1 functions world mode text

-- the world after these records
abbrev pub after1 : Functions → WorldState → List LogRecord → Option WorldState
after1 functions world entries = after_by rules1 functions world entries

-- a record as version 1 had it
pub record IsLogRecord1 (entry : LogRecord) : Type 0 where
  pub known : entry.kind ≤ 1
  pub within : length entry.text ≤ 65536

-- these contents are of a half of version 1, and meant this world
pub record ContentsMean1 (functions : Functions) (k : Contents) (world : WorldState) : Type 0 where
  pub version : k.version ≡ 1
  pub entries : AllByRecursion IsLogRecord1 k.entries
  pub first : WorldState
  pub sound : IsSoundWorldState first
  pub covered : are_covered functions.names first ≡ true
  pub snapshot : snapshot_in 1 first ≡ Some k.snapshot
  pub records : after1 functions first k.entries ≡ Some world

-- the world of what the log holds; if no half is open it is the initial one
abbrev pub IsWorldOf1 : Functions → Option Contents → WorldState → Type 0
IsWorldOf1 functions None world = world ≡ initial
IsWorldOf1 functions (Some k) world = ContentsMean1 functions k world

-- The files meant this world to a program of version 1. If the half in use is not of version 1, they meant nothing to it.
abbrev pub MeansWorld1 : Functions → Image → WorldState → Type 0
MeansWorld1 functions image world = (k : Option Contents) × gated.FilesMean k image × IsWorldOf1 functions k world
