-- What version 2 made of forms and files. This is the only place that has rules of version 2: they are those in force, and a half in use was
-- one of version 1 or 2, whose records stand each after an open gate. Any other meant nothing.
use Rattle.std.specs.Prelude.{ℕ, true, List, Option, None, Some, Result}
use Rattle.disk_trait.specs.Disk.{Image, file_of, other_of}
use Rattle.disk_trait.specs.declared.half.Half.{Half}
use Rattle.gate_log.specs.Layout.{Contents, HasOpenGate, HoldsGated}
use Rattle.gate_log.specs.Log.{IsBeside}
use Rattle.evaluator.specs.Operators.{operator_of}
use Rattle.plist_state.specs.State.{WorldState}
use Rattle.user_macros.specs.Functions.{Functions}
use Rattle.session_words.specs.declared.mode.Mode.{Mode}
use Rattle.prevalence_store.specs.meaning.Acceptance.{Acceptance, Rules, accepts_by}
use Rattle.prevalence_store.specs.meaning.Files.{IsWorldBy}

-- the rules of version 2
abbrev pub rules2 : Rules
rules2 = record { text_limit = 1048576; based = true; operators = operator_of; forgets = true }

-- what a text gave in a world
abbrev pub accepts2 : Functions → WorldState → Mode → List ℕ → Result Acceptance ℕ
accepts2 functions world mode text = accepts_by rules2 functions world mode text

-- this half was in use and held these contents
pub record Holds2 (half : Half) (k : Contents) (image : Image) : Type 0 where
  pub used : HoldsGated k (file_of half image)
  pub beside : IsBeside k.generation (other_of half image)

-- what an image meant: the contents of the half in use. None: no half was open.
abbrev pub FilesMean2 : Option Contents → Image → Type 0
FilesMean2 None image = (HasOpenGate image.a → ⊥) × (HasOpenGate image.b → ⊥)
FilesMean2 (Some k) image = (half : Half) × Holds2 half k image

-- The files meant this world to a program of version 2.
abbrev pub MeansWorld2 : Functions → Image → WorldState → Type 0
MeansWorld2 functions image world = (k : Option Contents) × FilesMean2 k image × IsWorldBy rules2 functions k world
