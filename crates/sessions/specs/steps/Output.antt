-- The line that answers a form.
use Rattle.std.specs.Prelude.{◌≡◌, ℕ, List, Some, Ok, Err, Result}
use Rattle.lisp_object.specs.Datum.{object_of}
use Rattle.lisp_operators.specs.declared.evaluated.Evaluated.{Evaluated}
use Rattle.sessions.specs.steps.Forms.{Failure, Refused, Full, DeviceFault, OutOfMemory}
use Rattle.sessions.specs.FormAnswers.{refusal_line, value_line}
use Rattle.prevalence_store.specs.calls.Store.{StoreView}
use Rattle.plist_state.specs.State.{WorldState}

-- the line that answers a form, in the world that it left
abbrev pub IsLineOf : WorldState → Result Evaluated Failure → List ℕ → Type 0
IsLineOf world (Ok evaluated) line = line ≡ value_line world (object_of evaluated.value)
IsLineOf world (Err (Refused number)) line = line ≡ refusal_line number
IsLineOf world (Err Full) line = ⊥
IsLineOf world (Err DeviceFault) line = ⊥
IsLineOf world (Err OutOfMemory) line = ⊥

-- the line that answers a form, in the world that the store has after it, if any
pub record IsAnswerLine {D R : Type 0} (new : StoreView D R) (answer : Result Evaluated Failure) (line : List ℕ) : Type 0 where
  pub world : WorldState
  pub one : (v : WorldState) → new.world ≡ Some v → v ≡ world
  pub line_of : IsLineOf world answer line
