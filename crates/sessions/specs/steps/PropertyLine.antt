-- A form that is answered from its text: it stands whole in a piece, and writes nothing.
use Rattle.std.specs.Prelude.{◌≡◌, ℕ, List, ◌++◌, length, take}
use Rattle.lisp_object.specs.Object.{Object}
use Rattle.lisp_object.specs.Datum.{object_of}
use Rattle.lisp_object.specs.declared.datum.Datum.{Datum}
use Rattle.lisp_operators.specs.Evaluation.{gives}
use Rattle.lisp_reading.specs.Reading.{form}
use Rattle.plist_state.specs.State.{WorldState}
use Rattle.prevalence_store.specs.meaning.Acceptance.{read_in, transaction_value}
use Rattle.session_words.specs.declared.mode.Mode.{Mode}
use Rattle.sessions.specs.declared.input.property_line.FoundLine.{FoundLine}
use Rattle.sessions.specs.FormAnswers.{value_line}
use Rattle.user_macros.specs.Functions.{Functions}

-- After these bytes, which are pending, a form stands whole in the piece, whatever follows. It writes nothing, and this is the line of its
-- value. So many bytes of the piece are passed with it.
pub record HasLine (functions : Functions) (world : WorldState) (mode : Mode) (bytes piece : List ℕ) (found : FoundLine) : Type 0 where
  pub object : Object
  pub start : ℕ
  pub reads : (more : List ℕ) → read_in functions world mode ((bytes ++ take found.count piece) ++ more) ≡ form object start found.next found.next
  pub next_is : found.next ≡ length (bytes ++ take found.count piece)
  pub value : Datum
  pub valued : transaction_value functions.names world object ≡ gives (object_of value) world
  pub line_is : found.line.items ≡ value_line world (object_of value)
