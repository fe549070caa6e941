-- What comes of the forms of a text, one after the other: the world, the records, and a line for each.
use Rattle.std.specs.Prelude.{ℕ, suc, zero, List, [], ◌∷◌, ◌++◌, drop, Option, None, Some, Ok, Err, codes}
use Rattle.std.specs.Prelude.{decimal}
use Rattle.std.specs.Option.{option_map, option_and_then}
use Rattle.gate_log.specs.Layout.{LogRecord}
use Rattle.lisp_object.specs.Object.{Object}
use Rattle.lisp_object.specs.Refusal.{name_of}
use Rattle.session_words.specs.declared.mode.Mode.{Mode}
use Rattle.plist_state.specs.State.{WorldState}
use Rattle.prevalence_store.specs.meaning.Acceptance.{between, read_in, records_of, transaction_value}
use Rattle.lisp_reading.specs.Reading.{ReadingResult as Reading, form, empty, refused}
use Rattle.lisp_operators.specs.Evaluation.{Evaluation}
use Rattle.canon_printer.specs.Printed.{printed}
use Rattle.user_macros.specs.Functions.{Functions}

-- a value, as it is printed in the world after its form, and a newline
abbrev pub value_line : WorldState → Object → List ℕ
value_line world x = printed world.packages world.current_package x ++ 10 ∷ []

-- an exclamation mark, the number of a refusal, its name, and a newline
abbrev pub refusal_line : ℕ → List ℕ
refusal_line number = codes "! " ++ decimal number ++ 32 ∷ name_of number ++ 10 ∷ []

-- How far a session has come: its world, the text that is left, the records of the forms that were accepted and wrote, the
-- lines of all forms, and the numbers of those that were refused.
pub record Progress : Type 0 where
  pub world : WorldState
  pub rest : List ℕ
  pub taken : List LogRecord
  pub lines : List ℕ
  pub refused : List ℕ

-- how far a session has come before its first form
abbrev pub first_progress : WorldState → List ℕ → Progress
first_progress world text = record { world = world; rest = text; taken = []; lines = []; refused = [] }

-- how far a session has come, and then with what came of the rest of its text
abbrev pub progress_onward : Progress → Progress → Progress
progress_onward p q = record { world = q.world; rest = q.rest; taken = p.taken ++ q.taken; lines = p.lines ++ q.lines; refused = p.refused ++ q.refused }

-- What comes of a form with this text of its own, after which this is left, by what its evaluation gave. A form that is refused
-- leaves no record, nor does one that writes nothing.
abbrev pub form_progress : WorldState → Mode → List ℕ → List ℕ → Evaluation Object → Progress
form_progress world mode own rest (Ok done) = record {
  world = done.state;
  rest = rest;
  taken = records_of done.wrote mode own;
  lines = value_line done.state done.value;
  refused = [];
}
form_progress world mode own rest (Err number) = record { world = world; rest = rest; taken = []; lines = refusal_line number; refused = number ∷ [] }

-- what comes of the form that a text begins with, by what was read there; None, if that is no form
abbrev pub one_form : Functions → WorldState → Mode → List ℕ → Reading → Option Progress
one_form functions world mode text (form object start end next) =
    Some (form_progress world mode (between start end text) (drop next text) (transaction_value functions.names world object))
one_form functions world mode text empty = None
one_form functions world mode text (refused number at) = None

-- how far a session has come with one form more; None, if the rest of its text begins with none
abbrev pub one_form_more : Functions → Mode → Progress → Option Progress
one_form_more functions mode p = option_map (progress_onward p) (one_form functions p.world mode p.rest (read_in functions p.world mode p.rest))

-- After so many forms of a text, each read in the world that the ones before it left. None if it has not so many.
abbrev pub after_forms : Functions → ℕ → WorldState → Mode → List ℕ → Option Progress
after_forms functions zero world mode text = Some (first_progress world text)
after_forms functions (suc n) world mode text = option_and_then (one_form_more functions mode) (after_forms functions n world mode text)

-- the line that ends a session at a refusal of the reader; empty, if the reader refuses nothing there
abbrev pub last_line : Reading → List ℕ
last_line (form object start end next) = []
last_line empty = []
last_line (refused number at) = refusal_line number
