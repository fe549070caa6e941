-- FORGET-NAMES, which is no operator: as a whole form it takes the names away that nothing needs.
use Rattle.std.specs.Prelude.{ℕ, Bool, false, ◌&&◌, if◌then◌else◌, nat_lt, pos, List, [], ◌∷◌, length, Ok, bytes_eq, codes}
use Rattle.lisp_object.specs.Object.{Object, integer, symbol, pair, is_nil}
use Rattle.package_table.specs.Table.{Name, common_lisp_user}
use Rattle.plist_state.specs.Properties.{Symbol}
use Rattle.plist_state.specs.State.{WorldState}
use Rattle.lisp_operators.specs.Evaluation.{Evaluation}
use Rattle.evaluator.specs.Operators.{pazturrok}
use Rattle.form_eval.specs.Acceptance.{question_value}
use Rattle.forgotten_names.specs.WorldsWithoutNames.{forgettable, without_unneeded_symbols}

-- the symbols that stay in any case: that of the position of messages, which a round takes out of the property lists before each message
abbrev pub held_symbols : List Symbol
held_symbols = (common_lisp_user, codes "position") ∷ []

-- the symbol FORGET-NAMES of PAZTURROK
abbrev pub forget_names : Object
forget_names = symbol pazturrok (codes "FORGET-NAMES")

-- whether an object is that symbol
abbrev pub is_forget_names : Object → Bool
is_forget_names (symbol home name) = bytes_eq home pazturrok && bytes_eq name (codes "FORGET-NAMES")
is_forget_names _ = false

-- whether an object is NIL
abbrev pub is_nothing : Object → Bool
is_nothing (symbol home name) = is_nil home name
is_nothing _ = false

-- whether a form is FORGET-NAMES without arguments
abbrev pub is_forgetting : Object → Bool
is_forgetting (pair head arguments) = is_forget_names head && is_nothing arguments
is_forgetting _ = false

-- how many symbols nothing needs
abbrev pub forgettable_count : WorldState → ℕ
forgettable_count s = length (forgettable held_symbols s)

-- These go, and how many they are is the value. It wrote if there are any.
abbrev pub forgetting : WorldState → Evaluation Object
forgetting s = Ok (record {
  value = integer (pos (forgettable_count s));
  state = without_unneeded_symbols held_symbols s;
  wrote = nat_lt 0 (forgettable_count s);
})

-- As a question it has the same value, and would write if there are any.
abbrev pub counting : WorldState → Evaluation Object
counting s = Ok (record { value = integer (pos (forgettable_count s)); state = s; wrote = nat_lt 0 (forgettable_count s) })

-- the value of a question, with that of this form
abbrev pub question_in_force : List Name → WorldState → Object → Evaluation Object
question_in_force names s x = if is_forgetting x then counting s else question_value names s x
