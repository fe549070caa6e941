-- Calls of functions of the world: how deep they are in one another, and the value of a form that has them.
use Rattle.std.specs.Prelude.{ℕ, zero, suc, ◌==◌, if◌then◌else◌, List, [], length, Ok, Err}
use Rattle.lisp_object.specs.Object.{Object}
use Rattle.lisp_object.specs.declared.refusal.TheConstants.{ARGUMENT_COUNT}
use Rattle.kept_functions.specs.declared.bounds.TheConstants.{CALLS_TOO_DEEP, MOST_CALLS, MOST_STEPS}
use Rattle.package_table.specs.Table.{Name}
use Rattle.plist_state.specs.State.{WorldState}
use Rattle.lisp_operators.specs.Evaluation.{Evaluation}
use Rattle.evaluator.specs.Operators.{operator_of}
use Rattle.evaluator.specs.Value.{value, symbol_value}
use Rattle.evaluator.specs.FormsGivenBack.{asks_for_functions}
use Rattle.kept_functions.specs.Environments.{binding}
use Rattle.kept_functions.specs.Definitions.{Definition, function_in}
use Rattle.kept_functions.specs.Counting.{spending, weight, at_point, without_count}
use Rattle.kept_functions.specs.LocalOperators.{local_operator_of}
use Rattle.lexical_evaluation.specs.Values.{LexicalRules, Applied, last_counted, value_in, values_in}
use Rattle.kept_functions.specs.ReaderFunctions.{reader_defined}

-- the body of a function under its own variables alone: it does not see those of who calls it
abbrev pub body_value : LexicalRules → Definition → Applied
body_value rules definition xs p =
    if length definition.variables == length xs
    then spending (weight definition.body) p (λ begun. last_counted (values_in rules (binding definition.variables xs []) begun definition.body))
    else Err ARGUMENT_COUNT

-- the rules of a form, where a call gives this
abbrev pub rules_with : List Name → (Definition → Applied) → LexicalRules
rules_with names call = record {
  table = operator_of names;
  locals = local_operator_of;
  global = λ x p. at_point p (symbol_value x.0 x.1 p.state);
  function = function_in;
  call = call;
  defined_reader = λ arguments p. at_point p (reader_defined arguments p.state);
}

-- a call that has so many calls below it at most, by rules that take what a call gives
unfoldable pub call_at : ((Definition → Applied) → LexicalRules) → ℕ → Definition → Applied
call_at rules zero definition xs p = Err CALLS_TOO_DEEP
call_at rules (suc n) definition xs p = body_value (rules (call_at rules n)) definition xs p

abbrev pub rules_of : List Name → LexicalRules
rules_of names = rules_with names (call_at (rules_with names) MOST_CALLS)

-- the value of a form in the language with functions
abbrev pub lexical_value : List Name → WorldState → Object → Evaluation Object
lexical_value names s x = without_count (value_in (rules_of names) [] (record { state = s; left = MOST_STEPS }) x)

-- the first, or the second where the first is refused for want of a function
abbrev pub or_with_functions : Evaluation Object → Evaluation Object → Evaluation Object
or_with_functions (Ok d) other = Ok d
or_with_functions (Err code) other = if asks_for_functions code then other else Err code

-- THE VALUE OF A FORM: that of the language without functions; where this asks for functions, that of the language with them,
-- from the beginning.
abbrev pub value_with_functions : List Name → WorldState → Object → Evaluation Object
value_with_functions names s x = or_with_functions (value names s x) (lexical_value names s x)
