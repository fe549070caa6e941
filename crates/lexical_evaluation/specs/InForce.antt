-- The macro functions in force: those of the program, and those of the world.
use Rattle.std.specs.Prelude.{Bool, true, false, ◌&&◌, ◌||◌, if◌then◌else◌, Option, Some, None, option_map, bytes_eq, codes, Ok, Err}
use Rattle.lisp_object.specs.Object.{Object, symbol, pair, is_nil}
use Rattle.kept_functions.specs.declared.bounds.TheConstants.{MOST_READER_CALLS, MOST_READER_STEPS}
use Rattle.lisp_object.specs.declared.refusal.TheConstants.{NOT_A_FORM}
use Rattle.package_table.specs.Table.{Name, common_lisp, keyword}
use Rattle.plist_state.specs.Properties.{Symbol}
use Rattle.plist_state.specs.State.{WorldState}
use Rattle.user_macros.specs.Calls.{MacroCall, MacroAnswer, value, no_value, refused}
use Rattle.user_macros.specs.Functions.{Functions}
use Rattle.value_functions.specs.Functions.{function_named}
use Rattle.evaluator.specs.Operators.{OperatorTable, Operator, pazturrok, operator_of_arity, takes_any, quotes, sequence, chooses, calls, deciding_operator_or, operator_of_function}
use Rattle.lisp_operators.specs.Properties.{list}
use Rattle.kept_functions.specs.Definitions.{Definition, function_in}
use Rattle.kept_functions.specs.Counting.{Point, Counting, weighing}
use Rattle.kept_functions.specs.LocalOperators.{local_operator_of, is_own_symbol}
use Rattle.kept_functions.specs.declared.local_operator.LocalOperator.{LocalOperator}
use Rattle.kept_functions.specs.declared.local_operator.LocalOperator.TheVariants.{Defun, DefineReader}
use Rattle.lexical_evaluation.specs.Values.{LexicalRules, Applied}
use Rattle.lexical_evaluation.specs.Calls.{call_at, body_value}
use Rattle.kept_functions.specs.ReaderFunctions.{ReaderDefinition, reader_function_in, names_in_force, is_lisp_name, first_values}

-- ---- What a macro function may do: it reads nothing of the world but functions, and writes nothing. So its operators are those of values,
-- those that decide, and those that bind variables and take functions.
abbrev pub silent_operator_named : Name → Option Operator
silent_operator_named name =
    if bytes_eq name (codes "QUOTE") then operator_of_arity 1 1 quotes
    else (if bytes_eq name (codes "PROGN") then takes_any sequence
    else (if bytes_eq name (codes "IF") then operator_of_arity 2 3 chooses
    else (if bytes_eq name (codes "LIST") then takes_any (calls list)
    else None)))

abbrev pub silent_operators : OperatorTable
silent_operators (symbol home name) =
    if bytes_eq home common_lisp then silent_operator_named name
    else (if bytes_eq home pazturrok then deciding_operator_or (option_map operator_of_function (function_named name)) name else None)
silent_operators _ = None

abbrev pub is_silent : LocalOperator → Bool
is_silent Defun = false
is_silent DefineReader = false
is_silent _ = true

abbrev pub silent_local : Option LocalOperator → Option LocalOperator
silent_local (Some operator) = if is_silent operator then Some operator else None
silent_local None = None

-- the constants have values, and no variable of the world has one
abbrev pub constant_value : Symbol → Point → Counting Object
constant_value x p =
    if bytes_eq x.0 keyword || (is_nil x.0 x.1 || bytes_eq x.0 common_lisp && bytes_eq x.1 (codes "T")) then weighing (symbol x.0 x.1) p false
    else Err NOT_A_FORM

abbrev pub reader_rules : (Definition → Applied) → LexicalRules
reader_rules call = record {
  table = silent_operators;
  locals = λ x. silent_local (local_operator_of x);
  global = constant_value;
  function = function_in;
  call = call;
  defined_reader = λ arguments p. Err NOT_A_FORM;
}

-- ---- what it answers
-- A body whose last form is (VALUES) gives no object, as in the standard (2.1.4.4).
abbrev pub is_no_value : Object → Bool
is_no_value (pair head (symbol home name)) = is_own_symbol (codes "VALUES") head && is_nil home name
is_no_value _ = false

abbrev pub ends_without_value : Object → Bool
ends_without_value (pair x (pair y others)) = ends_without_value (pair y others)
ends_without_value (pair x _) = is_no_value x
ends_without_value _ = false

abbrev pub answer_given : Object → Counting Object → MacroAnswer
answer_given body (Ok r) = if ends_without_value body then no_value else value r.value
answer_given body (Err code) = refused code

abbrev pub reader_answer : WorldState → ReaderDefinition → MacroCall → MacroAnswer
reader_answer s reader call =
    answer_given reader.definition.body
    (body_value (reader_rules (call_at reader_rules MOST_READER_CALLS)) reader.definition (first_values reader.definition call) (record { state = s; left = MOST_READER_STEPS }))

abbrev pub answer_or_refusal : WorldState → Option ReaderDefinition → MacroCall → MacroAnswer
answer_or_refusal s (Some reader) call = reader_answer s reader call
answer_or_refusal s None call = refused 0

-- THE MACRO FUNCTIONS IN FORCE in a world, for a program with these. No name is of both.
abbrev pub functions_in_force : Functions → WorldState → Functions
functions_in_force program s = record {
  names = names_in_force program.names s;
  way = λ name. if is_lisp_name name then option_map (λ (r : ReaderDefinition). r.way) (reader_function_in s name) else program.way name;
  answer = λ name call. if is_lisp_name name then answer_or_refusal s (reader_function_in s name) call else program.answer name call;
}
