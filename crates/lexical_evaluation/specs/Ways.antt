-- The rules of forms, as the machine has them: what is at the head of a form, and what operators do.
use Rattle.std.specs.Prelude.{◌≡◌, Bool, true, false, ◌&&◌, ◌||◌, if◌then◌else◌, List, Result, Ok, Err, codes}
use Rattle.lisp_object.specs.Object.{Object, list_of, pair, is_proper_list}
use Rattle.lisp_object.specs.Datum.{object_of}
use Rattle.lisp_object.specs.declared.datum.Datum.{Datum}
use Rattle.package_table.specs.Table.{Name}
use Rattle.plist_state.specs.State.{WorldState}
use Rattle.lisp_operators.specs.Evaluation.{Evaluation}
use Rattle.lisp_operators.specs.EvaluationAnswers.{IsProper, AreProper, objects}
use Rattle.lisp_operators.specs.Properties.{list}
use Rattle.lisp_operators.specs.declared.error.EvaluationError.{EvaluationError}
use Rattle.lisp_operators.specs.declared.error.EvaluationError.TheVariants.{Refused, OutOfMemory}
use Rattle.evaluator.specs.declared.operation.Operation.{Operation}
use Rattle.evaluator.specs.declared.operation.Operation.TheVariants.{MakeList, Computes}
use Rattle.evaluator.specs.declared.place.PlaceForm.{PlaceForm}
use Rattle.evaluator.specs.Operators.{Action, calls, computed, first, is_interned, is_standard}
use Rattle.evaluator.specs.Operations.{operator, function_of_operation}
use Rattle.evaluator.specs.Value.{is_clause, are_clauses}
use Rattle.kept_functions.specs.Environments.{Environment}
use Rattle.kept_functions.specs.Counting.{Point, Counting, here, then_on}
use Rattle.lexical_evaluation.specs.declared.machine.head.FormHead.{FormHead}
use Rattle.lexical_evaluation.specs.declared.machine.head.FormHead.TheVariants.{Operator, Local, Function, Unknown}
use Rattle.lexical_evaluation.specs.declared.machine.applying.Callee.{Callee}
use Rattle.lexical_evaluation.specs.declared.machine.applying.Callee.TheVariants.{Written, Named, Valued}
use Rattle.lexical_evaluation.specs.Values.{LexicalRules, FormParts, Head, an_operator, a_local, a_function, unknown, values_in, choice_in, values_at_place_in, values_before_place_in, other_value_in, sought_value_in, selected_in, guarded_in, bound_in, applied_in, named_function, function_in_form, lambda_in, quoted_function_in, Applied}
use Rattle.lisp_object.specs.declared.refusal.TheConstants.{ARGUMENT_KIND}
use Rattle.kept_functions.specs.LocalOperators.{is_own_symbol}
use Rattle.lexical_evaluation.specs.Calls.{rules_with, call_at}
use Rattle.lexical_evaluation.specs.Machine.{Ways, written_in}

-- what an operator makes of these values
abbrev pub performed : List Name → Operation → PlaceForm → List Object → WorldState → Evaluation Object
performed names MakeList place xs s = list xs s
performed names (Computes function) place xs s = computed function xs s
performed names operation place xs s = function_of_operation names operation place xs s

abbrev pub ways : List Name → Ways
ways names = record {
  rules = λ n. rules_with names (call_at (rules_with names) n);
  does = performed names;
}

-- whether an operator is a function of the values of its arguments, and has no rule of its own for these
abbrev pub is_call : Action → Bool
is_call (calls function) = true
is_call _ = false

-- what is at the head of a form
abbrev pub head_shown : List Name → FormHead → Head
head_shown names (Operator operation) = an_operator (operator names operation)
head_shown names (Local local) = a_local local
head_shown names Function = a_function
head_shown names Unknown = unknown

-- the first of the items of a form
abbrev pub head_in : List Datum → Object
head_in items = first (list_of (objects items))

-- what may be a place: a list that ends in NIL, or a symbol
abbrev pub may_be_place : Object → Bool
may_be_place x = is_clause x || is_interned x

-- what the arguments of a form give
abbrev pub parts_in : LexicalRules → Environment → Point → Object → FormParts
parts_in rules around p arguments = record {
  in_order = values_in rules around p arguments;
  chosen = choice_in rules around p arguments;
  at_place = values_at_place_in rules around p arguments;
  before_place = values_before_place_in rules around p arguments;
  first_one = other_value_in rules around p arguments;
  sought = λ truth. sought_value_in rules around truth p arguments;
  selected = selected_in rules around p arguments;
  guarded = λ truth. guarded_in rules around truth p arguments;
  binds = λ in_turn. bound_in rules around in_turn p arguments;
  applied = applied_in rules around p arguments;
}

-- COND of these forms, where this is what they give as clauses
abbrev pub selected_of : Object → Counting Object → Counting Object
selected_of forms selected = if are_clauses forms then selected else Err ARGUMENT_KIND

-- ---- the function that a form stands for
-- a list that ends in NIL, with LAMBDA or FUNCTION at its head
abbrev pub is_headed_by_lambda : Object → Bool
is_headed_by_lambda (pair head arguments) = is_own_symbol (codes "LAMBDA") head && is_proper_list arguments
is_headed_by_lambda _ = false

abbrev pub is_headed_by_function : Object → Bool
is_headed_by_function (pair head arguments) = is_standard (codes "FUNCTION") head && is_proper_list arguments
is_headed_by_function _ = false

-- what a form does that is told so: it writes a function down, or names one by its symbol
abbrev pub TellsFunction : Result Callee EvaluationError → (LexicalRules → Environment → Point → Counting Applied) → Type 0
TellsFunction (Ok (Written parts)) f =
    AreProper parts.items × ((rules : LexicalRules) (around : Environment) (p : Point) → f rules around p ≡ here (written_in rules around (list_of (objects parts.items))) p)
TellsFunction (Ok (Named name)) f =
    IsProper name × ((rules : LexicalRules) (around : Environment) (p : Point) → f rules around p ≡ here (named_function rules (object_of name)) p)
TellsFunction (Ok (Valued form)) f = ⊥
TellsFunction (Err (Refused code)) f = (rules : LexicalRules) (around : Environment) (p : Point) → f rules around p ≡ Err code
TellsFunction (Err OutOfMemory) f = ⊥

-- LAMBDA, and FUNCTION, of these arguments
abbrev pub IsWritten : Object → Result Callee EvaluationError → Type 0
IsWritten arguments result = TellsFunction result (λ rules around p. lambda_in rules around p arguments)

abbrev pub IsQuoted : Object → Result Callee EvaluationError → Type 0
IsQuoted arguments result = TellsFunction result (λ rules around p. quoted_function_in rules around p arguments)

-- The function that a form stands for, where its value is known: it is told, or the value of the form names it.
abbrev pub IsCallee : Object → Result Callee EvaluationError → Type 0
IsCallee x (Ok (Valued form)) =
    (object_of form ≡ x)
    × ((rules : LexicalRules) (around : Environment) (p : Point) (plain : Counting Object) → function_in_form rules around p x plain ≡ then_on plain (λ y later. here (named_function rules y) later))
IsCallee x result = (plain : Counting Object) → TellsFunction result (λ rules around p. function_in_form rules around p x plain)
