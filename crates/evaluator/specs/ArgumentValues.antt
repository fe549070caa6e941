-- Forms that are evaluated one after the other, and what an operator makes of their values.
use Rattle.std.specs.Borrow.{Bor}
use Rattle.std.specs.Prelude.{◌≡◌, ◌≤◌, ℕ, Bool, true, false, if◌then◌else◌, List, [], ◌∷◌, ◌++◌, length, map, Option, Some, None, Result, Ok, Err}
use Rattle.lisp_object.specs.Object.{Object, nil, list_of, is_proper_list, symbol, pair}
use Rattle.package_table.specs.Table.{Name}
use Rattle.plist_state.specs.State.{WorldState}
use Rattle.lisp_operators.specs.declared.error.EvaluationError.{EvaluationError}
use Rattle.lisp_operators.specs.declared.error.EvaluationError.TheVariants.{Refused, OutOfMemory}
use Rattle.lisp_object.specs.declared.refusal.TheConstants.{ARGUMENT_KIND, ASSERTION_FAILED}
use Rattle.lisp_object.specs.Datum.{object_of}
use Rattle.lisp_object.specs.declared.datum.Datum
use Rattle.lisp_object.specs.declared.datum.Datum.{Datum}
use Rattle.lisp_operators.specs.declared.evaluated.Evaluated.{Evaluated}
use Rattle.lisp_operators.specs.EvaluationAnswers.{Answers, done, objects}
use Rattle.lisp_operators.specs.Evaluation.{Done}
use Rattle.evaluator.specs.declared.values.Values.{Values}
use Rattle.evaluator.specs.declared.operation.Operation.{Operation}
use Rattle.evaluator.specs.declared.operation.Operation.TheVariants.{Setf, Incf, Push, Changes}
use Rattle.evaluator.specs.declared.place.PlaceForm.{PlaceForm}
use Rattle.evaluator.specs.declared.place.PlaceForm.TheVariants.{Property, PropertyOr, Case, ReadBase}
use Rattle.lisp_operators.specs.Evaluation.{Evaluation, gives, also, and_then}
use Rattle.lisp_operators.specs.ArgumentKinds.{is_true}
use Rattle.lisp_operators.specs.Properties.{list}
use Rattle.evaluator.specs.declared.wanted.ValueUse.{ValueUse}
use Rattle.evaluator.specs.declared.wanted.EvaluationTask.{EvaluationTask}
use Rattle.evaluator.specs.StandIns.{seen}
use Rattle.evaluator.specs.Operators.{count, first}
use Rattle.evaluator.specs.Operations.{action_of}
use Rattle.evaluator.specs.Value.{Parts, is_clause, are_clauses, last, value, values, choice, other_value, sought, selected, guarded, values_at_place, values_before_place, action_value, place_refusal, get_place_refusal, is_base_place, is_case_place, rest, default_place_refusal, has_default}

-- values that leave this state
abbrev pub all_done : Values → WorldState → Done (List Object)
all_done v s = record { value = map object_of v.values.items; state = s; wrote = v.wrote }

-- the arguments of a form, of the list of what is in it
abbrev pub arguments_of : List Object → Object
arguments_of [] = nil
arguments_of (x ∷ xs) = list_of xs

-- the arguments of a form, of the data of which it is the list; the first of them is the operator
abbrev pub arguments_in : List Datum → Object
arguments_in items = arguments_of (objects items)

-- what the arguments of a form give
abbrev pub parts : List Name → WorldState → Object → Parts
parts names s arguments = record {
  in_order = values names s arguments;
  chosen = choice names s arguments;
  at_place = values_at_place names s arguments;
  before_place = values_before_place names s arguments;
  first_one = other_value names s arguments;
  sought = λ truth. sought names truth s arguments;
  selected = selected names s arguments;
  guarded = λ truth. guarded names truth s arguments;
}

-- what a form with this operator gives
abbrev pub operation_value : List Name → Operation → Object → WorldState → Evaluation Object
operation_value names operation arguments s = action_value s (action_of names operation) arguments (parts names s arguments)

-- The value of a form is told, from the first of two states to the second; and a value that leaves every state as it is.
abbrev pub Evaluates : List Name → Object → WorldState → WorldState → Result Evaluated EvaluationError → Type 0
Evaluates names x old new result = Answers done result new (value names old x)

-- The value of a form is told so far as it is asked for, from the first of two states to the second.
abbrev pub EvaluatesFor : ValueUse → List Name → Object → WorldState → WorldState → Result Evaluated EvaluationError → Type 0
EvaluatesFor wanted names x old new result = Answers done result new (seen wanted (value names old x))

-- an operator with these items was carried out as `operation_value` says
abbrev pub Operates : List Name → EvaluationTask → List Datum → WorldState → WorldState → Result Evaluated EvaluationError → Type 0
Operates names task items old new result =
    Answers done result new (seen task.wanted (operation_value names task.operation (arguments_in items) old))

-- the value of forms one after the other: that of the last
abbrev pub sequence_value : List Name → WorldState → Object → Evaluation Object
sequence_value names s forms = and_then (values names s forms) (λ xs later. gives (last xs) later)

-- the list of the values of forms
abbrev pub list_of_values : List Name → WorldState → Object → Evaluation Object
list_of_values names s forms = and_then (values names s forms) list

-- the value is this one, in whatever state, which stays
abbrev pub HasValue : Object → Result Evaluated EvaluationError → Type 0
HasValue x result = (s : WorldState) → Answers done result s (gives x s)

-- the values of forms after these values, where whether those wrote is known
abbrev pub values_after : List Name → List Object → Bool → WorldState → Object → Evaluation (List Object)
values_after names xs wrote s forms = also wrote (and_then (values names s forms) (λ ys end'. gives (xs ++ ys) end'))

-- The values of the subforms of a place after these values, where whether those wrote is known; a symbol has no subforms.
abbrev pub subforms : List Name → List Object → Bool → WorldState → Object → Evaluation (List Object)
subforms names xs wrote s (pair operator forms) = values_after names xs wrote s forms
subforms names xs wrote s (symbol home name) = Ok (record { value = xs; state = s; wrote = wrote })
subforms names xs wrote s _ = Err ARGUMENT_KIND

-- COND of these clauses
abbrev pub conditional : List Name → WorldState → Object → Evaluation Object
conditional names s forms = if are_clauses forms then selected names s forms else Err ARGUMENT_KIND

-- PROG1: the first value of these forms
abbrev pub first_value : List Name → WorldState → Object → Evaluation Object
first_value names s forms = and_then (values names s forms) (λ xs later. gives (first (list_of xs)) later)

-- ASSERT, where this is what the test gives
abbrev pub asserted : Evaluation Object → Evaluation Object
asserted test = and_then test (λ x later. if is_true x then gives nil later else Err ASSERTION_FAILED)

-- what an operator takes of these
abbrev pub gathered : List Name → WorldState → Operation → Object → Evaluation (List Object)
gathered names s Setf arguments = values_at_place names s arguments
gathered names s Incf arguments = values_at_place names s arguments
gathered names s Push arguments = values_before_place names s arguments
gathered names s (Changes operator) arguments = values_at_place names s arguments
gathered names s _ arguments = values names s arguments

-- why the place of an operator is none
abbrev pub refusal_of_place : Operation → Object → Option ℕ
refusal_of_place Setf arguments = place_refusal (first arguments)
refusal_of_place Incf arguments = get_place_refusal (first arguments)
refusal_of_place Push arguments = get_place_refusal (first (rest arguments))
refusal_of_place (Changes operator) arguments = default_place_refusal (first arguments)
refusal_of_place _ arguments = None

-- what a list names that is a place for SETF, and what any place names
abbrev pub list_place : Object → PlaceForm
list_place place = if is_case_place place then Case else Property

-- what SETF puts a value into: the read base, or what a list names
abbrev pub setf_place : Object → PlaceForm
setf_place place = if is_base_place place then ReadBase else list_place place

-- a property, with a default or without
abbrev pub property_place : Object → PlaceForm
property_place place = if has_default place then PropertyOr else Property

-- What an operator puts a value into. All but SETF know properties alone.
abbrev pub place_form_of : Operation → Object → PlaceForm
place_form_of Setf arguments = setf_place (first arguments)
place_form_of (Changes operator) arguments = property_place (first arguments)
place_form_of _ arguments = Property

-- nothing is refused, or this is the number of the refusal
abbrev pub RefusesIfSome : {A : Type 0} → Option ℕ → Result A EvaluationError → Type 0
RefusesIfSome refusal (Ok _) = refusal ≡ None
RefusesIfSome refusal (Err (Refused code)) = refusal ≡ Some code
RefusesIfSome refusal (Err OutOfMemory) = ⊥

-- What is at the head of a form of so many arguments: an operator that takes them, or the reason for which the form has no
-- value.
abbrev pub IsOperatorHead : List Name → Object → ℕ → Result Operation EvaluationError → Type 0
IsOperatorHead names head n (Ok operation) = (s : WorldState) (arguments : Object) → is_proper_list arguments ≡ true → count arguments ≡ n
    → value names s (pair head arguments) ≡ action_value s (action_of names operation) arguments (parts names s arguments)
IsOperatorHead names head n (Err (Refused code)) = (s : WorldState) (arguments : Object) → is_proper_list arguments ≡ true → count arguments ≡ n
    → value names s (pair head arguments) ≡ Err code
IsOperatorHead names head n (Err OutOfMemory) = ⊥

-- what is in a datum that is a clause of COND, where it is one
abbrev pub IsClause : Datum → Option (Bor (List Datum)) → Type 0
IsClause form (Some items) = (form ≡ Datum.List items.now None) × (1 ≤ length items.now)
IsClause form None = is_clause (object_of form) ≡ false
