-- What an evaluation with a stack of its own still does: of what is in hand, and of what waits for its value.
use Rattle.std.specs.Prelude.{◌≡◌, ℕ, Bool, true, false, if◌then◌else◌, List, All, [], ◌∷◌, ◌++◌, ◌-◌, suc, nat_le, reverse, take, map, Option, Some, None, Result, Ok, Err}
use Rattle.std.specs.Global.{Vec}
use Rattle.lisp_object.specs.Object.{Object, symbol, pair, nil, list_of, is_proper_list}
use Rattle.lisp_object.specs.Datum.{object_of}
use Rattle.lisp_object.specs.declared.datum.Datum.{Datum}
use Rattle.lisp_object.specs.declared.refusal.TheConstants.{NOT_A_FORM, ARGUMENT_COUNT, ARGUMENT_KIND, ASSERTION_FAILED}
use Rattle.plist_state.specs.State.{WorldState}
use Rattle.plist_state.specs.Properties.{Symbol}
use Rattle.plist_state.specs.Views.{symbol_of}
use Rattle.plist_state.specs.declared.symbol.Symbol.{Symbol as Stored}
use Rattle.lisp_operators.specs.Evaluation.{Evaluation}
use Rattle.lisp_operators.specs.ArgumentKinds.{is_true, is_pair}
use Rattle.lisp_operators.specs.Packages.{enter}
use Rattle.lisp_operators.specs.EvaluationAnswers.{IsProper, AreProper, objects}
use Rattle.lisp_operators.specs.declared.error.EvaluationError.{EvaluationError}
use Rattle.lisp_operators.specs.declared.error.EvaluationError.TheVariants.{Refused, OutOfMemory}
use Rattle.evaluator.specs.declared.operation.Operation.{Operation}
use Rattle.evaluator.specs.declared.place.PlaceForm.{PlaceForm}
use Rattle.evaluator.specs.Operators.{first}
use Rattle.evaluator.specs.Value.{has_truth, is_clause, rest}
use Rattle.kept_functions.specs.declared.environment.Binding.{Binding}
use Rattle.kept_functions.specs.Environments.{Environment, binding, variables_of}
use Rattle.kept_functions.specs.Definitions.{Definition, defun_value}
use Rattle.kept_functions.specs.KeptFunctions.{binding_shown}
use Rattle.kept_functions.specs.declared.bounds.TheConstants.{CALLS_TOO_DEEP, TOO_MANY_STEPS}
use Rattle.kept_functions.specs.Counting.{Point, Counting, here, then_on, spending, at_point, wrote_too}
use Rattle.lexical_evaluation.specs.declared.frame.Target.{Target}
use Rattle.lexical_evaluation.specs.declared.frame.Target.TheVariants.{Operation as AnOperation, Function, NamedByFirst, Written, First, Enter, Global, Define, DefineReader}
use Rattle.lexical_evaluation.specs.declared.frame.Awaiting.{Awaiting}
use Rattle.lexical_evaluation.specs.declared.frame.Awaiting.TheVariants.{Arguments, Sequence, Choice, Seek, Clause, Guard, Assert, Bind, Scope, Call}
use Rattle.lexical_evaluation.specs.declared.machine.Machine.{Machine}
use Rattle.lexical_evaluation.specs.declared.machine.NextStep.{NextStep}
use Rattle.lexical_evaluation.specs.declared.machine.NextStep.TheVariants.{Evaluate, Give, Finish}
use Rattle.lexical_evaluation.specs.Values.{LexicalRules, Applied, variable_named, named_function, written_call, last_counted, value_in, values_in, sought_value_in, selected_in, extended_in}
use Rattle.lexical_evaluation.specs.Calls.{body_value}

-- What an operator makes of the values of its arguments, where it puts a value into a place of this kind.
abbrev pub OperatorMeanings : Type 0
OperatorMeanings = Operation → PlaceForm → List Object → WorldState → Evaluation Object

-- By how many calls may still be in one another: the rules there. And what the operators do.
pub record Ways : Type 0 where
  pub rules : ℕ → LexicalRules
  pub does : OperatorMeanings

-- ---- how data are kept
-- forms with the next one last, as a list of forms
abbrev pub to_come : List Datum → Object
to_come forms = list_of (map object_of (reverse forms))

-- variables with the innermost last
abbrev pub variables_seen : List Binding → Environment
variables_seen bindings = map binding_shown (reverse bindings)

-- a list, by its first item and what is behind it
pub record ComesApart (x : Object) (first : Datum) (others : List Datum) : Type 0 where
  pub object : x ≡ pair (object_of first) (to_come others)
  pub list : is_proper_list (to_come others) ≡ true
  pub first_proper : IsProper first
  pub others_proper : AreProper others

-- A list came apart, by its first item and what is behind it; or it is no list that has an item and ends in NIL.
abbrev pub IsHeaded : Datum → Option (Datum × Vec Datum) → Type 0
IsHeaded list (Some parts) = ComesApart (object_of list) parts.0 parts.1.items
IsHeaded list None = is_clause (object_of list) ≡ false

-- ---- what comes of a value, by what waits for it
abbrev pub progn_in : LexicalRules → Environment → Object → Point → Counting Object
progn_in rules around forms p = last_counted (values_in rules around p forms)

-- IF, where its test is true or not
abbrev pub chosen_in : LexicalRules → Environment → Bool → List Object → Point → Counting Object
chosen_in rules around true (x ∷ others) p = value_in rules around p x
chosen_in rules around false (x ∷ y ∷ others) p = value_in rules around p y
chosen_in rules around _ _ p = here nil p

-- AND and OR, where a form has this value and these are to come
abbrev pub sought_after : LexicalRules → Environment → Bool → Object → Object → Point → Counting Object
sought_after rules around truth y forms p =
    if has_truth truth y then here y p else (if is_pair forms then sought_value_in rules around truth p forms else here y p)

-- COND, where the test of a clause with these forms has this value
abbrev pub clause_in : LexicalRules → Environment → Object → Object → Object → Point → Counting Object
clause_in rules around y forms others p =
    if is_true y then (if is_pair forms then progn_in rules around forms p else here y p) else selected_in rules around p others

-- WHEN and UNLESS, where the test has this value
abbrev pub guard_in : LexicalRules → Environment → Bool → Object → Object → Point → Counting Object
guard_in rules around truth y forms p = if has_truth truth y then progn_in rules around forms p else here nil p

abbrev pub asserted_in : Object → Point → Counting Object
asserted_in y p = if is_true y then here nil p else Err ASSERTION_FAILED

-- a binding, by its variable and its form
abbrev pub binding_parts : Object → Option (Symbol × Object)
binding_parts (pair x (pair form others)) = if is_proper_list others then Some (variable_named x, form) else None
binding_parts _ = None

abbrev pub parts_shown : Stored × Datum → Symbol × Object
parts_shown parts = (symbol_of parts.0, object_of parts.1)

-- LET and LET*, where bindings are to come, and these variables are there already
abbrev pub bound_then : LexicalRules → Bool → Environment → Environment → Object → Object → Point → Counting Object
bound_then rules in_turn around inner bindings forms p =
    then_on (extended_in rules in_turn around inner p bindings) (λ all later. progn_in rules all forms later)

-- a function that a form writes down: its variables, and then its forms
abbrev pub written_of : LexicalRules → Environment → Object → Object → Option (List Symbol) → Applied
written_of rules around parts body (Some variables) xs p = written_call parts variables (λ inner later. progn_in rules inner body later) around xs p
written_of rules around parts body None xs p = Err ARGUMENT_KIND

abbrev pub written_in : LexicalRules → Environment → Object → Applied
written_in rules around (pair variables body) xs p = written_of rules around (pair variables body) body (variables_of variables) xs p
written_in rules around _ xs p = Err ARGUMENT_COUNT

-- the function that the first value names, of the others
abbrev pub named_by_first : LexicalRules → Applied
named_by_first rules (x ∷ xs) p = named_function rules x xs p
named_by_first rules [] p = Err ARGUMENT_COUNT

abbrev pub global_value : LexicalRules → Applied
global_value rules (symbol home name ∷ xs) p = rules.global (home, name) p
global_value rules _ p = Err NOT_A_FORM

-- what is done with the values of arguments
abbrev pub finished_in : LexicalRules → OperatorMeanings → Environment → Target → Applied
finished_in rules does around (AnOperation operation place steps) xs p = spending steps p (λ later. at_point later (does operation place xs later.state))
finished_in rules does around (Function x) xs p = named_function rules (object_of x) xs p
finished_in rules does around NamedByFirst xs p = named_by_first rules xs p
finished_in rules does around (Written parts) xs p = written_in rules around (list_of (objects parts.items)) xs p
finished_in rules does around First xs p = here (first (list_of xs)) p
finished_in rules does around Enter xs p = at_point p (enter (first (list_of xs)) p.state)
finished_in rules does around Global xs p = global_value rules xs p
finished_in rules does around Define xs p = at_point p (defun_value (first (list_of xs)) (rest (list_of xs)) p.state)
finished_in rules does around DefineReader xs p = rules.defined_reader (list_of xs) p

-- what comes of a target, where there are these values, and those of these forms are to come
abbrev pub gathered_in : LexicalRules → OperatorMeanings → Environment → Target → List Object → Object → Point → Counting Object
gathered_in rules does around target xs forms p = then_on (values_in rules around p forms) (λ ys end'. finished_in rules does around target (xs ++ ys) end')

-- what comes of a value by the innermost that waits
abbrev pub value_given : LexicalRules → OperatorMeanings → Environment → Awaiting → Object → Point → Counting Object
value_given rules does around (Arguments target forms values) y p = gathered_in rules does around target (objects values.items ++ y ∷ []) (to_come forms.items) p
value_given rules does around (Sequence forms) y p = progn_in rules around (to_come forms.items) p
value_given rules does around (Choice forms) y p = chosen_in rules around (is_true y) (map object_of (reverse forms.items)) p
value_given rules does around (Seek truth forms) y p = sought_after rules around truth y (to_come forms.items) p
value_given rules does around (Clause forms others) y p = clause_in rules around y (to_come forms.items) (to_come others.items) p
value_given rules does around (Guard truth forms) y p = guard_in rules around truth y (to_come forms.items) p
value_given rules does around Assert y p = asserted_in y p
value_given rules does around (Bind in_turn x others made forms) y p =
    bound_then rules in_turn around ((symbol_of x, y) ∷ (variables_seen made.items ++ around)) (to_come others.items) (to_come forms.items) p
value_given rules does around (Scope length) y p = here y p
value_given rules does around (Call before deeper) y p = here y p

-- the variables that are seen once it has its value, and how many calls may be in one another there
abbrev pub bindings_after : Awaiting → List Binding → List Binding
bindings_after (Scope length) bindings = take length bindings
bindings_after (Call before deeper) bindings = before.items
bindings_after _ bindings = bindings

abbrev pub deeper_after : Awaiting → ℕ → ℕ
deeper_after (Call before deeper) n = deeper
deeper_after _ n = n

-- what comes of a value by all that waits, the innermost first
abbrev pub continued : Ways → ℕ → List Awaiting → List Binding → Counting Object → Counting Object
continued w n [] bindings o = o
continued w n (frame ∷ frames) bindings o =
    continued w (deeper_after frame n) frames (bindings_after frame bindings) (then_on o (value_given (w.rules n) w.does (variables_seen bindings) frame))

-- ---- a step
-- the variables that are seen, and how many steps are left, in a state
abbrev pub around : Machine → Environment
around m = variables_seen m.bindings.items

abbrev pub point_of : Machine → WorldState → Point
point_of m s = record { state = s; left = m.left }

-- what comes of this, which is in hand
abbrev pub comes_to : Ways → Machine → Counting Object → Counting Object
comes_to w m o = wrote_too m.wrote (continued w m.deeper (reverse m.frames.items) m.bindings.items o)

-- what comes of what is done next
abbrev pub next_value : Ways → WorldState → Machine → NextStep → Counting Object
next_value w s m (Evaluate form) = value_in (w.rules m.deeper) (around m) (point_of m s) (object_of form)
next_value w s m (Give value) = here (object_of value) (point_of m s)
next_value w s m (Finish target values) = finished_in (w.rules m.deeper) w.does (around m) target (objects values.items) (point_of m s)

-- What is done next comes to this; or this is the refusal. Where memory ran out it says nothing.
abbrev pub ComesOn : Ways → WorldState → Counting Object → Machine → Result NextStep EvaluationError → Type 0
ComesOn w s o m (Ok next) = o ≡ comes_to w m (next_value w s m next)
ComesOn w s o m (Err (Refused code)) = o ≡ Err code
ComesOn w s o m (Err OutOfMemory) = Unit {0}

-- A step keeps what comes of it all, where this was to be done, from the first of two states to the second.
abbrev pub KeepsOutcome : Ways → WorldState → WorldState → Machine → Machine → Result NextStep EvaluationError → (LexicalRules → Environment → Point → Counting Object) → Type 0
KeepsOutcome w s t old new result meaning = ComesOn w t (comes_to w old (meaning (w.rules old.deeper) (around old) (point_of old s))) new result

-- what comes of this by all that waits, where this frame was the innermost
abbrev pub comes_after : Ways → Machine → Awaiting → Counting Object → Counting Object
comes_after w m frame o = wrote_too m.wrote (continued w (deeper_after frame m.deeper) (reverse m.frames.items) (bindings_after frame m.bindings.items) o)

-- a value goes on to what waited for it
abbrev pub Resumes : Machine → Machine → Awaiting → Object → Result NextStep EvaluationError → Type 0
Resumes old new frame y result = (w : Ways) (s : WorldState)
    → ComesOn w s (comes_after w old frame (value_given (w.rules old.deeper) w.does (around old) frame y (point_of old s))) new result

-- of clauses and bindings that are to come it is known that they are proper
abbrev pub IsProperFrame : Awaiting → Type 0
IsProperFrame (Clause forms others) = AreProper others.items
IsProperFrame (Bind in_turn x others made forms) = AreProper others.items
IsProperFrame _ = Unit {0}

-- so many steps are taken, where they are left
abbrev pub Spends : ℕ → Machine → Machine → Result Unit EvaluationError → Type 0
Spends n old new (Ok _) = (nat_le n old.left ≡ true) × (new ≡ record old { left = old.left - n })
Spends n old new (Err (Refused code)) = (nat_le n old.left ≡ false) × (code ≡ TOO_MANY_STEPS)
Spends n old new (Err OutOfMemory) = ⊥

-- what is in hand comes to the same in both machines, and the later one sees these variables too
pub record SeesMore (old new : Machine) (made : List Binding) : Type 0 where
  pub same : (w : Ways) (o : Counting Object) → comes_to w old o ≡ comes_to w new o
  pub environment : around new ≡ variables_seen made ++ around old
  pub left : new.left ≡ old.left
  pub deeper : new.deeper ≡ old.deeper

-- What is in hand comes to the same in both machines. The later one sees these variables alone, and a call less may be in one another.
pub record Enters (old new : Machine) (made : List Binding) : Type 0 where
  pub same : (w : Ways) (o : Counting Object) → comes_to w old o ≡ comes_to w new o
  pub environment : around new ≡ variables_seen made
  pub left : new.left ≡ old.left
  pub deeper : old.deeper ≡ suc new.deeper

-- The body of a function goes on, under its own variables alone, where a call less may be in one another.
abbrev pub RunsBody : Machine → Machine → Result NextStep EvaluationError → Definition → List Object → Type 0
RunsBody old new result definition xs = (w : Ways) (s : WorldState)
    → ComesOn w s (comes_to w old (progn_in (w.rules (old.deeper - 1)) (binding definition.variables xs []) definition.body (point_of old s))) new result

-- a call has the value of the body, by the rules of one call less
pub record IsCalling (w : Ways) : Type 0 where
  pub none : (definition : Definition) (xs : List Object) (p : Point) → (w.rules 0).call definition xs p ≡ Err CALLS_TOO_DEEP
  pub more : (n : ℕ) (definition : Definition) (xs : List Object) (p : Point) → (w.rules (suc n)).call definition xs p ≡ body_value (w.rules n) definition xs p

-- a step that asks nothing of the world goes on by all rules and in each state
abbrev pub StepsOn : Machine → Machine → Result NextStep EvaluationError → (OperatorMeanings → LexicalRules → Environment → Point → Counting Object) → Type 0
StepsOn old new result meaning = (w : Ways) (s : WorldState) → KeepsOutcome w s s old new result (meaning w.does)

-- the value of each variable is proper
abbrev pub AreProperBindings : Machine → Type 0
AreProperBindings m = All (λ b. IsProper b.value) m.bindings.items
