-- Evaluation in a lexical environment (standard 3.1.2.1), by cases on the form. What a call of a function of the world gives is
-- handed in (`LexicalRules`), so each form is taken apart here, and no body of a function is.
use Rattle.std.specs.Prelude.{ℕ, ◌==◌, Bool, true, false, ◌&&◌, not, if◌then◌else◌, List, [], ◌∷◌, ◌++◌, length, Option, Some, None, Err, codes, bytes_eq, is_some, unwrap_or}
use Rattle.lisp_object.specs.Object.{Object, symbol, uninterned, pair, nil, list_of, is_proper_list}
use Rattle.lisp_object.specs.declared.refusal.TheConstants.{NOT_A_FORM, UNKNOWN_OPERATOR, ARGUMENT_COUNT, ARGUMENT_KIND, ASSERTION_FAILED}
use Rattle.kept_functions.specs.declared.bounds.TheConstants.{PACKAGE_STEPS}
use Rattle.std.specs.List.{list_any, list_all}
use Rattle.std.specs.Option.{option_map_or}
use Rattle.package_table.specs.Table.{common_lisp}
use Rattle.plist_state.specs.Properties.{Symbol}
use Rattle.plist_state.specs.State.{WorldState}
use Rattle.lisp_operators.specs.Evaluation.{Evaluation}
use Rattle.lisp_operators.specs.ArgumentKinds.{a_symbol, is_true, is_pair}
use Rattle.lisp_operators.specs.Properties.{t, increment, push}
use Rattle.lisp_operators.specs.Packages.{enter}
use Rattle.value_functions.specs.Sequences.{items_of}
use Rattle.evaluator.specs.Operators.{Operator, Action, quotes, sequence, chooses, assigns, increments, pushes, enters_package, calls, seeks, selects, guards, keeps_first, asserts, changes, OperatorTable, is_standard, is_interned, count, counts, first, pazturrok}
use Rattle.evaluator.specs.Value.{last, has_truth, are_clauses, has_default, rest, place_refusal, get_place_refusal, default_place_refusal, set_place_by}
use Rattle.kept_functions.specs.Environments.{Environment, bound, binding, a_variable, variables_of}
use Rattle.kept_functions.specs.Definitions.{Definition, defun_value}
use Rattle.kept_functions.specs.Counting.{Point, Counting, here, then_on, spending, weight, weighing, at_point}
use Rattle.kept_functions.specs.LocalOperators.{is_own_symbol, takes_so_many}
use Rattle.kept_functions.specs.declared.local_operator.LocalOperator.{LocalOperator}
use Rattle.kept_functions.specs.declared.local_operator.LocalOperator.TheVariants.{Let, LetInTurn, Funcall, Sweeps, GivesValues, Defun, DefineReader}

-- a function, as what it makes of values
abbrev pub Applied : Type 0
Applied = List Object → Point → Counting Object

-- What evaluation rests on.
pub record LexicalRules : Type 0 where
  -- which objects are operators, and which of those that bind, take functions or define are known
  pub table : OperatorTable
  pub locals : Object → Option LocalOperator
  -- the value of a symbol that no form around it binds
  pub global : Symbol → Point → Counting Object
  -- the function of a symbol in a state, and what a call of a function gives
  pub function : WorldState → Symbol → Option Definition
  pub call : Definition → Applied
  -- DEFINE-READER, of its arguments as they are written
  pub defined_reader : Object → Point → Counting Object

abbrev pub last_counted : Counting (List Object) → Counting Object
last_counted values = then_on values (λ xs later. here (last xs) later)

-- ---- functions by their names
-- the steps of an operator that may look at a whole package
abbrev pub steps_over_packages : Object → ℕ
steps_over_packages (symbol home name) =
    if bytes_eq home common_lisp && list_any (bytes_eq name) (codes "EXPORT" ∷ codes "IMPORT" ∷ codes "USE-PACKAGE" ∷ []) then PACKAGE_STEPS
    else (if bytes_eq home pazturrok && bytes_eq name (codes "SYMBOLS-WITH") then PACKAGE_STEPS else 0)
steps_over_packages _ = 0

-- An operator is a function where it has no rule of its own for its arguments.
abbrev pub called_operator : Object → Operator → Action → Applied
called_operator head operator (calls function) xs p =
    if counts operator (length xs) then spending (steps_over_packages head) p (λ later. at_point later (function xs later.state)) else Err ARGUMENT_COUNT
called_operator head operator _ xs p = Err UNKNOWN_OPERATOR

abbrev pub called_function : LexicalRules → Option Definition → Applied
called_function rules (Some definition) xs p = rules.call definition xs p
called_function rules None xs p = Err UNKNOWN_OPERATOR

abbrev pub called_or : LexicalRules → Symbol → Option Operator → Applied
called_or rules x (Some operator) xs p = called_operator (symbol x.0 x.1) operator operator.action xs p
called_or rules x None xs p = called_function rules (rules.function p.state x) xs p

-- the function that an object names, where it is called
abbrev pub named_function : LexicalRules → Object → Applied
named_function rules (symbol home name) xs p = called_or rules (home, name) (rules.table (symbol home name)) xs p
named_function rules _ xs p = Err ARGUMENT_KIND

-- ---- LET and LET*
-- a binding: a variable and the form of its value
abbrev pub is_binding_of : List Object → Bool
is_binding_of (x ∷ form ∷ []) = is_some (a_variable x)
is_binding_of _ = false

abbrev pub is_binding : Object → Bool
is_binding x = option_map_or is_binding_of (items_of x) false

abbrev pub are_bindings : Object → Bool
are_bindings x = option_map_or (list_all is_binding) (items_of x) false

-- the symbol that an object is, where it is one
abbrev pub variable_named : Object → Symbol
variable_named x = unwrap_or (a_symbol x) ([], [])

-- ---- what is at the head of a form
pub data Head : Type 0 where
  an_operator : Operator → Head
  a_local : LocalOperator → Head
  -- a function of the world
  a_function : Head
  unknown : Head

abbrev pub head_or : Head → Option Operator → Head
head_or other (Some operator) = an_operator operator
head_or other None = other

abbrev pub function_or_unknown : Option Definition → Head
function_or_unknown (Some definition) = a_function
function_or_unknown None = unknown

abbrev pub local_or : Head → Option LocalOperator → Head
local_or other (Some operator) = a_local operator
local_or other None = other

abbrev pub function_head : LexicalRules → WorldState → Object → Head
function_head rules s (symbol home name) = function_or_unknown (rules.function s (home, name))
function_head rules s _ = unknown

abbrev pub head_of : LexicalRules → WorldState → Object → Head
head_of rules s x = head_or (local_or (function_head rules s x) (rules.locals x)) (rules.table x)

-- ---- what the arguments of a form give, in each order in which an operator takes them
pub record FormParts : Type 0 where
  -- all of them, from left to right
  pub in_order : Counting (List Object)
  -- the second or the third, as the first is true or false
  pub chosen : Counting Object
  -- the subforms of a place and the forms after it; a form and then the subforms of a place
  pub at_place : Counting (List Object)
  pub before_place : Counting (List Object)
  -- the first of them alone
  pub first_one : Counting Object
  -- up to the first whose truth is this; as clauses; the first, and the others where its truth is this
  pub sought : Bool → Counting Object
  pub selected : Counting Object
  pub guarded : Bool → Counting Object
  -- the forms behind bindings, where each value is made under the variables before it, or without them
  pub binds : Bool → Counting Object
  -- a function, of the values of the others
  pub applied : Counting Object

abbrev pub unless_refused : {A : Type 0} → Option ℕ → Counting A → Counting A
unless_refused (Some code) on = Err code
unless_refused None on = on

-- what an operator makes of the values of its arguments, and so many steps
abbrev pub made_of : ℕ → Counting (List Object) → (List Object → WorldState → Evaluation Object) → Counting Object
made_of steps values function = then_on values (λ xs later. spending steps later (λ begun. at_point begun (function xs begun.state)))

-- where this stands at the head of the form
abbrev pub action_in : Object → Point → Action → Object → FormParts → Counting Object
action_in head p quotes arguments g = here (first arguments) p
action_in head p sequence arguments g = last_counted g.in_order
action_in head p chooses arguments g = g.chosen
action_in head p assigns arguments g = unless_refused (place_refusal (first arguments)) (made_of 0 g.at_place (set_place_by true (first arguments)))
action_in head p increments arguments g = unless_refused (get_place_refusal (first arguments)) (made_of 0 g.at_place increment)
action_in head p pushes arguments g = unless_refused (get_place_refusal (first (rest arguments))) (made_of 0 g.before_place push)
action_in head p enters_package arguments g = at_point p (enter (first arguments) p.state)
action_in head p (calls function) arguments g = made_of (steps_over_packages head) g.in_order function
action_in head p (seeks truth) arguments g = g.sought truth
action_in head p selects arguments g = if are_clauses arguments then g.selected else Err ARGUMENT_KIND
action_in head p (guards truth) arguments g = g.guarded truth
action_in head p keeps_first arguments g = then_on g.in_order (λ xs later. here (first (list_of xs)) later)
action_in head p asserts arguments g = then_on g.first_one (λ x later. if is_true x then here nil later else Err ASSERTION_FAILED)
action_in head p (changes function) arguments g =
    unless_refused (default_place_refusal (first arguments)) (made_of 0 g.at_place (function (has_default (first arguments))))

abbrev pub local_value : LexicalRules → Point → LocalOperator → Object → FormParts → Counting Object
local_value rules p Let arguments g = g.binds false
local_value rules p LetInTurn arguments g = g.binds true
local_value rules p Funcall arguments g = g.applied
local_value rules p (Sweeps sweep) arguments g = Err UNKNOWN_OPERATOR
local_value rules p GivesValues arguments g = g.first_one
local_value rules p Defun arguments g = at_point p (defun_value (first arguments) (rest arguments) p.state)
local_value rules p DefineReader arguments g = rules.defined_reader arguments p

-- of what is at the head of a form, and its arguments; the number of the arguments of an operator is looked at first
abbrev pub form_value : LexicalRules → Point → Object → Head → Object → FormParts → Counting Object
form_value rules p head (an_operator operator) arguments g =
    if not (counts operator (count arguments)) then Err ARGUMENT_COUNT else action_in head p operator.action arguments g
form_value rules p head (a_local operator) arguments g =
    if not (takes_so_many operator (count arguments)) then Err ARGUMENT_COUNT else local_value rules p operator arguments g
form_value rules p head a_function arguments g = then_on g.in_order (λ xs later. named_function rules head xs later)
form_value rules p head unknown arguments g = Err UNKNOWN_OPERATOR

-- the value of a variable takes its weight
abbrev pub variable_value : LexicalRules → Symbol → Point → Option Object → Counting Object
variable_value rules x p (Some v) = weighing v p false
variable_value rules x p None = rules.global x p

-- A function that a form writes down: its variables, and what its body gives where these have values. A call of it takes the weight
-- of what is written.
abbrev pub written_call : Object → List Symbol → (Environment → Point → Counting Object) → Environment → Applied
written_call parts variables body around xs p =
    if length variables == length xs then spending (weight parts) p (body (binding variables xs around)) else Err ARGUMENT_COUNT

abbrev pub written_function : Object → Option (List Symbol) → (Environment → Point → Counting Object) → Environment → Point → Counting Applied
written_function parts (Some variables) body around p = here (written_call parts variables body around) p
written_function parts None body around p = Err ARGUMENT_KIND

unfoldable mutual
  -- the value of a form; a list takes a step
  pub value_in : LexicalRules → Environment → Point → Object → Counting Object
  value_in rules around p (pair head arguments) =
      if not (is_interned head && is_proper_list arguments) then Err NOT_A_FORM
      else spending 1 p (λ begun. form_value rules begun head (head_of rules begun.state head) arguments
      (record {
        in_order = values_in rules around begun arguments;
        chosen = choice_in rules around begun arguments;
        at_place = values_at_place_in rules around begun arguments;
        before_place = values_before_place_in rules around begun arguments;
        first_one = other_value_in rules around begun arguments;
        sought = λ truth. sought_value_in rules around truth begun arguments;
        selected = selected_in rules around begun arguments;
        guarded = λ truth. guarded_in rules around truth begun arguments;
        binds = λ in_turn. bound_in rules around in_turn begun arguments;
        applied = applied_in rules around begun arguments;
      }))
  value_in rules around p (symbol home name) = variable_value rules (home, name) p (bound around (home, name))
  value_in rules around p (uninterned name) = Err NOT_A_FORM
  value_in rules around p x = here x p

  -- the values of forms, from left to right (standard 3.1.2.1.2.3)
  pub values_in : LexicalRules → Environment → Point → Object → Counting (List Object)
  values_in rules around p (pair x xs) =
      then_on (value_in rules around p x) (λ y later. then_on (values_in rules around later xs) (λ ys end'. here (y ∷ ys) end'))
  values_in rules around p _ = here [] p

  -- IF
  pub choice_in : LexicalRules → Environment → Point → Object → Counting Object
  choice_in rules around p (pair test (pair then' others)) =
      then_on (value_in rules around p test) (λ x later. if is_true x then value_in rules around later then' else other_value_in rules around later others)
  choice_in rules around p _ = Err ARGUMENT_COUNT

  pub other_value_in : LexicalRules → Environment → Point → Object → Counting Object
  other_value_in rules around p (pair x xs) = value_in rules around p x
  other_value_in rules around p _ = here nil p

  -- AND and OR
  pub sought_value_in : LexicalRules → Environment → Bool → Point → Object → Counting Object
  sought_value_in rules around truth p (pair x xs) =
      then_on (value_in rules around p x) (λ y later.
      if has_truth truth y then here y later
      else (if is_pair xs then sought_value_in rules around truth later xs else here y later))
  sought_value_in rules around truth p _ = here (if truth then nil else t) p

  -- COND
  pub selected_in : LexicalRules → Environment → Point → Object → Counting Object
  selected_in rules around p (pair (pair test forms) others) =
      if not (is_proper_list forms) then Err ARGUMENT_KIND
      else then_on (value_in rules around p test) (λ y later.
      if is_true y
      then (if is_pair forms then last_counted (values_in rules around later forms) else here y later)
      else selected_in rules around later others)
  selected_in rules around p (pair _ others) = Err ARGUMENT_KIND
  selected_in rules around p _ = here nil p

  -- WHEN and UNLESS
  pub guarded_in : LexicalRules → Environment → Bool → Point → Object → Counting Object
  guarded_in rules around truth p (pair test forms) =
      then_on (value_in rules around p test) (λ y later.
      if has_truth truth y then last_counted (values_in rules around later forms) else here nil later)
  guarded_in rules around truth p _ = Err ARGUMENT_COUNT

  -- the values of a place's subforms, and of the forms after it; a form's, and then those of the subforms
  pub values_at_place_in : LexicalRules → Environment → Point → Object → Counting (List Object)
  values_at_place_in rules around p (pair (pair operator subforms) forms) =
      then_on (values_in rules around p subforms) (λ xs later. then_on (values_in rules around later forms) (λ ys end'. here (xs ++ ys) end'))
  values_at_place_in rules around p (pair (symbol home name) forms) = values_in rules around p forms
  values_at_place_in rules around p _ = Err ARGUMENT_KIND

  pub values_before_place_in : LexicalRules → Environment → Point → Object → Counting (List Object)
  values_before_place_in rules around p (pair x (pair (pair operator subforms) forms)) =
      then_on (value_in rules around p x) (λ y later. then_on (values_in rules around later subforms) (λ ys end'. here (y ∷ ys) end'))
  values_before_place_in rules around p _ = Err ARGUMENT_KIND

  -- LET and LET* (standard 5.3): the forms under all variables. The bindings are looked at before a form is evaluated.
  pub bound_in : LexicalRules → Environment → Bool → Point → Object → Counting Object
  bound_in rules around in_turn p (pair bindings forms) =
      if not (are_bindings bindings) then Err ARGUMENT_KIND
      else then_on (extended_in rules in_turn around around p bindings) (λ inner later. last_counted (values_in rules inner later forms))
  bound_in rules around in_turn p _ = Err ARGUMENT_COUNT

  -- For LET* each value is made under the variables before it, for LET under those around all of them.
  pub extended_in : LexicalRules → Bool → Environment → Environment → Point → Object → Counting Environment
  extended_in rules in_turn around inner p (pair (pair x (pair form others)) bindings) =
      if not (is_proper_list others) then Err ARGUMENT_KIND
      else then_on (value_in rules (if in_turn then inner else around) p form) (λ y later.
      extended_in rules in_turn around ((variable_named x, y) ∷ inner) later bindings)
  extended_in rules in_turn around inner p (pair _ bindings) = Err ARGUMENT_KIND
  extended_in rules in_turn around inner p _ = here inner p

  -- The function that a form stands for (standard 5.3, function; 3.1.3): LAMBDA writes one down, with FUNCTION before it or
  -- without; FUNCTION of a name, and the value of any other form, name one.
  pub function_in_form : LexicalRules → Environment → Point → Object → Counting Object → Counting Applied
  function_in_form rules around p (pair head arguments) plain =
      if is_own_symbol (codes "LAMBDA") head && is_proper_list arguments then lambda_in rules around p arguments
      else (if is_standard (codes "FUNCTION") head && is_proper_list arguments then quoted_function_in rules around p arguments
      else then_on plain (λ y later. here (named_function rules y) later))
  function_in_form rules around p _ plain = then_on plain (λ y later. here (named_function rules y) later)

  pub quoted_function_in : LexicalRules → Environment → Point → Object → Counting Applied
  quoted_function_in rules around p (pair (pair head arguments) others) =
      if not (count others == 0) then Err ARGUMENT_COUNT
      else (if is_own_symbol (codes "LAMBDA") head && is_proper_list arguments then lambda_in rules around p arguments else Err ARGUMENT_KIND)
  quoted_function_in rules around p (pair x others) = if count others == 0 then here (named_function rules x) p else Err ARGUMENT_COUNT
  quoted_function_in rules around p _ = Err ARGUMENT_COUNT

  pub lambda_in : LexicalRules → Environment → Point → Object → Counting Applied
  lambda_in rules around p (pair variables body) =
      written_function (pair variables body) (variables_of variables) (λ inner later. last_counted (values_in rules inner later body)) around p
  lambda_in rules around p _ = Err ARGUMENT_COUNT

  -- FUNCALL
  pub applied_in : LexicalRules → Environment → Point → Object → Counting Object
  applied_in rules around p (pair f others) =
      then_on (function_in_form rules around p f (value_in rules around p f)) (λ apply later.
      then_on (values_in rules around later others) (λ xs end'. apply xs end'))
  applied_in rules around p _ = Err ARGUMENT_COUNT
