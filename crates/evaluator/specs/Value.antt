-- Evaluation (standard 3.1.2.1): the value of a form, by cases on the form.
--
-- The language of the first version had no read base: there *READ-BASE* has no value, and is no place. So the definitions have
-- one test in front, whether the variable is known (`value_by`); `value` and the names after it are those in which it is.
use Rattle.std.specs.Prelude.{ℕ, Bool, true, ◌&&◌, ◌||◌, ◌==◌, not, if◌then◌else◌, List, [], ◌∷◌, ◌++◌, pos, Option, Some, None, Err, codes}
use Rattle.std.specs.Str.{bytes_eq}
use Rattle.lisp_object.specs.Object.{Object, integer, text, symbol, uninterned, pair, nil, list_of, is_proper_list}
use Rattle.lisp_object.specs.declared.refusal.TheConstants.{NOT_A_FORM, UNKNOWN_OPERATOR, ARGUMENT_COUNT, ARGUMENT_KIND, ASSERTION_FAILED}
use Rattle.package_table.specs.Table.{Name, keyword}
use Rattle.plist_state.specs.State.{WorldState}
use Rattle.lisp_operators.specs.Evaluation.{Evaluation, gives, and_then}
use Rattle.lisp_operators.specs.ArgumentKinds.{is_true, is_pair}
use Rattle.lisp_operators.specs.Properties.{t, set, increment, push}
use Rattle.lisp_operators.specs.Packages.{enter}
use Rattle.lisp_operators.specs.Readtables.{a_keyword_of, set_case}
use Rattle.lisp_operators.specs.ReadBase.{set_base}
use Rattle.evaluator.specs.Operators.{Operator, Action, quotes, sequence, chooses, assigns, increments, pushes, enters_package, calls, seeks, selects, guards, keeps_first, asserts, OperatorTable, operator_of, is_standard, is_interned, count, counts, first, changes}

-- the values of a sequence are those of its last form (standard 5.3, progn); NIL where there is none
abbrev pub last : List Object → Object
last [] = nil
last (x ∷ []) = x
last (x ∷ y ∷ ys) = last (y ∷ ys)

-- Why an object is no place that GET names (standard 5.1.2.2): another object, then a list headed GET of another count.
abbrev pub get_place_refusal : Object → Option ℕ
get_place_refusal (pair operator subforms) =
    if not (is_standard (codes "GET") operator && is_proper_list subforms) then Some ARGUMENT_KIND
    else (if count subforms == 2 then None else Some ARGUMENT_COUNT)
get_place_refusal _ = Some ARGUMENT_KIND

-- Why an object is no place that GET names, where GET may have a default: as `get_place_refusal`, with one count more.
abbrev pub default_place_refusal : Object → Option ℕ
default_place_refusal (pair operator subforms) =
    if not (is_standard (codes "GET") operator && is_proper_list subforms) then Some ARGUMENT_KIND
    else (if count subforms == 3 || count subforms == 2 then None else Some ARGUMENT_COUNT)
default_place_refusal _ = Some ARGUMENT_KIND

-- why it is no place that READTABLE-CASE names
abbrev pub case_place_refusal : Object → Option ℕ
case_place_refusal (pair operator subforms) =
    if not (is_standard (codes "READTABLE-CASE") operator && is_proper_list subforms) then Some ARGUMENT_KIND
    else (if count subforms == 1 then None else Some ARGUMENT_COUNT)
case_place_refusal _ = Some ARGUMENT_KIND

-- the list after its first element
abbrev pub rest : Object → Object
rest (pair x xs) = xs
rest _ = nil

-- whether a place that GET names has a default
abbrev pub has_default : Object → Bool
has_default place = count (rest place) == 3

-- whether READTABLE-CASE is at the head of a place
abbrev pub is_case_place : Object → Bool
is_case_place place = is_standard (codes "READTABLE-CASE") (first place)

-- why a list is no place for SETF: it is one that READTABLE-CASE or GET names
abbrev pub list_place_refusal : Object → Option ℕ
list_place_refusal place = if is_case_place place then case_place_refusal place else get_place_refusal place

-- whether it is true, or whether it is not, as it is asked
abbrev pub has_truth : Bool → Object → Bool
has_truth truth x = if truth then is_true x else not (is_true x)

-- whether it is a clause of COND: a list with a test, and then forms (standard 5.3); whether each is one
abbrev pub is_clause : Object → Bool
is_clause x = is_pair x && is_proper_list x

-- whether each element of a list is one
abbrev pub are_clauses : Object → Bool
are_clauses (pair clause others) = is_clause clause && are_clauses others
are_clauses _ = true

-- the refusal, if there is one; else what goes on
abbrev pub unless : Option ℕ → Evaluation Object → Evaluation Object
unless (Some code) on = Err code
unless None on = on

-- What the arguments of a form give, in each order in which an operator takes them.
pub record Parts : Type 0 where
  -- all of them, from left to right
  pub in_order : Evaluation (List Object)
  -- the second or the third, as the first is true or false
  pub chosen : Evaluation Object
  -- the subforms of a place, and the forms after it
  pub at_place : Evaluation (List Object)
  -- a form, and then the subforms of a place
  pub before_place : Evaluation (List Object)
  -- the first of them alone
  pub first_one : Evaluation Object
  -- one after the other, up to the first whose truth is this
  pub sought : Bool → Evaluation Object
  -- as clauses: the tests up to the first that is true, and the forms of its clause
  pub selected : Evaluation Object
  -- the first, and the others where its truth is this
  pub guarded : Bool → Evaluation Object

-- where it is known whether *READ-BASE* is a variable
module _ (based : Bool) where
  -- the variable *READ-BASE* (standard 23.1.1)
  abbrev pub is_base_by : Object → Bool
  is_base_by x = based && is_standard (codes "*READ-BASE*") x

  -- A symbol is a form where it is a keyword, T or NIL, which have themselves as their values, or the name of a variable
  -- (standard 3.1.2.1.1).
  abbrev pub symbol_value_by : List ℕ → List ℕ → WorldState → Evaluation Object
  symbol_value_by home name s =
      if bytes_eq home keyword || is_standard (codes "T") (symbol home name) || is_standard (codes "NIL") (symbol home name)
      then gives (symbol home name) s
      else (if is_standard (codes "*PACKAGE*") (symbol home name) then gives (text s.current_package) s
      else (if is_standard (codes "*READTABLE*") (symbol home name) then gives (a_keyword_of s.current_readtable) s
      else (if is_base_by (symbol home name) then gives (integer (pos s.read_base)) s
      else Err NOT_A_FORM)))

  -- what SETF puts a value into: the read base, a readtable's case, or a property
  abbrev pub place_refusal_by : Object → Option ℕ
  place_refusal_by place = if is_base_by place then None else list_place_refusal place

  -- how SETF puts a value into a place
  abbrev pub set_place_by : Object → List Object → WorldState → Evaluation Object
  set_place_by place = if is_base_by place then set_base else (if is_case_place place then set_case else set)

  -- what an operator gives for its arguments: by what it does, and by what these give in the order in which it takes them
  abbrev pub action_value_by : WorldState → Action → Object → Parts → Evaluation Object
  action_value_by s quotes arguments parts = gives (first arguments) s
  action_value_by s sequence arguments parts = and_then parts.in_order (λ xs later. gives (last xs) later)
  action_value_by s chooses arguments parts = parts.chosen
  action_value_by s assigns arguments parts =
      unless (place_refusal_by (first arguments)) (and_then parts.at_place (set_place_by (first arguments)))
  action_value_by s increments arguments parts =
      unless (get_place_refusal (first arguments)) (and_then parts.at_place increment)
  action_value_by s pushes arguments parts =
      unless (get_place_refusal (first (rest arguments))) (and_then parts.before_place push)
  action_value_by s enters_package arguments parts = enter (first arguments) s
  action_value_by s (calls function) arguments parts = and_then parts.in_order function
  action_value_by s (seeks truth) arguments parts = parts.sought truth
  action_value_by s selects arguments parts = if are_clauses arguments then parts.selected else Err ARGUMENT_KIND
  action_value_by s (guards truth) arguments parts = parts.guarded truth
  action_value_by s keeps_first arguments parts = and_then parts.in_order (λ xs later. gives (first (list_of xs)) later)
  action_value_by s asserts arguments parts =
      and_then parts.first_one (λ x later. if is_true x then gives nil later else Err ASSERTION_FAILED)
  action_value_by s (changes function) arguments parts =
      unless (default_place_refusal (first arguments)) (and_then parts.at_place (function (has_default (first arguments))))

  -- of an operator and its arguments: the operator is looked at first, then their number
  abbrev pub form_value_by : WorldState → Option Operator → Object → Parts → Evaluation Object
  form_value_by s None arguments parts = Err UNKNOWN_OPERATOR
  form_value_by s (Some operator) arguments parts =
      if not (counts operator (count arguments)) then Err ARGUMENT_COUNT
      else action_value_by s operator.action arguments parts

-- A table says which objects at the head of a form are operators.
unfoldable mutual
  -- the value of a form
  pub value_over : Bool → OperatorTable → WorldState → Object → Evaluation Object
  value_over based table s (pair operator arguments) =
      if not (is_interned operator && is_proper_list arguments) then Err NOT_A_FORM
      else form_value_by based s (table operator) arguments
      (record {
        in_order = values_over based table s arguments;
        chosen = choice_over based table s arguments;
        at_place = values_at_place_over based table s arguments;
        before_place = values_before_place_over based table s arguments;
        first_one = other_value_over based table s arguments;
        sought = λ truth. sought_over based table truth s arguments;
        selected = selected_over based table s arguments;
        guarded = λ truth. guarded_over based table truth s arguments;
      })
  value_over based table s (symbol home name) = symbol_value_by based home name s
  value_over based table s (uninterned name) = Err NOT_A_FORM
  value_over based table s x = gives x s

  -- the values of forms, from left to right (standard 3.1.2.1.2.3)
  pub values_over : Bool → OperatorTable → WorldState → Object → Evaluation (List Object)
  values_over based table s (pair x xs) =
      and_then (value_over based table s x) (λ y later. and_then (values_over based table later xs) (λ ys end'. gives (y ∷ ys) end'))
  values_over based table s _ = gives [] s

  -- IF (standard 5.3): NIL where the first is false and there is no third
  pub choice_over : Bool → OperatorTable → WorldState → Object → Evaluation Object
  choice_over based table s (pair test (pair then' others)) =
      and_then (value_over based table s test) (λ x later. if is_true x then value_over based table later then' else other_value_over based table later others)
  choice_over based table s _ = Err ARGUMENT_COUNT

  -- IF, as its first form was false: the value of the third, or NIL where there is none
  pub other_value_over : Bool → OperatorTable → WorldState → Object → Evaluation Object
  other_value_over based table s (pair x xs) = value_over based table s x
  other_value_over based table s _ = gives nil s

  -- AND and OR (standard 5.3): the first value whose truth is this, else that of the last form. AND seeks one that is false, and is
  -- T where there is no form; OR seeks one that is true.
  pub sought_over : Bool → OperatorTable → Bool → WorldState → Object → Evaluation Object
  sought_over based table truth s (pair x xs) =
      and_then (value_over based table s x) (λ y later.
      if has_truth truth y then gives y later
      else (if is_pair xs then sought_over based table truth later xs else gives y later))
  sought_over based table truth s _ = gives (if truth then nil else t) s

  -- COND (standard 5.3): of the first clause whose test is true the value of the last form, or of the test where it has no form
  pub selected_over : Bool → OperatorTable → WorldState → Object → Evaluation Object
  selected_over based table s (pair (pair test forms) others) =
      and_then (value_over based table s test) (λ y later.
      if is_true y
      then (if is_pair forms then and_then (values_over based table later forms) (λ xs end'. gives (last xs) end') else gives y later)
      else selected_over based table later others)
  selected_over based table s (pair _ others) = Err ARGUMENT_KIND
  selected_over based table s _ = gives nil s

  -- WHEN and UNLESS (standard 5.3): the forms after the first, where its truth is this, else NIL
  pub guarded_over : Bool → OperatorTable → Bool → WorldState → Object → Evaluation Object
  guarded_over based table truth s (pair test forms) =
      and_then (value_over based table s test) (λ y later.
      if has_truth truth y then and_then (values_over based table later forms) (λ xs end'. gives (last xs) end') else gives nil later)
  guarded_over based table truth s _ = Err ARGUMENT_COUNT

  -- the values of a place's subforms, and of the forms after it (standard 5.1.1.1); a symbol has no subforms
  pub values_at_place_over : Bool → OperatorTable → WorldState → Object → Evaluation (List Object)
  values_at_place_over based table s (pair (pair operator subforms) forms) =
      and_then (values_over based table s subforms) (λ xs later. and_then (values_over based table later forms) (λ ys end'. gives (xs ++ ys) end'))
  values_at_place_over based table s (pair (symbol home name) forms) = values_over based table s forms
  values_at_place_over based table s _ = Err ARGUMENT_KIND

  -- the value of a form, and then those of the subforms of the place after it
  pub values_before_place_over : Bool → OperatorTable → WorldState → Object → Evaluation (List Object)
  values_before_place_over based table s (pair x (pair (pair operator subforms) forms)) =
      and_then (value_over based table s x) (λ y later. and_then (values_over based table later subforms) (λ ys end'. gives (y ∷ ys) end'))
  values_before_place_over based table s _ = Err ARGUMENT_KIND

-- ---- by the operators there are, where these are the names of macro functions

-- the value of a form
abbrev pub value_by : Bool → List Name → WorldState → Object → Evaluation Object
value_by based names = value_over based (operator_of names)

-- what arguments give in each order in which an operator takes them, by the operators there are: here from left to right
abbrev pub values_by : Bool → List Name → WorldState → Object → Evaluation (List Object)
values_by based names = values_over based (operator_of names)

-- IF
abbrev pub choice_by : Bool → List Name → WorldState → Object → Evaluation Object
choice_by based names = choice_over based (operator_of names)

-- the third argument of IF
abbrev pub other_value_by : Bool → List Name → WorldState → Object → Evaluation Object
other_value_by based names = other_value_over based (operator_of names)

-- AND and OR
abbrev pub sought_by : Bool → List Name → Bool → WorldState → Object → Evaluation Object
sought_by based names = sought_over based (operator_of names)

-- COND
abbrev pub selected_by : Bool → List Name → WorldState → Object → Evaluation Object
selected_by based names = selected_over based (operator_of names)

-- WHEN and UNLESS
abbrev pub guarded_by : Bool → List Name → Bool → WorldState → Object → Evaluation Object
guarded_by based names = guarded_over based (operator_of names)

-- the subforms of a place, and the forms after it
abbrev pub values_at_place_by : Bool → List Name → WorldState → Object → Evaluation (List Object)
values_at_place_by based names = values_at_place_over based (operator_of names)

-- the form before a place, and the subforms of the place
abbrev pub values_before_place_by : Bool → List Name → WorldState → Object → Evaluation (List Object)
values_before_place_by based names = values_before_place_over based (operator_of names)

-- ---- where it is

-- whether a place is the read base
abbrev pub is_base_place : Object → Bool
is_base_place = is_base_by true

-- and from here on the variable is known: what a symbol gives as a form
abbrev pub symbol_value : List ℕ → List ℕ → WorldState → Evaluation Object
symbol_value = symbol_value_by true

-- why it is no place for SETF
abbrev pub place_refusal : Object → Option ℕ
place_refusal = place_refusal_by true

-- what an operator gives for its arguments
abbrev pub action_value : WorldState → Action → Object → Parts → Evaluation Object
action_value = action_value_by true

-- the value of a form
abbrev pub value : List Name → WorldState → Object → Evaluation Object
value = value_by true

-- the values of forms, from left to right
abbrev pub values : List Name → WorldState → Object → Evaluation (List Object)
values = values_by true

-- what IF gives for its arguments
abbrev pub choice : List Name → WorldState → Object → Evaluation Object
choice = choice_by true

-- what IF gives where its first is false: the value of the third, and NIL where there is none
abbrev pub other_value : List Name → WorldState → Object → Evaluation Object
other_value = other_value_by true

-- what AND and OR give: the first value that is false, or true, ends it
abbrev pub sought : List Name → Bool → WorldState → Object → Evaluation Object
sought = sought_by true

-- what COND gives: of the first clause whose test is true
abbrev pub selected : List Name → WorldState → Object → Evaluation Object
selected = selected_by true

-- what WHEN and UNLESS give
abbrev pub guarded : List Name → Bool → WorldState → Object → Evaluation Object
guarded = guarded_by true

-- the values of the subforms of a place, and then of the forms after it
abbrev pub values_at_place : List Name → WorldState → Object → Evaluation (List Object)
values_at_place = values_at_place_by true

-- the value of a form, and then of the subforms of the place after it
abbrev pub values_before_place : List Name → WorldState → Object → Evaluation (List Object)
values_before_place = values_before_place_by true
