-- One induction over the value of a form: what holds of each step holds of the value of every form.
--     Operators      what is asked of the operators
--     Steps      what is asked of each step
--     default_place_numbered, get_place_numbered, place_numbered      why an object is no place
--     of_head, set_place_holds      what holds of an operator by its head
--     every_value      the value of a form
use Rattle.std.proofs.Common.{◌≡◌, pos, refl, Bool, true, false, not, ◌&&◌, ◌||◌, ◌==◌, cond, List, [], ◌∷◌, ◌++◌, Option, Some, None, option_map, Err, codes, bytes_eq, arith}
use Rattle.std.specs.Option.{option_or}
use Rattle.std.specs.Prelude.{ℕ}
use Rattle.std.proofs.lemmas.Bool.{and_parts}
use Rattle.lisp_object.specs.Object.{Object, integer, rational, character, text, symbol, uninterned, pair, vector, nil, list_of, is_proper_list}
use Rattle.package_table.specs.Table.{Name, common_lisp, keyword}
use Rattle.plist_state.specs.State.{WorldState}
use Rattle.lisp_operators.specs.ArgumentKinds.{is_true, is_pair}
use Rattle.lisp_operators.specs.Evaluation.{Evaluation, gives, and_then}
use Rattle.lisp_operators.specs.Properties.{t, list, get, set, remove, symbol_plist, increment, push}
use Rattle.lisp_operators.specs.Packages.{make, enter, intern, export, import, use_package}
use Rattle.lisp_operators.specs.declared.look_ups.LookUp.{LookUp}
use Rattle.lisp_operators.specs.declared.places.PlaceChange.{PlaceChange}
use Rattle.lisp_operators.specs.LookUps.{look_up_named, looked_up}
use Rattle.lisp_operators.specs.PropertyPlaces.{change_named, place_changed}
use Rattle.lisp_operators.specs.ReadBase.{set_base}
use Rattle.lisp_operators.specs.Readtables.{a_keyword_of, readtable_case, set_case, copy_readtable, enter_readtable, set_syntax, set_macro, get_macro, make_dispatch, set_dispatch, get_dispatch}
use Rattle.lisp_operators.proofs.Numbered.{IsNumber}
use Rattle.value_functions.specs.declared.functions.ValueFunction.{ValueFunction as OfValues}
use Rattle.value_functions.specs.Functions.{function_named}
use Rattle.evaluator.specs.Operators.{Operator, Action, quotes, sequence, chooses, assigns, increments, pushes, enters_package, calls, seeks, selects, guards, keeps_first, asserts, computed, operator_of_function, operator_named, pazturrok, pazturrok_operator, operator_of, is_standard, is_interned, count, counts, first, changes, operator_of_look_up, operator_of_change, world_operator}
use Rattle.evaluator.specs.Value.{value_by, values_by, choice_by, other_value_by, values_at_place_by, values_before_place_by, sought_by, selected_by, guarded_by, symbol_value_by, Parts, action_value_by, form_value_by, unless, last, has_truth, are_clauses, is_base_by, is_case_place, place_refusal_by, case_place_refusal, get_place_refusal, set_place_by, rest, value_over, default_place_refusal, has_default}

-- ---- why an object is no place
abbrev pub IsNumbered : Option ℕ → Type 0
IsNumbered (Some code) = IsNumber code
IsNumbered None = Unit {0}

either_numbered : (b : Bool) (x y : Option ℕ) → IsNumbered x → IsNumbered y → IsNumbered (cond b x y)
either_numbered true x y first second = first
either_numbered false x y first second = second

pub default_place_numbered : (place : Object) → IsNumbered (default_place_refusal place)
default_place_numbered (pair operator subforms) =
    either_numbered (not (is_standard (codes "GET") operator && is_proper_list subforms)) _ _ (omega arith, omega arith)
    (either_numbered (count subforms == 3 || count subforms == 2) _ _ tt (omega arith, omega arith))
default_place_numbered _ = (omega arith, omega arith)

pub get_place_numbered : (place : Object) → IsNumbered (get_place_refusal place)
get_place_numbered (pair operator subforms) =
    either_numbered (not (is_standard (codes "GET") operator && is_proper_list subforms)) _ _ (omega arith, omega arith) (either_numbered (count subforms == 2) _ _ tt (omega arith, omega arith))
get_place_numbered _ = (omega arith, omega arith)

case_place_numbered : (place : Object) → IsNumbered (case_place_refusal place)
case_place_numbered (pair operator subforms) =
    either_numbered (not (is_standard (codes "READTABLE-CASE") operator && is_proper_list subforms)) _ _ (omega arith, omega arith) (either_numbered (count subforms == 1) _ _ tt (omega arith, omega arith))
case_place_numbered _ = (omega arith, omega arith)

pub place_numbered : (based : Bool) (place : Object) → IsNumbered (place_refusal_by based place)
place_numbered based place =
    either_numbered (is_base_by based place) None _ tt
    (either_numbered (is_case_place place) (case_place_refusal place) (get_place_refusal place) (case_place_numbered place) (get_place_numbered place))

-- Whether *READ-BASE* is a variable, what is asked of a form before it is evaluated, what is said of its value and of the
-- values of forms, and what is said of a function of values.
module _ (based : Bool) (names : List Name) (Asks : WorldState → Object → Type 0) (One : WorldState → Evaluation Object → Type 0) (All : WorldState → Evaluation (List Object) → Type 0) (Function : (List Object → WorldState → Evaluation Object) → Type 0) where
  pub record Operators : Type 0 where
    pub lists : Function list
    pub gets : Function get
    pub sets : Function set
    pub removes : Function remove
    pub plists : Function symbol_plist
    pub increments : Function increment
    pub pushes : Function push
    pub makes : Function make
    pub exports : Function export
    pub imports : Function import
    pub uses : Function use_package
    pub interns : Function intern
    pub cases : Function readtable_case
    pub sets_case : Function set_case
    pub copies : Function copy_readtable
    pub enters : Function enter_readtable
    pub sets_syntax : Function set_syntax
    pub sets_macro : Function (set_macro names)
    pub gets_macro : Function get_macro
    pub makes_dispatch : Function make_dispatch
    pub sets_dispatch : Function (set_dispatch names)
    pub gets_dispatch : Function get_dispatch
    pub sets_base : based ≡ true → Function set_base
    pub computes : (function : OfValues) → Function (computed function)
    pub looks_up : (operator : LookUp) → Function (looked_up operator)
    pub changes_place : (operator : PlaceChange) (has_default : Bool) → Function (place_changed operator has_default)

  -- what is asked of a form stays so from the first state to the second
  abbrev pub Later : WorldState → WorldState → Type 0
  Later s t = (x : Object) → Asks s x → Asks t x

  pub record Steps : Type 0 where
    pub operators : Operators
    pub last_one : Function (λ xs later. gives (last xs) later)
    pub first_one : Function (λ xs later. gives (first (list_of xs)) later)
    pub in_package : (s : WorldState) (x asked : Object) → Asks s asked → One s (enter x s)
    pub refused : (s : WorldState) (code : ℕ) → IsNumber code → One s (Err code)
    pub all_refused : (s : WorldState) (code : ℕ) → IsNumber code → All s (Err code)
    pub itself : (s : WorldState) (x : Object) → Asks s x → One s (gives x s)
    pub nothing : (s : WorldState) (asked : Object) → Asks s asked → One s (gives nil s)
    pub truth : (s : WorldState) (asked : Object) → Asks s asked → One s (gives t s)
    pub current_package : (s : WorldState) (asked : Object) → Asks s asked → One s (gives (text s.current_package) s)
    pub current_readtable : (s : WorldState) (asked : Object) → Asks s asked → One s (gives (a_keyword_of s.current_readtable) s)
    pub read_base : (s : WorldState) (asked : Object) → Asks s asked → One s (gives (integer (pos s.read_base)) s)
    pub none : (s : WorldState) (asked : Object) → Asks s asked → All s (gives [] s)
    pub parts : (s : WorldState) (a b : Object) → Asks s (pair a b) → Asks s a × Asks s b
    -- a value, and then others; values, and then others
    pub one_more : (s : WorldState) (o : Evaluation Object) (others : WorldState → Evaluation (List Object)) → One s o → ((t : WorldState) → Later s t → All t (others t))
        → All s (and_then o (λ y later. and_then (others later) (λ ys end'. gives (y ∷ ys) end')))
    pub more : (s : WorldState) (o : Evaluation (List Object)) (others : WorldState → Evaluation (List Object)) → All s o → ((t : WorldState) → Later s t → All t (others t))
        → All s (and_then o (λ xs later. and_then (others later) (λ ys end'. gives (xs ++ ys) end')))
    -- a value, and then the one that it chooses, which may be itself
    pub then_one : (s : WorldState) (o : Evaluation Object) (next : Object → WorldState → Evaluation Object) → One s o → ((y : Object) (t : WorldState) → Later s t → One t (gives y t) → One t (next y t)) → One s (and_then o next)
    -- a function of values
    pub of_values : (s : WorldState) (o : Evaluation (List Object)) (function : List Object → WorldState → Evaluation Object) → All s o → Function function → One s (and_then o function)

  module _ (steps : Steps) where
    -- ---- the operators
    abbrev pub ActionHolds : Action → Type 0
    ActionHolds (calls function) = Function function
    ActionHolds (changes function) = (has_default : Bool) → Function (function has_default)
    ActionHolds _ = Unit {0}

    abbrev pub OperatorHolds : Option Operator → Type 0
    OperatorHolds (Some operator) = ActionHolds operator.action
    OperatorHolds None = Unit {0}

    either : (b : Bool) (x y : Option Operator) → OperatorHolds x → OperatorHolds y → OperatorHolds (cond b x y)
    either true x y first second = first
    either false x y first second = second

    of_name : (name : Name) → OperatorHolds (operator_named names name)
    of_name name =
        either (bytes_eq name (codes "QUOTE")) _ _ tt
        (either (bytes_eq name (codes "PROGN")) _ _ tt
        (either (bytes_eq name (codes "IF")) _ _ tt
        (either (bytes_eq name (codes "LIST")) _ _ steps.operators.lists
        (either (bytes_eq name (codes "GET")) _ _ steps.operators.gets
        (either (bytes_eq name (codes "SETF")) _ _ tt
        (either (bytes_eq name (codes "REMPROP")) _ _ steps.operators.removes
        (either (bytes_eq name (codes "SYMBOL-PLIST")) _ _ steps.operators.plists
        (either (bytes_eq name (codes "INCF")) _ _ tt
        (either (bytes_eq name (codes "PUSH")) _ _ tt
        (either (bytes_eq name (codes "MAKE-PACKAGE")) _ _ steps.operators.makes
        (either (bytes_eq name (codes "IN-PACKAGE")) _ _ tt
        (either (bytes_eq name (codes "EXPORT")) _ _ steps.operators.exports
        (either (bytes_eq name (codes "IMPORT")) _ _ steps.operators.imports
        (either (bytes_eq name (codes "USE-PACKAGE")) _ _ steps.operators.uses
        (either (bytes_eq name (codes "INTERN")) _ _ steps.operators.interns
        (either (bytes_eq name (codes "COPY-READTABLE")) _ _ steps.operators.copies
        (either (bytes_eq name (codes "IN-READTABLE")) _ _ steps.operators.enters
        (either (bytes_eq name (codes "SET-SYNTAX-FROM-CHAR")) _ _ steps.operators.sets_syntax
        (either (bytes_eq name (codes "SET-MACRO-CHARACTER")) _ _ steps.operators.sets_macro
        (either (bytes_eq name (codes "GET-MACRO-CHARACTER")) _ _ steps.operators.gets_macro
        (either (bytes_eq name (codes "MAKE-DISPATCH-MACRO-CHARACTER")) _ _ steps.operators.makes_dispatch
        (either (bytes_eq name (codes "SET-DISPATCH-MACRO-CHARACTER")) _ _ steps.operators.sets_dispatch
        (either (bytes_eq name (codes "GET-DISPATCH-MACRO-CHARACTER")) _ _ steps.operators.gets_dispatch
        (either (bytes_eq name (codes "READTABLE-CASE")) _ _ steps.operators.cases tt))))))))))))))))))))))))

    of_world : (look_up : Option LookUp) (change : Option PlaceChange) → OperatorHolds (option_or (option_map operator_of_look_up look_up) (option_map operator_of_change change))
    of_world (Some operator) change = steps.operators.looks_up operator
    of_world None (Some operator) = steps.operators.changes_place operator
    of_world None None = tt

    of_function : (function : Option OfValues) (other : Option Operator) → OperatorHolds other → OperatorHolds (option_or (option_map operator_of_function function) other)
    of_function (Some function) other holds = steps.operators.computes function
    of_function None other holds = holds

    of_pazturrok : (name : Name) → OperatorHolds (pazturrok_operator name)
    of_pazturrok name =
        either (bytes_eq name (codes "AND")) _ _ tt
        (either (bytes_eq name (codes "OR")) _ _ tt
        (either (bytes_eq name (codes "COND")) _ _ tt
        (either (bytes_eq name (codes "WHEN")) _ _ tt
        (either (bytes_eq name (codes "UNLESS")) _ _ tt
        (either (bytes_eq name (codes "PROG1")) _ _ tt
        (either (bytes_eq name (codes "ASSERT")) _ _ tt
        (of_function (function_named name) (world_operator name) (of_world (look_up_named name) (change_named name)))))))))

    pub of_head : (head : Object) → OperatorHolds (operator_of names head)
    of_head (symbol home name) =
        either (bytes_eq home common_lisp) (operator_named names name) _ (of_name name)
        (either (bytes_eq home pazturrok) (pazturrok_operator name) None (of_pazturrok name) tt)
    of_head (integer n) = tt
    of_head (rational n d) = tt
    of_head (character c) = tt
    of_head (text characters) = tt
    of_head (uninterned name) = tt
    of_head (pair x xs) = tt
    of_head (vector xs) = tt

    -- ---- forms, by their parts
    record PartsHold (s : WorldState) (parts : Parts) : Type 0 where
      in_order : All s parts.in_order
      chosen : One s parts.chosen
      at_place : All s parts.at_place
      before_place : All s parts.before_place
      first_one : One s parts.first_one
      sought : (truth : Bool) → One s (parts.sought truth)
      selected : One s parts.selected
      guarded : (truth : Bool) → One s (parts.guarded truth)

    if_one : (s : WorldState) (b : Bool) (x y : Evaluation Object) → One s x → One s y → One s (cond b x y)
    if_one s true x y first second = first
    if_one s false x y first second = second

    -- AND and OR of no form
    none_sought : (truth : Bool) (s : WorldState) (asked : Object) → Asks s asked → One s (gives (cond truth nil t) s)
    none_sought true s asked asks = steps.nothing s asked asks
    none_sought false s asked asks = steps.truth s asked asks

    unless_one : (s : WorldState) (o : Option ℕ) (on : Evaluation Object) → IsNumbered o → One s on → One s (unless o on)
    unless_one s (Some code) on number is = steps.refused s code number
    unless_one s None on number is = is

    pub set_place_holds : (place : Object) → Function (set_place_by based place)
    set_place_holds place =
        elim (is_base_by based place) as (λ b. is_base_by based place ≡ b → Function (cond b set_base (cond (is_case_place place) set_case set))) [
          | true ↦ λ is. steps.operators.sets_base (and_parts based (is_standard (codes "*READ-BASE*") place) is).0
          | false ↦ λ _. elim (is_case_place place) as (λ b. Function (cond b set_case set)) [ true ↦ steps.operators.sets_case | false ↦ steps.operators.sets ]
        ] refl

    quoted : (s : WorldState) (arguments : Object) → Asks s arguments → One s (gives (first arguments) s)
    quoted s (pair x xs) asks = steps.itself s x (steps.parts s x xs asks).0
    quoted s (symbol home name) asks = steps.nothing s (symbol home name) asks
    quoted s (integer n) asks = steps.nothing s (integer n) asks
    quoted s (rational n d) asks = steps.nothing s (rational n d) asks
    quoted s (character c) asks = steps.nothing s (character c) asks
    quoted s (text characters) asks = steps.nothing s (text characters) asks
    quoted s (uninterned name) asks = steps.nothing s (uninterned name) asks
    quoted s (vector xs) asks = steps.nothing s (vector xs) asks

    of_action : (s : WorldState) (action : Action) (arguments : Object) (parts : Parts) → Asks s arguments → ActionHolds action → PartsHold s parts → One s (action_value_by based s action arguments parts)
    of_action s quotes arguments parts asks holds all = quoted s arguments asks
    of_action s sequence arguments parts asks holds all = steps.of_values s parts.in_order (λ xs later. gives (last xs) later) all.in_order steps.last_one
    of_action s chooses arguments parts asks holds all = all.chosen
    of_action s assigns arguments parts asks holds all =
        unless_one s (place_refusal_by based (first arguments)) _ (place_numbered based (first arguments)) (steps.of_values s parts.at_place (set_place_by based (first arguments)) all.at_place (set_place_holds (first arguments)))
    of_action s increments arguments parts asks holds all =
        unless_one s (get_place_refusal (first arguments)) _ (get_place_numbered (first arguments)) (steps.of_values s parts.at_place increment all.at_place steps.operators.increments)
    of_action s pushes arguments parts asks holds all =
        unless_one s (get_place_refusal (first (rest arguments))) _ (get_place_numbered (first (rest arguments))) (steps.of_values s parts.before_place push all.before_place steps.operators.pushes)
    of_action s enters_package arguments parts asks holds all = steps.in_package s (first arguments) arguments asks
    of_action s (calls function) arguments parts asks holds all = steps.of_values s parts.in_order function all.in_order holds
    of_action s (seeks truth) arguments parts asks holds all = all.sought truth
    of_action s selects arguments parts asks holds all =
        if_one s (are_clauses arguments) _ _ all.selected (steps.refused s _ (omega arith, omega arith))
    of_action s (guards truth) arguments parts asks holds all = all.guarded truth
    of_action s keeps_first arguments parts asks holds all = steps.of_values s parts.in_order (λ xs later. gives (first (list_of xs)) later) all.in_order steps.first_one
    of_action s asserts arguments parts asks holds all =
        steps.then_one s parts.first_one _ all.first_one (λ y t still _. if_one t (is_true y) _ _ (steps.nothing t arguments (still arguments asks)) (steps.refused t _ (omega arith, omega arith)))
    of_action s (changes function) arguments parts asks holds all =
        unless_one s (default_place_refusal (first arguments)) _ (default_place_numbered (first arguments))
        (steps.of_values s parts.at_place (function (has_default (first arguments))) all.at_place (holds (has_default (first arguments))))

    of_form : (s : WorldState) (operator : Option Operator) (arguments : Object) (parts : Parts) → Asks s arguments → OperatorHolds operator → PartsHold s parts → One s (form_value_by based s operator arguments parts)
    of_form s None arguments parts asks holds all = steps.refused s _ (omega arith, omega arith)
    of_form s (Some operator) arguments parts asks holds all =
        if_one s (not (counts operator (count arguments))) _ _ (steps.refused s _ (omega arith, omega arith)) (of_action s operator.action arguments parts asks holds all)

    of_symbol : (s : WorldState) (home name : List ℕ) → Asks s (symbol home name) → One s (symbol_value_by based home name s)
    of_symbol s home name asks =
        if_one s (bytes_eq home keyword || is_standard (codes "T") (symbol home name) || is_standard (codes "NIL") (symbol home name)) _ _ (steps.itself s (symbol home name) asks)
        (if_one s (is_standard (codes "*PACKAGE*") (symbol home name)) _ _ (steps.current_package s (symbol home name) asks)
        (if_one s (is_standard (codes "*READTABLE*") (symbol home name)) _ _ (steps.current_readtable s (symbol home name) asks)
        (if_one s (is_base_by based (symbol home name)) _ _ (steps.read_base s (symbol home name) asks) (steps.refused s _ (omega arith, omega arith)))))

    mutual
      unfolding value_over

      pub every_value : (s : WorldState) (x : Object) → Asks s x → One s (value_by based names s x)
      every_value s (pair head arguments) asks =
          let given = (steps.parts s head arguments asks).1 in
          if_one s (not (is_interned head && is_proper_list arguments)) _ _ (steps.refused s _ (omega arith, omega arith))
          (of_form s (operator_of names head) arguments _ given (of_head head)
          (record {
            in_order = all_values s arguments given;
            chosen = of_choice s arguments given;
            at_place = at_place s arguments given;
            before_place = before_place s arguments given;
            first_one = of_other s arguments given;
            sought = λ truth. of_sought truth s arguments given;
            selected = of_clauses s arguments given;
            guarded = λ truth. of_guarded truth s arguments given;
          }))
      every_value s (symbol home name) asks = of_symbol s home name asks
      every_value s (uninterned name) asks = steps.refused s _ (omega arith, omega arith)
      every_value s (integer n) asks = steps.itself s (integer n) asks
      every_value s (rational n d) asks = steps.itself s (rational n d) asks
      every_value s (character c) asks = steps.itself s (character c) asks
      every_value s (text characters) asks = steps.itself s (text characters) asks
      every_value s (vector xs) asks = steps.itself s (vector xs) asks

      all_values : (s : WorldState) (x : Object) → Asks s x → All s (values_by based names s x)
      all_values s (pair x xs) asks =
          let both = steps.parts s x xs asks in
          steps.one_more s (value_by based names s x) (λ later. values_by based names later xs) (every_value s x both.0) (λ t still. all_values t xs (still xs both.1))
      all_values s (symbol home name) asks = steps.none s (symbol home name) asks
      all_values s (uninterned name) asks = steps.none s (uninterned name) asks
      all_values s (integer n) asks = steps.none s (integer n) asks
      all_values s (rational n d) asks = steps.none s (rational n d) asks
      all_values s (character c) asks = steps.none s (character c) asks
      all_values s (text characters) asks = steps.none s (text characters) asks
      all_values s (vector xs) asks = steps.none s (vector xs) asks

      of_choice : (s : WorldState) (x : Object) → Asks s x → One s (choice_by based names s x)
      of_choice s (pair test (pair then' others)) asks =
          let both = steps.parts s test (pair then' others) asks in
          let branches = steps.parts s then' others both.1 in
          steps.then_one s (value_by based names s test) _ (every_value s test both.0)
          (λ x t still _. if_one t (is_true x) (value_by based names t then') (other_value_by based names t others) (every_value t then' (still then' branches.0)) (of_other t others (still others branches.1)))
      of_choice s _ asks = steps.refused s _ (omega arith, omega arith)

      of_other : (s : WorldState) (x : Object) → Asks s x → One s (other_value_by based names s x)
      of_other s (pair x xs) asks = every_value s x (steps.parts s x xs asks).0
      of_other s (symbol home name) asks = steps.nothing s (symbol home name) asks
      of_other s (uninterned name) asks = steps.nothing s (uninterned name) asks
      of_other s (integer n) asks = steps.nothing s (integer n) asks
      of_other s (rational n d) asks = steps.nothing s (rational n d) asks
      of_other s (character c) asks = steps.nothing s (character c) asks
      of_other s (text characters) asks = steps.nothing s (text characters) asks
      of_other s (vector xs) asks = steps.nothing s (vector xs) asks

      of_sought : (truth : Bool) (s : WorldState) (x : Object) → Asks s x → One s (sought_by based names truth s x)
      of_sought truth s (pair x xs) asks =
          let both = steps.parts s x xs asks in
          steps.then_one s (value_by based names s x) _ (every_value s x both.0)
          (λ y t still itself. if_one t (has_truth truth y) _ _ itself (if_one t (is_pair xs) _ _ (of_sought truth t xs (still xs both.1)) itself))
      of_sought truth s (symbol home name) asks = none_sought truth s (symbol home name) asks
      of_sought truth s (uninterned name) asks = none_sought truth s (uninterned name) asks
      of_sought truth s (integer n) asks = none_sought truth s (integer n) asks
      of_sought truth s (rational n d) asks = none_sought truth s (rational n d) asks
      of_sought truth s (character c) asks = none_sought truth s (character c) asks
      of_sought truth s (text characters) asks = none_sought truth s (text characters) asks
      of_sought truth s (vector xs) asks = none_sought truth s (vector xs) asks

      of_clauses : (s : WorldState) (x : Object) → Asks s x → One s (selected_by based names s x)
      of_clauses s (pair (pair test forms) others) asks =
          let both = steps.parts s (pair test forms) others asks in
          let clause = steps.parts s test forms both.0 in
          steps.then_one s (value_by based names s test) _ (every_value s test clause.0)
          (λ y t still itself. if_one t (is_true y) _ _
          (if_one t (is_pair forms) _ _ (steps.of_values t (values_by based names t forms) (λ xs later. gives (last xs) later) (all_values t forms (still forms clause.1)) steps.last_one) itself)
          (of_clauses t others (still others both.1)))
      of_clauses s (pair _ others) asks = steps.refused s _ (omega arith, omega arith)
      of_clauses s (symbol home name) asks = steps.nothing s (symbol home name) asks
      of_clauses s (uninterned name) asks = steps.nothing s (uninterned name) asks
      of_clauses s (integer n) asks = steps.nothing s (integer n) asks
      of_clauses s (rational n d) asks = steps.nothing s (rational n d) asks
      of_clauses s (character c) asks = steps.nothing s (character c) asks
      of_clauses s (text characters) asks = steps.nothing s (text characters) asks
      of_clauses s (vector xs) asks = steps.nothing s (vector xs) asks

      of_guarded : (truth : Bool) (s : WorldState) (x : Object) → Asks s x → One s (guarded_by based names truth s x)
      of_guarded truth s (pair test forms) asks =
          let both = steps.parts s test forms asks in
          steps.then_one s (value_by based names s test) _ (every_value s test both.0)
          (λ y t still _. if_one t (has_truth truth y) _ _
          (steps.of_values t (values_by based names t forms) (λ xs later. gives (last xs) later) (all_values t forms (still forms both.1)) steps.last_one)
          (steps.nothing t forms (still forms both.1)))
      of_guarded truth s _ asks = steps.refused s _ (omega arith, omega arith)

      at_place : (s : WorldState) (x : Object) → Asks s x → All s (values_at_place_by based names s x)
      at_place s (pair (pair head subforms) forms) asks =
          let both = steps.parts s (pair head subforms) forms asks in
          let given = (steps.parts s head subforms both.0).1 in
          steps.more s (values_by based names s subforms) (λ later. values_by based names later forms) (all_values s subforms given) (λ t still. all_values t forms (still forms both.1))
      at_place s (pair (symbol home name) forms) asks = all_values s forms (steps.parts s (symbol home name) forms asks).1
      at_place s _ asks = steps.all_refused s _ (omega arith, omega arith)

      before_place : (s : WorldState) (x : Object) → Asks s x → All s (values_before_place_by based names s x)
      before_place s (pair x (pair (pair head subforms) forms)) asks =
          let both = steps.parts s x (pair (pair head subforms) forms) asks in
          let place = steps.parts s (pair head subforms) forms both.1 in
          let given = (steps.parts s head subforms place.0).1 in
          steps.one_more s (value_by based names s x) (λ later. values_by based names later subforms) (every_value s x both.0) (λ t still. all_values t subforms (still subforms given))
      before_place s _ asks = steps.all_refused s _ (omega arith, omega arith)
