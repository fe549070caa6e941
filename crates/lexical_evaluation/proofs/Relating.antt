-- One induction over the value of a form in the language with functions: a relation between the state before it and the state after it,
-- and what was written, holds where it holds of each operator; and a form is refused under a number of which this is known.
--     Kept, Makes      what is said of an outcome, and of one that gives a function
--     OperatorsKeep, RulesKeep      what is asked of the operators, and of the rules
--     every_value      the value of a form
use Rattle.std.proofs.Common.{◌≡◌, ◌≤◌, ◌-◌, ℕ, nat_le, ◌==◌, Bool, true, false, not, ◌&&◌, ◌||◌, if◌then◌else◌, List, [], ◌∷◌, ◌++◌, length, Option, Some, None, option_map, Ok, Err, codes, refl, arith}
use Rattle.lisp_object.specs.Object.{Object, integer, rational, character, text, symbol, uninterned, pair, vector, nil, list_of, is_proper_list}
use Rattle.lisp_object.specs.declared.refusal.TheConstants.{ARGUMENT_COUNT}
use Rattle.kept_functions.specs.declared.bounds.TheConstants.{TOO_MANY_STEPS}
use Rattle.plist_state.specs.Properties.{Symbol}
use Rattle.plist_state.specs.State.{WorldState}
use Rattle.lisp_operators.specs.ArgumentKinds.{is_true, is_pair}
use Rattle.lisp_operators.specs.Evaluation.{Evaluation, also, and_then, of_kind, gives}
use Rattle.lisp_operators.specs.Packages.{enter, intern}
use Rattle.lisp_operators.specs.Properties.{t, increment, push, set}
use Rattle.evaluator.specs.Operators.{Operator, Action, quotes, sequence, chooses, assigns, increments, pushes, enters_package, calls, seeks, selects, guards, keeps_first, asserts, changes, is_interned, is_standard, count, counts, first}
use Rattle.evaluator.specs.Value.{last, has_truth, are_clauses, has_default, rest, place_refusal, get_place_refusal, default_place_refusal, set_place_by}
use Rattle.evaluator.proofs.Induction.{IsNumbered, place_numbered, get_place_numbered, default_place_numbered}
use Rattle.kept_functions.specs.Environments.{Environment, bound, binding, variables_of}
use Rattle.kept_functions.specs.Definitions.{Definition, definition_of, definition_indicator, a_definable, own_indicator, with_definition_indicator, kept_beside}
use Rattle.kept_functions.specs.Counting.{Point, Reached, Counting, here, wrote_too, then_on, spending, weight, weighing, at_point}
use Rattle.kept_functions.specs.LocalOperators.{is_own_symbol, takes_so_many}
use Rattle.kept_functions.specs.declared.local_operator.LocalOperator.{LocalOperator}
use Rattle.kept_functions.specs.declared.local_operator.LocalOperator.TheVariants.{Let, LetInTurn, Funcall, Sweeps, GivesValues, Defun, DefineReader}
use Rattle.lexical_evaluation.specs.Values.{Applied, LexicalRules, FormParts, Head, an_operator, a_local, a_function, unknown, head_or, local_or, function_or_unknown, function_head, head_of, last_counted, steps_over_packages, called_operator, called_function, called_or, named_function, are_bindings, variable_named, unless_refused, made_of, action_in, local_value, form_value, variable_value, written_call, written_function, value_in, values_in, choice_in, other_value_in, sought_value_in, selected_in, guarded_in, values_at_place_in, values_before_place_in, bound_in, extended_in, function_in_form, quoted_function_in, lambda_in, applied_in}

-- A relation between two states and what was written, which goes on from one state to the next; and the numbers of refusals.
module _ (Relates : WorldState → WorldState → Bool → Type 0) (IsCode : ℕ → Type 0) where
  pub record Relation : Type 0 where
    pub none : (s : WorldState) → Relates s s false
    pub both : (s t u : WorldState) (a b : Bool) → Relates s t a → Relates t u b → Relates s u (a || b)
    pub numbers : (code : ℕ) → 30 ≤ code → code ≤ 49 → IsCode code

  -- ---- what is said of outcomes
  abbrev pub KeptAfter : {A : Type 0} → WorldState → Counting A → Type 0
  KeptAfter s (Ok r) = Relates s r.point.state r.wrote
  KeptAfter s (Err code) = IsCode code

  pub record Kept {A : Type 0} (s : WorldState) (o : Counting A) : Type 0 where
    pub kept : KeptAfter s o

  -- of an evaluation that counts no steps
  abbrev pub KeptBy : WorldState → Evaluation Object → Type 0
  KeptBy s (Ok d) = Relates s d.state d.wrote
  KeptBy s (Err code) = IsCode code

  abbrev pub FunctionKeeps : (List Object → WorldState → Evaluation Object) → Type 0
  FunctionKeeps function = (xs : List Object) (s : WorldState) → KeptBy s (function xs s)

  abbrev pub IsKeeping : Applied → Type 0
  IsKeeping apply = (xs : List Object) (p : Point) → Kept p.state (apply xs p)

  abbrev pub MakesAfter : WorldState → Counting Applied → Type 0
  MakesAfter s (Ok r) = Relates s r.point.state r.wrote × IsKeeping r.value
  MakesAfter s (Err code) = IsCode code

  pub record Makes (s : WorldState) (o : Counting Applied) : Type 0 where
    pub made : MakesAfter s o

  -- ---- what is asked of operators
  abbrev pub ActionKeeps : Action → Type 0
  ActionKeeps (calls function) = FunctionKeeps function
  ActionKeeps (changes function) = (default_given : Bool) → FunctionKeeps (function default_given)
  ActionKeeps _ = Unit {0}

  abbrev pub OperatorKeeps : Option Operator → Type 0
  OperatorKeeps (Some operator) = ActionKeeps operator.action
  OperatorKeeps None = Unit {0}

  pub record OperatorsKeep : Type 0 where
    pub sets_place : (place : Object) → FunctionKeeps (set_place_by true place)
    pub increments_place : FunctionKeeps increment
    pub pushes_place : FunctionKeeps push
    pub enters : (x : Object) (s : WorldState) → KeptBy s (enter x s)
    pub interns : FunctionKeeps intern
    pub sets_property : FunctionKeeps set

  pub record RulesKeep (rules : LexicalRules) : Type 0 where
    pub operators : (head : Object) → OperatorKeeps (rules.table head)
    pub globals : (x : Symbol) (p : Point) → Kept p.state (rules.global x p)
    pub called : (definition : Definition) → IsKeeping (rules.call definition)
    pub readers : (arguments : Object) (p : Point) → Kept p.state (rules.defined_reader arguments p)

  module _ (is : Relation) where
    pub refused : {A : Type 0} (s : WorldState) (code : ℕ) → 30 ≤ code → code ≤ 49 → Kept {A = A} s (Err code)
    refused s code from to = record { kept = is.numbers code from to }

    pub kept_here : {A : Type 0} (x : A) (p : Point) → Kept p.state (here x p)
    kept_here x p = record { kept = is.none p.state }

    pub kept_if : {A : Type 0} (s : WorldState) (b : Bool) (x y : Counting A) → Kept s x → Kept s y → Kept s (if b then x else y)
    kept_if s true x y first' second = first'
    kept_if s false x y first' second = second

    kept_too : {A : Type 0} (s v : WorldState) (wrote : Bool) (o : Counting A) → Relates s v wrote → Kept v o → Kept s (wrote_too wrote o)
    kept_too s v wrote (Ok r) before after = record { kept = is.both s v r.point.state wrote r.wrote before after.kept }
    kept_too s v wrote (Err code) before after = record { kept = after.kept }

    pub kept_then : {A B : Type 0} (s : WorldState) (o : Counting A) (next : A → Point → Counting B) → Kept s o → ((x : A) (q : Point) → Kept q.state (next x q)) → Kept s (then_on o next)
    kept_then s (Ok r) next before after = kept_too s r.point.state r.wrote (next r.value r.point) before.kept (after r.value r.point)
    kept_then s (Err code) next before after = record { kept = before.kept }

    -- so many steps, where they are left
    pub kept_spent : {A : Type 0} (s : WorldState) (steps left : ℕ) (o : Counting A) → Kept s o → Kept s (if nat_le steps left then o else Err TOO_MANY_STEPS)
    kept_spent s steps left o kept = kept_if s (nat_le steps left) o (Err TOO_MANY_STEPS) kept (refused s _ (omega arith) (omega arith))

    pub kept_at : (p : Point) (o : Evaluation Object) → KeptBy p.state o → Kept p.state (at_point p o)
    kept_at p (Ok d) related = kept_if p.state (nat_le (weight d.value) p.left) _ _ (record { kept = related }) (refused p.state _ (omega arith) (omega arith))
    kept_at p (Err code) known = record { kept = known }

    -- a function that was made, and then what is done with it
    with_too : (s v : WorldState) (wrote : Bool) (o : Counting Applied) → Relates s v wrote → Makes v o → Makes s (wrote_too wrote o)
    with_too s v wrote (Ok r) before after = record { made = (is.both s v r.point.state wrote r.wrote before after.made.0, after.made.1) }
    with_too s v wrote (Err code) before after = record { made = after.made }

    makes_then : {A : Type 0} (s : WorldState) (o : Counting A) (next : A → Point → Counting Applied) → Kept s o → ((x : A) (q : Point) → Makes q.state (next x q)) → Makes s (then_on o next)
    makes_then s (Ok r) next before after = with_too s r.point.state r.wrote (next r.value r.point) before.kept (after r.value r.point)
    makes_then s (Err code) next before after = record { made = before.kept }

    with_function : {B : Type 0} (s : WorldState) (o : Counting Applied) (next : Applied → Point → Counting B) → Makes s o → ((apply : Applied) → IsKeeping apply → (q : Point) → Kept q.state (next apply q)) → Kept s (then_on o next)
    with_function s (Ok r) next before after = kept_too s r.point.state r.wrote (next r.value r.point) before.made.0 (after r.value before.made.1 r.point)
    with_function s (Err code) next before after = record { kept = before.made }

    makes_here : (apply : Applied) (p : Point) → IsKeeping apply → Makes p.state (here apply p)
    makes_here apply p keeps = record { made = (is.none p.state, keeps) }

    makes_refused : (s : WorldState) (code : ℕ) → 30 ≤ code → code ≤ 49 → Makes s (Err code)
    makes_refused s code from to = record { made = is.numbers code from to }

    makes_if : (s : WorldState) (b : Bool) (x y : Counting Applied) → Makes s x → Makes s y → Makes s (if b then x else y)
    makes_if s true x y first' second = first'
    makes_if s false x y first' second = second

    -- ---- DEFUN and DEFINE-READER keep a definition by INTERN and SETF
    also_by : (s v : WorldState) (wrote : Bool) (o : Evaluation Object) → Relates s v wrote → KeptBy v o → KeptBy s (also wrote o)
    also_by s v wrote (Ok d) before after = is.both s v d.state wrote d.wrote before after
    also_by s v wrote (Err code) before after = after

    then_by : (s : WorldState) (o : Evaluation Object) (next : Object → WorldState → Evaluation Object) → KeptBy s o → ((x : Object) (v : WorldState) → KeptBy v (next x v)) → KeptBy s (and_then o next)
    then_by s (Ok d) next before after = also_by s d.state d.wrote (next d.value d.state) before (after d.value d.state)
    then_by s (Err code) next before after = before

    indicator_by : (s : WorldState) (o : Option Symbol) (on : Symbol → Evaluation Object) → ((x : Symbol) → KeptBy s (on x)) → KeptBy s (with_definition_indicator o on)
    indicator_by s (Some x) on each = each x
    indicator_by s None on each = is.numbers _ (omega arith) (omega arith)

    pub kind_by : {A : Type 0} (s : WorldState) (o : Option A) (on : A → Evaluation Object) → ((x : A) → KeptBy s (on x)) → KeptBy s (of_kind o on)
    kind_by s (Some x) on each = each x
    kind_by s None on each = is.numbers _ (omega arith) (omega arith)

    module _ (all : OperatorsKeep) where
      pub beside_by : (i : Symbol) (name definition : Object) (s : WorldState) → KeptBy s (kept_beside i name definition s)
      beside_by i name definition s =
          then_by s (intern (text i.1 ∷ text i.0 ∷ []) s) _ (all.interns (text i.1 ∷ text i.0 ∷ []) s) (λ found later.
          indicator_by later (own_indicator i found) _ (λ own.
          then_by later (set (name ∷ symbol own.0 own.1 ∷ definition ∷ []) later) _ (all.sets_property (name ∷ symbol own.0 own.1 ∷ definition ∷ []) later) (λ _ end'. is.none end')))

      module _ (rules : LexicalRules) (keeps : RulesKeep rules) where
        -- ---- functions by their names
        called_by : (head : Object) (operator : Operator) (action : Action) → ActionKeeps action → IsKeeping (called_operator head operator action)
        called_by head operator (calls function) holds xs p =
            kept_if p.state (counts operator (length xs)) _ _
            (kept_spent p.state (steps_over_packages head) p.left _ (kept_at (record { state = p.state; left = p.left - steps_over_packages head }) (function xs p.state) (holds xs p.state)))
            (refused p.state _ (omega arith) (omega arith))
        called_by head operator _ holds xs p = refused p.state _ (omega arith) (omega arith)

        function_by : (found : Option Definition) → IsKeeping (called_function rules found)
        function_by (Some definition) xs p = keeps.called definition xs p
        function_by None xs p = refused p.state _ (omega arith) (omega arith)

        called_or_by : (x : Symbol) (operator : Option Operator) → OperatorKeeps operator → IsKeeping (called_or rules x operator)
        called_or_by x (Some operator) holds xs p = called_by (symbol x.0 x.1) operator operator.action holds xs p
        called_or_by x None holds xs p = function_by (rules.function p.state x) xs p

        named_by : (x : Object) → IsKeeping (named_function rules x)
        named_by (symbol home name) xs p = called_or_by (home, name) (rules.table (symbol home name)) (keeps.operators (symbol home name)) xs p
        named_by _ xs p = refused p.state _ (omega arith) (omega arith)

        -- ---- what is at the head of a form
        abbrev HeadKeeps : Head → Type 0
        HeadKeeps (an_operator operator) = ActionKeeps operator.action
        HeadKeeps (a_local operator) = Unit {0}
        HeadKeeps a_function = Unit {0}
        HeadKeeps unknown = Unit {0}

        operator_head : (other : Head) (o : Option Operator) → HeadKeeps other → OperatorKeeps o → HeadKeeps (head_or other o)
        operator_head other (Some operator) else' holds = holds
        operator_head other None else' holds = else'

        local_head : (other : Head) (o : Option LocalOperator) → HeadKeeps other → HeadKeeps (local_or other o)
        local_head other (Some operator) else' = tt
        local_head other None else' = else'

        found_head : (found : Option Definition) → HeadKeeps (function_or_unknown found)
        found_head (Some definition) = tt
        found_head None = tt

        function_of_head : (s : WorldState) (x : Object) → HeadKeeps (function_head rules s x)
        function_of_head s (symbol home name) = found_head (rules.function s (home, name))
        function_of_head s _ = tt

        head_keeps : (s : WorldState) (x : Object) → HeadKeeps (head_of rules s x)
        head_keeps s x = operator_head _ (rules.table x) (local_head _ (rules.locals x) (function_of_head s x)) (keeps.operators x)

        -- ---- a form, by its parts
        record PartsKeep (s : WorldState) (g : FormParts) : Type 0 where
          in_order : Kept s g.in_order
          chosen : Kept s g.chosen
          at_place : Kept s g.at_place
          before_place : Kept s g.before_place
          first_one : Kept s g.first_one
          sought : (truth : Bool) → Kept s (g.sought truth)
          selected : Kept s g.selected
          guarded : (truth : Bool) → Kept s (g.guarded truth)
          binds : (in_turn : Bool) → Kept s (g.binds in_turn)
          applied : Kept s g.applied

        pub last_by : (s : WorldState) (values : Counting (List Object)) → Kept s values → Kept s (last_counted values)
        last_by s values kept = kept_then s values _ kept (λ xs later. kept_here (last xs) later)

        made_by : (s : WorldState) (steps : ℕ) (values : Counting (List Object)) (function : List Object → WorldState → Evaluation Object) → Kept s values → FunctionKeeps function → Kept s (made_of steps values function)
        made_by s steps values function kept holds = kept_then s values _ kept (λ xs later. kept_spent later.state steps later.left _ (kept_at (record { state = later.state; left = later.left - steps }) (function xs later.state) (holds xs later.state)))

        unless_by : (s : WorldState) (o : Option ℕ) (on : Counting Object) → IsNumbered o → Kept s on → Kept s (unless_refused o on)
        unless_by s (Some code) on number kept = let from : 30 ≤ code = number.0 in let to : code ≤ 47 = number.1 in refused s code from (omega arith)
        unless_by s None on number kept = kept

        action_by : (head : Object) (p : Point) (action : Action) (arguments : Object) (g : FormParts) → ActionKeeps action → PartsKeep p.state g → Kept p.state (action_in head p action arguments g)
        action_by head p quotes arguments g holds parts = kept_here (first arguments) p
        action_by head p sequence arguments g holds parts = last_by p.state g.in_order parts.in_order
        action_by head p chooses arguments g holds parts = parts.chosen
        action_by head p assigns arguments g holds parts = unless_by p.state (place_refusal (first arguments)) _ (place_numbered true (first arguments)) (made_by p.state 0 g.at_place (set_place_by true (first arguments)) parts.at_place (all.sets_place (first arguments)))
        action_by head p increments arguments g holds parts = unless_by p.state (get_place_refusal (first arguments)) _ (get_place_numbered (first arguments)) (made_by p.state 0 g.at_place increment parts.at_place all.increments_place)
        action_by head p pushes arguments g holds parts = unless_by p.state (get_place_refusal (first (rest arguments))) _ (get_place_numbered (first (rest arguments))) (made_by p.state 0 g.before_place push parts.before_place all.pushes_place)
        action_by head p enters_package arguments g holds parts = kept_at p (enter (first arguments) p.state) (all.enters (first arguments) p.state)
        action_by head p (calls function) arguments g holds parts = made_by p.state (steps_over_packages head) g.in_order function parts.in_order holds
        action_by head p (seeks truth) arguments g holds parts = parts.sought truth
        action_by head p selects arguments g holds parts = kept_if p.state (are_clauses arguments) _ _ parts.selected (refused p.state _ (omega arith) (omega arith))
        action_by head p (guards truth) arguments g holds parts = parts.guarded truth
        action_by head p keeps_first arguments g holds parts = kept_then p.state g.in_order _ parts.in_order (λ xs later. kept_here (first (list_of xs)) later)
        action_by head p asserts arguments g holds parts = kept_then p.state g.first_one _ parts.first_one (λ x later. kept_if later.state (is_true x) _ _ (kept_here nil later) (refused later.state _ (omega arith) (omega arith)))
        action_by head p (changes function) arguments g holds parts =
            unless_by p.state (default_place_refusal (first arguments)) _ (default_place_numbered (first arguments))
            (made_by p.state 0 g.at_place (function (has_default (first arguments))) parts.at_place (holds (has_default (first arguments))))

        local_by : (p : Point) (operator : LocalOperator) (arguments : Object) (g : FormParts) → PartsKeep p.state g → Kept p.state (local_value rules p operator arguments g)
        local_by p Let arguments g parts = parts.binds false
        local_by p LetInTurn arguments g parts = parts.binds true
        local_by p Funcall arguments g parts = parts.applied
        local_by p (Sweeps sweep) arguments g parts = refused p.state _ (omega arith) (omega arith)
        local_by p GivesValues arguments g parts = parts.first_one
        local_by p Defun arguments g parts = kept_at p _ (kind_by p.state (a_definable (first arguments)) _ (λ _. kind_by p.state (definition_of (rest arguments)) _ (λ _. beside_by definition_indicator (first arguments) (rest arguments) p.state)))
        local_by p DefineReader arguments g parts = keeps.readers arguments p

        form_by : (p : Point) (head : Object) (at_head : Head) (arguments : Object) (g : FormParts) → HeadKeeps at_head → PartsKeep p.state g → Kept p.state (form_value rules p head at_head arguments g)
        form_by p head (an_operator operator) arguments g holds parts = kept_if p.state (not (counts operator (count arguments))) _ _ (refused p.state _ (omega arith) (omega arith)) (action_by head p operator.action arguments g holds parts)
        form_by p head (a_local operator) arguments g holds parts = kept_if p.state (not (takes_so_many operator (count arguments))) _ _ (refused p.state _ (omega arith) (omega arith)) (local_by p operator arguments g parts)
        form_by p head a_function arguments g holds parts = kept_then p.state g.in_order _ parts.in_order (λ xs later. named_by head xs later)
        form_by p head unknown arguments g holds parts = refused p.state _ (omega arith) (omega arith)

        variable_by : (x : Symbol) (p : Point) (o : Option Object) → Kept p.state (variable_value rules x p o)
        variable_by x p (Some v) = kept_if p.state (nat_le (weight v) p.left) _ _ (record { kept = is.none p.state }) (refused p.state _ (omega arith) (omega arith))
        variable_by x p None = keeps.globals x p

        -- ---- a function that a form writes down
        written_by : (parts : Object) (variables : Option (List Symbol)) (body : Environment → Point → Counting Object) (around : Environment) (p : Point)
            → ((inner : Environment) (q : Point) → Kept q.state (body inner q)) → Makes p.state (written_function parts variables body around p)
        written_by parts (Some variables) body around p each =
            makes_here (written_call parts variables body around) p (λ xs q.
            kept_if q.state (length variables == length xs) _ _
            (kept_spent q.state (weight parts) q.left _ (each (binding variables xs around) (record { state = q.state; left = q.left - weight parts })))
            (refused q.state _ (omega arith) (omega arith)))
        written_by parts None body around p each = makes_refused p.state _ (omega arith) (omega arith)

        named_then : (p : Point) (plain : Counting Object) → Kept p.state plain → Makes p.state (then_on plain (λ y later. here (named_function rules y) later))
        named_then p plain kept = makes_then p.state plain _ kept (λ y later. makes_here (named_function rules y) later (named_by y))

        named_only : (p : Point) (x others : Object) → Makes p.state (if count others == 0 then here (named_function rules x) p else Err ARGUMENT_COUNT)
        named_only p x others = makes_if p.state (count others == 0) _ _ (makes_here (named_function rules x) p (named_by x)) (makes_refused p.state _ (omega arith) (omega arith))

        mutual
          unfolding value_in

          pub every_value : (around : Environment) (p : Point) (x : Object) → Kept p.state (value_in rules around p x)
          every_value around p (pair head arguments) =
              kept_if p.state (not (is_interned head && is_proper_list arguments)) _ _ (refused p.state _ (omega arith) (omega arith))
              (kept_spent p.state 1 p.left _
              (let begun : Point = record { state = p.state; left = p.left - 1 } in
              form_by begun head (head_of rules p.state head) arguments _ (head_keeps p.state head)
              (record {
                in_order = all_values around begun arguments;
                chosen = of_choice around begun arguments;
                at_place = at_place around begun arguments;
                before_place = before_place around begun arguments;
                first_one = of_other around begun arguments;
                sought = λ truth. of_sought around truth begun arguments;
                selected = of_clauses around begun arguments;
                guarded = λ truth. of_guarded around truth begun arguments;
                binds = λ in_turn. of_bindings around in_turn begun arguments;
                applied = of_application around begun arguments;
              })))
          every_value around p (symbol home name) = variable_by (home, name) p (bound around (home, name))
          every_value around p (uninterned name) = refused p.state _ (omega arith) (omega arith)
          every_value around p (integer n) = kept_here (integer n) p
          every_value around p (rational n d) = kept_here (rational n d) p
          every_value around p (character c) = kept_here (character c) p
          every_value around p (text characters) = kept_here (text characters) p
          every_value around p (vector xs) = kept_here (vector xs) p

          pub all_values : (around : Environment) (p : Point) (x : Object) → Kept p.state (values_in rules around p x)
          all_values around p (pair x xs) = kept_then p.state (value_in rules around p x) _ (every_value around p x) (λ y later. kept_then later.state (values_in rules around later xs) _ (all_values around later xs) (λ ys end'. kept_here (y ∷ ys) end'))
          all_values around p _ = kept_here [] p

          of_choice : (around : Environment) (p : Point) (x : Object) → Kept p.state (choice_in rules around p x)
          of_choice around p (pair test (pair then' others)) = kept_then p.state (value_in rules around p test) _ (every_value around p test) (λ x later. kept_if later.state (is_true x) _ _ (every_value around later then') (of_other around later others))
          of_choice around p _ = refused p.state _ (omega arith) (omega arith)

          of_other : (around : Environment) (p : Point) (x : Object) → Kept p.state (other_value_in rules around p x)
          of_other around p (pair x xs) = every_value around p x
          of_other around p _ = kept_here nil p

          of_sought : (around : Environment) (truth : Bool) (p : Point) (x : Object) → Kept p.state (sought_value_in rules around truth p x)
          of_sought around truth p (pair x xs) = kept_then p.state (value_in rules around p x) _ (every_value around p x) (λ y later. kept_if later.state (has_truth truth y) _ _ (kept_here y later) (kept_if later.state (is_pair xs) _ _ (of_sought around truth later xs) (kept_here y later)))
          of_sought around truth p _ = kept_here (if truth then nil else t) p

          of_clauses : (around : Environment) (p : Point) (x : Object) → Kept p.state (selected_in rules around p x)
          of_clauses around p (pair (pair test forms) others) =
              kept_if p.state (not (is_proper_list forms)) _ _ (refused p.state _ (omega arith) (omega arith))
              (kept_then p.state (value_in rules around p test) _ (every_value around p test) (λ y later.
              kept_if later.state (is_true y) _ _
              (kept_if later.state (is_pair forms) _ _ (last_by later.state (values_in rules around later forms) (all_values around later forms)) (kept_here y later))
              (of_clauses around later others)))
          of_clauses around p (pair _ others) = refused p.state _ (omega arith) (omega arith)
          of_clauses around p _ = kept_here nil p

          of_guarded : (around : Environment) (truth : Bool) (p : Point) (x : Object) → Kept p.state (guarded_in rules around truth p x)
          of_guarded around truth p (pair test forms) =
              kept_then p.state (value_in rules around p test) _ (every_value around p test) (λ y later.
              kept_if later.state (has_truth truth y) _ _ (last_by later.state (values_in rules around later forms) (all_values around later forms)) (kept_here nil later))
          of_guarded around truth p _ = refused p.state _ (omega arith) (omega arith)

          at_place : (around : Environment) (p : Point) (x : Object) → Kept p.state (values_at_place_in rules around p x)
          at_place around p (pair (pair operator subforms) forms) = kept_then p.state (values_in rules around p subforms) _ (all_values around p subforms) (λ xs later. kept_then later.state (values_in rules around later forms) _ (all_values around later forms) (λ ys end'. kept_here (xs ++ ys) end'))
          at_place around p (pair (symbol home name) forms) = all_values around p forms
          at_place around p _ = refused p.state _ (omega arith) (omega arith)

          before_place : (around : Environment) (p : Point) (x : Object) → Kept p.state (values_before_place_in rules around p x)
          before_place around p (pair x (pair (pair operator subforms) forms)) =
              kept_then p.state (value_in rules around p x) _ (every_value around p x) (λ y later.
              kept_then later.state (values_in rules around later subforms) _ (all_values around later subforms) (λ ys end'. kept_here (y ∷ ys) end'))
          before_place around p _ = refused p.state _ (omega arith) (omega arith)

          of_bindings : (around : Environment) (in_turn : Bool) (p : Point) (x : Object) → Kept p.state (bound_in rules around in_turn p x)
          of_bindings around in_turn p (pair bindings forms) =
              kept_if p.state (not (are_bindings bindings)) _ _ (refused p.state _ (omega arith) (omega arith))
              (kept_then p.state (extended_in rules in_turn around around p bindings) _ (of_extended in_turn around around p bindings) (λ inner later.
              last_by later.state (values_in rules inner later forms) (all_values inner later forms)))
          of_bindings around in_turn p _ = refused p.state _ (omega arith) (omega arith)

          of_extended : (in_turn : Bool) (around inner : Environment) (p : Point) (x : Object) → Kept p.state (extended_in rules in_turn around inner p x)
          of_extended in_turn around inner p (pair (pair x (pair form others)) bindings) =
              kept_if p.state (not (is_proper_list others)) _ _ (refused p.state _ (omega arith) (omega arith))
              (kept_then p.state (value_in rules (if in_turn then inner else around) p form) _ (every_value (if in_turn then inner else around) p form) (λ y later.
              of_extended in_turn around ((variable_named x, y) ∷ inner) later bindings))
          of_extended in_turn around inner p (pair _ bindings) = refused p.state _ (omega arith) (omega arith)
          of_extended in_turn around inner p _ = kept_here inner p

          of_function : (around : Environment) (p : Point) (x : Object) (plain : Counting Object) → Kept p.state plain → Makes p.state (function_in_form rules around p x plain)
          of_function around p (pair head arguments) plain kept =
              makes_if p.state (is_own_symbol (codes "LAMBDA") head && is_proper_list arguments) _ _ (of_lambda around p arguments)
              (makes_if p.state (is_standard (codes "FUNCTION") head && is_proper_list arguments) _ _ (of_quoted around p arguments) (named_then p plain kept))
          of_function around p _ plain kept = named_then p plain kept

          of_quoted : (around : Environment) (p : Point) (x : Object) → Makes p.state (quoted_function_in rules around p x)
          of_quoted around p (pair (pair head arguments) others) =
              makes_if p.state (not (count others == 0)) _ _ (makes_refused p.state _ (omega arith) (omega arith))
              (makes_if p.state (is_own_symbol (codes "LAMBDA") head && is_proper_list arguments) _ _ (of_lambda around p arguments) (makes_refused p.state _ (omega arith) (omega arith)))
          of_quoted around p (pair (symbol home name) others) = named_only p (symbol home name) others
          of_quoted around p (pair (uninterned name) others) = named_only p (uninterned name) others
          of_quoted around p (pair (integer n) others) = named_only p (integer n) others
          of_quoted around p (pair (rational n d) others) = named_only p (rational n d) others
          of_quoted around p (pair (character c) others) = named_only p (character c) others
          of_quoted around p (pair (text characters) others) = named_only p (text characters) others
          of_quoted around p (pair (vector xs) others) = named_only p (vector xs) others
          of_quoted around p _ = makes_refused p.state _ (omega arith) (omega arith)

          of_lambda : (around : Environment) (p : Point) (x : Object) → Makes p.state (lambda_in rules around p x)
          of_lambda around p (pair variables body) = written_by (pair variables body) (variables_of variables) _ around p (λ inner q. last_by q.state (values_in rules inner q body) (all_values inner q body))
          of_lambda around p _ = makes_refused p.state _ (omega arith) (omega arith)

          of_application : (around : Environment) (p : Point) (x : Object) → Kept p.state (applied_in rules around p x)
          of_application around p (pair f others) =
              with_function p.state (function_in_form rules around p f (value_in rules around p f)) _ (of_function around p f (value_in rules around p f) (every_value around p f)) (λ apply holds later.
              kept_then later.state (values_in rules around later others) _ (all_values around later others) (λ xs end'. holds xs end'))
          of_application around p _ = refused p.state _ (omega arith) (omega arith)
