-- What a form gives in the language with functions by some rules, it gives by others, whose operators give what those of the first give.
--     OperatorMore      what is asked of two operators
--     same_operator, called_more      the same operator; functions of values, of which the second gives what the first gives
--     more_value      the value of a form
--     lexical_more      where these are the names of macro functions, and more of them
use Rattle.std.proofs.Common.{◌≡◌, ◌-◌, ℕ, zero, suc, nat_le, ◌==◌, Bool, true, false, not, ◌&&◌, if◌then◌else◌, List, [], ◌∷◌, ◌++◌, length, Option, Some, None, Ok, Err, codes, refl, ap, subst, ◌∙◌}
use Rattle.lisp_object.specs.Object.{Object, integer, rational, character, text, symbol, uninterned, pair, vector, nil, is_proper_list}
use Rattle.lisp_object.specs.declared.refusal.TheConstants.{ARGUMENT_COUNT}
use Rattle.package_table.specs.Table.{Name}
use Rattle.plist_state.specs.Properties.{Symbol}
use Rattle.plist_state.specs.State.{WorldState}
use Rattle.lisp_operators.specs.ArgumentKinds.{is_true, is_pair}
use Rattle.lisp_operators.specs.Evaluation.{Done, Evaluation}
use Rattle.evaluator.specs.Operators.{Operator, calls, is_interned, is_standard, count, counts, operator_of}
use Rattle.evaluator.specs.Value.{has_truth}
use Rattle.evaluator.proofs.Widening.{Widens}
use Rattle.kept_functions.specs.Environments.{Environment, bound, binding, variables_of}
use Rattle.kept_functions.specs.Definitions.{Definition}
use Rattle.kept_functions.specs.Counting.{Point, Counting, here, then_on, weight, without_count}
use Rattle.kept_functions.specs.LocalOperators.{is_own_symbol, takes_so_many}
use Rattle.kept_functions.specs.declared.local_operator.LocalOperator.{LocalOperator}
use Rattle.kept_functions.specs.declared.local_operator.LocalOperator.TheVariants.{Let, LetInTurn, Funcall, Sweeps, GivesValues, Defun, DefineReader}
use Rattle.kept_functions.specs.declared.bounds.TheConstants.{MOST_CALLS, MOST_STEPS}
use Rattle.lexical_evaluation.specs.Values.{Applied, LexicalRules, FormParts, Head, an_operator, a_local, a_function, unknown, head_or, local_or, function_or_unknown, function_head, steps_over_packages, called_operator, called_function, called_or, named_function, are_bindings, variable_named, action_in, local_value, form_value, variable_value, written_function, value_in, values_in, choice_in, other_value_in, sought_value_in, selected_in, guarded_in, values_at_place_in, values_before_place_in, bound_in, extended_in, function_in_form, quoted_function_in, lambda_in, applied_in}
use Rattle.lexical_evaluation.specs.Calls.{rules_with, call_at, lexical_value}
use Rattle.lexical_evaluation.proofs.MoreOutcomes.{More, MoreFunction, MakesMore, more_same, more_if, more_then, makes_if, makes_then, with_more, PartsMore, more_last, more_spent, more_at, more_made, more_action}

-- what a form with an operator gives, whose arguments are counted first
abbrev pub counted_action : Point → Object → Operator → Object → FormParts → Counting Object
counted_action p head operator arguments g = if not (counts operator (count arguments)) then Err ARGUMENT_COUNT else action_in head p operator.action arguments g

pub record SomeMore (a b : Operator) : Type 0 where
  pub forms : (p : Point) (head arguments : Object) (g h : FormParts) → PartsMore g h → More (counted_action p head a arguments g) (counted_action p head b arguments h)
  pub values : (head : Object) → MoreFunction (called_operator head a a.action) (called_operator head b b.action)

abbrev pub BothMore : Option Operator → Option Operator → Type 0
BothMore (Some a) (Some b) = SomeMore a b
BothMore None None = Unit {0}
BothMore _ _ = ⊥

pub record OperatorMore (x y : Option Operator) : Type 0 where
  pub both : BothMore x y

pub same_operator : (x : Option Operator) → OperatorMore x x
same_operator (Some a) = record {
  both = record {
    forms = λ p head arguments g h all. more_if (not (counts a (count arguments))) _ _ _ _ (record { same = tt }) (more_action head p a.action arguments g h all);
    values = λ head xs p. more_same (called_operator head a a.action xs p);
  };
}
same_operator None = record { both = tt }

pub called_more : (least : ℕ) (most : Option ℕ) (f g : List Object → WorldState → Evaluation Object) → ((xs : List Object) (s : WorldState) → Widens (f xs s) (g xs s))
    → OperatorMore (Some (record { least = least; most = most; action = calls f })) (Some (record { least = least; most = most; action = calls g }))
called_more least most f g each = record {
  both = record {
    forms = λ p head arguments x y all.
        more_if (not (counts (record { least = least; most = most; action = calls f }) (count arguments))) _ _ _ _ (record { same = tt })
        (more_made (steps_over_packages head) x.in_order y.in_order f g all.in_order each);
    values = λ head xs p.
        more_if (counts (record { least = least; most = most; action = calls f }) (length xs)) _ _ _ _
        (more_spent (nat_le (steps_over_packages head) p.left) _ _ (more_at (record { state = p.state; left = p.left - steps_over_packages head }) (f xs p.state) (g xs p.state) (each xs p.state)))
        (record { same = tt });
  };
}

-- ---- two programs, of which the second knows more names
module _ (fewer more : List Name) (operators : (head : Object) → OperatorMore (operator_of fewer head) (operator_of more head)) where
  module _ (few many : Definition → Applied) (called : (definition : Definition) → MoreFunction (few definition) (many definition)) where
    abbrev before : LexicalRules
    before = rules_with fewer few

    abbrev now : LexicalRules
    now = rules_with more many

    function_more : (found : Option Definition) → MoreFunction (called_function before found) (called_function now found)
    function_more (Some definition) xs p = called definition xs p
    function_more None xs p = record { same = tt }

    or_more : (x : Symbol) (a b : Option Operator) → OperatorMore a b → MoreFunction (called_or before x a) (called_or now x b)
    or_more x (Some a) (Some b) is xs p = is.both.values (symbol x.0 x.1) xs p
    or_more x None None is xs p = function_more (before.function p.state x) xs p
    or_more x (Some a) None is xs p = absurd is.both
    or_more x None (Some b) is xs p = absurd is.both

    named_more : (x : Object) → MoreFunction (named_function before x) (named_function now x)
    named_more (symbol home name) xs p = or_more (home, name) (operator_of fewer (symbol home name)) (operator_of more (symbol home name)) (operators (symbol home name)) xs p
    named_more _ xs p = record { same = tt }

    local_more : (p : Point) (operator : LocalOperator) (arguments : Object) (g h : FormParts) → PartsMore g h → More (local_value before p operator arguments g) (local_value now p operator arguments h)
    local_more p Let arguments g h all = all.binds false
    local_more p LetInTurn arguments g h all = all.binds true
    local_more p Funcall arguments g h all = all.applied
    local_more p (Sweeps sweep) arguments g h all = record { same = tt }
    local_more p GivesValues arguments g h all = all.first_one
    local_more p Defun arguments g h all = more_same (local_value before p Defun arguments g)
    local_more p DefineReader arguments g h all = more_same (local_value before p DefineReader arguments g)

    other_more : (p : Point) (head : Object) (other : Head) (arguments : Object) (g h : FormParts) → ((operator : Operator) → other ≡ an_operator operator → ⊥) → PartsMore g h
        → More (form_value before p head other arguments g) (form_value now p head other arguments h)
    other_more p head (an_operator operator) arguments g h never all = absurd (never operator refl)
    other_more p head (a_local operator) arguments g h never all = more_if (not (takes_so_many operator (count arguments))) _ _ _ _ (record { same = tt }) (local_more p operator arguments g h all)
    other_more p head a_function arguments g h never all = more_then g.in_order h.in_order _ _ all.in_order (λ xs later. named_more head xs later)
    other_more p head unknown arguments g h never all = record { same = tt }

    no_operator : (s : WorldState) (x : Object) (operator : Operator) → local_or (function_head before s x) (before.locals x) ≡ an_operator operator → ⊥
    no_operator s x operator is = of_local (function_head before s x) (before.locals x) is (of_function s x)
      where
        of_found : (found : Option Definition) → function_or_unknown found ≡ an_operator operator → ⊥
        of_found (Some definition) same = absurd (cc)
        of_found None same = absurd (cc)

        of_function : (s : WorldState) (x : Object) → function_head before s x ≡ an_operator operator → ⊥
        of_function s (symbol home name) same = of_found (before.function s (home, name)) same
        of_function s _ same = absurd (cc)

        of_local : (other : Head) (o : Option LocalOperator) → local_or other o ≡ an_operator operator → (other ≡ an_operator operator → ⊥) → ⊥
        of_local other (Some found) same none = absurd (cc)
        of_local other None same none = none same

    -- a name that is no operator means the same in both
    same_head : (s : WorldState) (x : Object) → function_head before s x ≡ function_head now s x
    same_head s (symbol home name) = refl
    same_head s _ = refl

    form_more : (p : Point) (head : Object) (a b : Option Operator) (arguments : Object) (g h : FormParts) → OperatorMore a b → PartsMore g h
        → More (form_value before p head (head_or (local_or (function_head before p.state head) (before.locals head)) a) arguments g)
        (form_value now p head (head_or (local_or (function_head now p.state head) (now.locals head)) b) arguments h)
    form_more p head (Some a) (Some b) arguments g h is all = is.both.forms p head arguments g h all
    form_more p head None None arguments g h is all =
        let other : Head = local_or (function_head before p.state head) (before.locals head) in
        subst (λ (f : Head). More (form_value before p head other arguments g) (form_value now p head (local_or f (now.locals head)) arguments h)) (same_head p.state head)
        (other_more p head other arguments g h (no_operator p.state head) all)
    form_more p head (Some a) None arguments g h is all = absurd is.both
    form_more p head None (Some b) arguments g h is all = absurd is.both

    variable_more : (x : Symbol) (p : Point) (o : Option Object) → More (variable_value before x p o) (variable_value now x p o)
    variable_more x p (Some v) = more_same (variable_value before x p (Some v))
    variable_more x p None = more_same (variable_value before x p None)

    makes_named : (x : Object) (p : Point) → MakesMore (here (named_function before x) p) (here (named_function now x) p)
    makes_named x p = record { made = (refl, (refl, named_more x)) }

    named_then : (o c : Counting Object) → More o c → MakesMore (then_on o (λ y later. here (named_function before y) later)) (then_on c (λ y later. here (named_function now y) later))
    named_then o c is = makes_then o c _ _ is (λ y later. makes_named y later)

    named_only : (p : Point) (x others : Object) → MakesMore (if count others == 0 then here (named_function before x) p else Err ARGUMENT_COUNT) (if count others == 0 then here (named_function now x) p else Err ARGUMENT_COUNT)
    named_only p x others = makes_if (count others == 0) _ _ _ _ (makes_named x p) (record { made = tt })

    written_more : (parts : Object) (variables : Option (List Symbol)) (f g : Environment → Point → Counting Object) (around : Environment) (p : Point) → ((inner : Environment) (q : Point) → More (f inner q) (g inner q))
        → MakesMore (written_function parts variables f around p) (written_function parts variables g around p)
    written_more parts (Some variables) f g around p each = record {
      made = (
        refl,
        (
          refl,
          λ xs q.
              more_if (length variables == length xs) _ _ _ _
              (more_spent (nat_le (weight parts) q.left) _ _ (each (binding variables xs around) (record { state = q.state; left = q.left - weight parts })))
              (record { same = tt }),
        ),
      );
    }
    written_more parts None f g around p each = record { made = tt }

    mutual
      unfolding value_in

      pub more_value : (around : Environment) (p : Point) (x : Object) → More (value_in before around p x) (value_in now around p x)
      more_value around p (pair head arguments) =
          more_if (not (is_interned head && is_proper_list arguments)) _ _ _ _ (record { same = tt })
          (more_spent (nat_le 1 p.left) _ _
          (let begun : Point = record { state = p.state; left = p.left - 1 } in
          form_more begun head (operator_of fewer head) (operator_of more head) arguments _ _ (operators head)
          (record {
            in_order = more_values around begun arguments;
            chosen = more_choice around begun arguments;
            at_place = more_at_place around begun arguments;
            before_place = more_before_place around begun arguments;
            first_one = more_other around begun arguments;
            sought = λ truth. more_sought around truth begun arguments;
            selected = more_selected around begun arguments;
            guarded = λ truth. more_guarded around truth begun arguments;
            binds = λ in_turn. more_bound around in_turn begun arguments;
            applied = more_applied around begun arguments;
          })))
      more_value around p (symbol home name) = variable_more (home, name) p (bound around (home, name))
      more_value around p (uninterned name) = record { same = tt }
      more_value around p (integer n) = record { same = refl }
      more_value around p (rational n d) = record { same = refl }
      more_value around p (character c) = record { same = refl }
      more_value around p (text characters) = record { same = refl }
      more_value around p (vector xs) = record { same = refl }

      pub more_values : (around : Environment) (p : Point) (x : Object) → More (values_in before around p x) (values_in now around p x)
      more_values around p (pair x xs) =
          more_then (value_in before around p x) (value_in now around p x) _ _ (more_value around p x) (λ y later.
          more_then (values_in before around later xs) (values_in now around later xs) _ _ (more_values around later xs) (λ ys end'. more_same (here (y ∷ ys) end')))
      more_values around p _ = record { same = refl }

      more_choice : (around : Environment) (p : Point) (x : Object) → More (choice_in before around p x) (choice_in now around p x)
      more_choice around p (pair test (pair then' others)) = more_then (value_in before around p test) (value_in now around p test) _ _ (more_value around p test) (λ x later. more_if (is_true x) _ _ _ _ (more_value around later then') (more_other around later others))
      more_choice around p _ = record { same = tt }

      more_other : (around : Environment) (p : Point) (x : Object) → More (other_value_in before around p x) (other_value_in now around p x)
      more_other around p (pair x xs) = more_value around p x
      more_other around p _ = record { same = refl }

      more_sought : (around : Environment) (truth : Bool) (p : Point) (x : Object) → More (sought_value_in before around truth p x) (sought_value_in now around truth p x)
      more_sought around truth p (pair x xs) =
          more_then (value_in before around p x) (value_in now around p x) _ _ (more_value around p x) (λ y later.
          more_if (has_truth truth y) _ _ _ _ (more_same (here y later)) (more_if (is_pair xs) _ _ _ _ (more_sought around truth later xs) (more_same (here y later))))
      more_sought around truth p _ = record { same = refl }

      more_selected : (around : Environment) (p : Point) (x : Object) → More (selected_in before around p x) (selected_in now around p x)
      more_selected around p (pair (pair test forms) others) =
          more_if (not (is_proper_list forms)) _ _ _ _ (record { same = tt })
          (more_then (value_in before around p test) (value_in now around p test) _ _ (more_value around p test) (λ y later.
          more_if (is_true y) _ _ _ _
          (more_if (is_pair forms) _ _ _ _ (more_last (values_in before around later forms) (values_in now around later forms) (more_values around later forms)) (more_same (here y later)))
          (more_selected around later others)))
      more_selected around p (pair _ others) = record { same = tt }
      more_selected around p _ = record { same = refl }

      more_guarded : (around : Environment) (truth : Bool) (p : Point) (x : Object) → More (guarded_in before around truth p x) (guarded_in now around truth p x)
      more_guarded around truth p (pair test forms) =
          more_then (value_in before around p test) (value_in now around p test) _ _ (more_value around p test) (λ y later.
          more_if (has_truth truth y) _ _ _ _ (more_last (values_in before around later forms) (values_in now around later forms) (more_values around later forms)) (more_same (here nil later)))
      more_guarded around truth p _ = record { same = tt }

      more_at_place : (around : Environment) (p : Point) (x : Object) → More (values_at_place_in before around p x) (values_at_place_in now around p x)
      more_at_place around p (pair (pair operator subforms) forms) =
          more_then (values_in before around p subforms) (values_in now around p subforms) _ _ (more_values around p subforms) (λ xs later.
          more_then (values_in before around later forms) (values_in now around later forms) _ _ (more_values around later forms) (λ ys end'. more_same (here (xs ++ ys) end')))
      more_at_place around p (pair (symbol home name) forms) = more_values around p forms
      more_at_place around p _ = record { same = tt }

      more_before_place : (around : Environment) (p : Point) (x : Object) → More (values_before_place_in before around p x) (values_before_place_in now around p x)
      more_before_place around p (pair x (pair (pair operator subforms) forms)) =
          more_then (value_in before around p x) (value_in now around p x) _ _ (more_value around p x) (λ y later.
          more_then (values_in before around later subforms) (values_in now around later subforms) _ _ (more_values around later subforms) (λ ys end'. more_same (here (y ∷ ys) end')))
      more_before_place around p _ = record { same = tt }

      more_bound : (around : Environment) (in_turn : Bool) (p : Point) (x : Object) → More (bound_in before around in_turn p x) (bound_in now around in_turn p x)
      more_bound around in_turn p (pair bindings forms) =
          more_if (not (are_bindings bindings)) _ _ _ _ (record { same = tt })
          (more_then (extended_in before in_turn around around p bindings) (extended_in now in_turn around around p bindings) _ _ (more_extended in_turn around around p bindings) (λ inner later.
          more_last (values_in before inner later forms) (values_in now inner later forms) (more_values inner later forms)))
      more_bound around in_turn p _ = record { same = tt }

      more_extended : (in_turn : Bool) (around inner : Environment) (p : Point) (x : Object) → More (extended_in before in_turn around inner p x) (extended_in now in_turn around inner p x)
      more_extended in_turn around inner p (pair (pair x (pair form others)) bindings) =
          let seen : Environment = if in_turn then inner else around in
          more_if (not (is_proper_list others)) _ _ _ _ (record { same = tt })
          (more_then (value_in before seen p form) (value_in now seen p form) _ _ (more_value seen p form) (λ y later. more_extended in_turn around ((variable_named x, y) ∷ inner) later bindings))
      more_extended in_turn around inner p (pair _ bindings) = record { same = tt }
      more_extended in_turn around inner p _ = record { same = refl }

      more_function : (around : Environment) (p : Point) (x : Object) (o c : Counting Object) → More o c → MakesMore (function_in_form before around p x o) (function_in_form now around p x c)
      more_function around p (pair head arguments) o c is =
          makes_if (is_own_symbol (codes "LAMBDA") head && is_proper_list arguments) _ _ _ _ (more_lambda around p arguments)
          (makes_if (is_standard (codes "FUNCTION") head && is_proper_list arguments) _ _ _ _ (more_quoted around p arguments) (named_then o c is))
      more_function around p _ o c is = named_then o c is

      more_quoted : (around : Environment) (p : Point) (x : Object) → MakesMore (quoted_function_in before around p x) (quoted_function_in now around p x)
      more_quoted around p (pair (pair head arguments) others) = makes_if (not (count others == 0)) _ _ _ _ (record { made = tt }) (makes_if (is_own_symbol (codes "LAMBDA") head && is_proper_list arguments) _ _ _ _ (more_lambda around p arguments) (record { made = tt }))
      more_quoted around p (pair (symbol home name) others) = named_only p (symbol home name) others
      more_quoted around p (pair (uninterned name) others) = named_only p (uninterned name) others
      more_quoted around p (pair (integer n) others) = named_only p (integer n) others
      more_quoted around p (pair (rational n d) others) = named_only p (rational n d) others
      more_quoted around p (pair (character c) others) = named_only p (character c) others
      more_quoted around p (pair (text characters) others) = named_only p (text characters) others
      more_quoted around p (pair (vector xs) others) = named_only p (vector xs) others
      more_quoted around p _ = record { made = tt }

      more_lambda : (around : Environment) (p : Point) (x : Object) → MakesMore (lambda_in before around p x) (lambda_in now around p x)
      more_lambda around p (pair variables body) = written_more (pair variables body) (variables_of variables) _ _ around p (λ inner q. more_last (values_in before inner q body) (values_in now inner q body) (more_values inner q body))
      more_lambda around p _ = record { made = tt }

      more_applied : (around : Environment) (p : Point) (x : Object) → More (applied_in before around p x) (applied_in now around p x)
      more_applied around p (pair f others) =
          with_more (function_in_form before around p f (value_in before around p f)) (function_in_form now around p f (value_in now around p f)) _ _
          (more_function around p f (value_in before around p f) (value_in now around p f) (more_value around p f)) (λ apply too is later.
          more_then (values_in before around later others) (values_in now around later others) _ _ (more_values around later others) (λ xs end'. is xs end'))
      more_applied around p _ = record { same = tt }

  calls_more : (n : ℕ) (definition : Definition) → MoreFunction (call_at (rules_with fewer) n definition) (call_at (rules_with more) n definition)
  unfolding call_at
  calls_more zero definition xs p = record { same = tt }
  calls_more (suc n) definition xs p =
      more_if (length definition.variables == length xs) _ _ _ _
      (more_spent (nat_le (weight definition.body) p.left) _ _
      (more_last _ _
      (more_values (call_at (rules_with fewer) n) (call_at (rules_with more) n) (calls_more n) (binding definition.variables xs []) (record { state = p.state; left = p.left - weight definition.body }) definition.body)))
      (record { same = tt })

  pub lexical_more : (s : WorldState) (x : Object) (d : Done Object) → lexical_value fewer s x ≡ Ok d → lexical_value more s x ≡ Ok d
  lexical_more s x d is = uncounted _ _ (more_value (call_at (rules_with fewer) MOST_CALLS) (call_at (rules_with more) MOST_CALLS) (calls_more MOST_CALLS) [] (record { state = s; left = MOST_STEPS }) x) is
    where
      uncounted : (o c : Counting Object) → More o c → without_count o ≡ Ok d → without_count c ≡ Ok d
      uncounted (Ok r) c more' same = ap without_count more'.same ∙ same
      uncounted (Err code) c more' same = absurd (let no : ◌≡◌ {A = Evaluation Object} (Err code) (Ok d) = same in cc)
