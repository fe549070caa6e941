-- Two evaluations of a form, of which the second gives what the first gives: one induction for all laws of this kind.
--     Widens      what is said of the two outcomes
--     widens_same .. widens_unless      how outcomes are put together
--     OperatorWidens, widens_same_operator, called_widens      what is said of two operators
--     widens_value      the value of a form
--     wider_operators      where more operators are known
use Rattle.std.proofs.Common.{◌≡◌, ℕ, Bool, true, false, not, ◌&&◌, cond, List, ◌∷◌, ◌++◌, Option, Some, None, Ok, Err, bytes_eq, refl, sym, ap, subst}
use Rattle.lisp_object.specs.Object.{Object, integer, rational, character, text, symbol, uninterned, pair, vector, nil, list_of, is_proper_list}
use Rattle.lisp_object.specs.declared.refusal.TheConstants.{ASSERTION_FAILED}
use Rattle.package_table.specs.Table.{Name, common_lisp}
use Rattle.package_table.proofs.Names.{none_some}
use Rattle.plist_state.specs.State.{WorldState}
use Rattle.lisp_operators.specs.ArgumentKinds.{is_true, is_pair}
use Rattle.lisp_operators.specs.Evaluation.{Done, Evaluation, gives, also, and_then}
use Rattle.lisp_operators.specs.Properties.{increment, push}
use Rattle.lisp_operators.specs.Packages.{enter}
use Rattle.evaluator.specs.Operators.{Operator, OperatorTable, IsOperatorTableWithin, operator_named, operator_of, pazturrok, pazturrok_operator, standard_operator_of, Action, quotes, sequence, chooses, assigns, increments, pushes, enters_package, calls, seeks, selects, guards, keeps_first, asserts, is_interned, count, counts, first, changes}
use Rattle.evaluator.specs.Value.{value_over, values_over, choice_over, other_value_over, values_at_place_over, values_before_place_over, sought_over, selected_over, guarded_over, symbol_value_by, Parts, action_value_by, form_value_by, unless, last, has_truth, are_clauses, place_refusal_by, set_place_by, get_place_refusal, rest, default_place_refusal, has_default}

abbrev pub GivesToo : {A : Type 0} → Evaluation A → Evaluation A → Type 0
GivesToo (Ok d) p = p ≡ Ok d
GivesToo (Err code) p = Unit {0}

-- where the first outcome is a value, the second is the same
pub record Widens {A : Type 0} (o p : Evaluation A) : Type 0 where
  pub same : GivesToo o p

-- ---- outcomes
module _ {A : Type 0} where
  pub widens_same : (o : Evaluation A) → Widens o o
  widens_same (Ok d) = record { same = refl }
  widens_same (Err code) = record { same = tt }

  pub widens_also : (wrote : Bool) (o p : Evaluation A) → Widens o p → Widens (also wrote o) (also wrote p)
  widens_also wrote (Ok d) p is = record { same = ap (also wrote) is.same }
  widens_also wrote (Err code) p is = record { same = tt }

  pub widens_if : (b : Bool) (x y u v : Evaluation A) → Widens x u → Widens y v → Widens (cond b x y) (cond b u v)
  widens_if true x y u v first second = first
  widens_if false x y u v first second = second

pub widens_then : {A B : Type 0} (o p : Evaluation A) (f g : A → WorldState → Evaluation B) → Widens o p → ((x : A) (t : WorldState) → Widens (f x t) (g x t)) → Widens (and_then o f) (and_then p g)
widens_then (Ok d) p f g is each =
    subst (λ q. Widens (also d.wrote (f d.value d.state)) (and_then q g)) (sym is.same) (widens_also d.wrote (f d.value d.state) (g d.value d.state) (each d.value d.state))
widens_then (Err code) p f g is each = record { same = tt }

pub widens_unless : (refusal : Option ℕ) (o p : Evaluation Object) → Widens o p → Widens (unless refusal o) (unless refusal p)
widens_unless (Some code) o p is = record { same = tt }
widens_unless None o p is = is

-- ---- operators
pub record PartsWiden (o p : Parts) : Type 0 where
  pub in_order : Widens o.in_order p.in_order
  pub chosen : Widens o.chosen p.chosen
  pub at_place : Widens o.at_place p.at_place
  pub before_place : Widens o.before_place p.before_place
  pub first_one : Widens o.first_one p.first_one
  pub sought : (truth : Bool) → Widens (o.sought truth) (p.sought truth)
  pub selected : Widens o.selected p.selected
  pub guarded : (truth : Bool) → Widens (o.guarded truth) (p.guarded truth)

module _ (based : Bool) where
  widens_action : (s : WorldState) (action : Action) (arguments : Object) (o p : Parts) → PartsWiden o p → Widens (action_value_by based s action arguments o) (action_value_by based s action arguments p)
  widens_action s quotes arguments o p all = widens_same (gives (first arguments) s)
  widens_action s sequence arguments o p all = widens_then o.in_order p.in_order _ _ all.in_order (λ xs t. widens_same (gives (last xs) t))
  widens_action s chooses arguments o p all = all.chosen
  widens_action s assigns arguments o p all =
      widens_unless (place_refusal_by based (first arguments)) _ _ (widens_then o.at_place p.at_place _ _ all.at_place (λ xs t. widens_same (set_place_by based (first arguments) xs t)))
  widens_action s increments arguments o p all =
      widens_unless (get_place_refusal (first arguments)) _ _ (widens_then o.at_place p.at_place increment increment all.at_place (λ xs t. widens_same (increment xs t)))
  widens_action s pushes arguments o p all =
      widens_unless (get_place_refusal (first (rest arguments))) _ _ (widens_then o.before_place p.before_place push push all.before_place (λ xs t. widens_same (push xs t)))
  widens_action s enters_package arguments o p all = widens_same (enter (first arguments) s)
  widens_action s (calls function) arguments o p all = widens_then o.in_order p.in_order function function all.in_order (λ xs t. widens_same (function xs t))
  widens_action s (seeks truth) arguments o p all = all.sought truth
  widens_action s selects arguments o p all = widens_if (are_clauses arguments) _ _ _ _ all.selected (record { same = tt })
  widens_action s (guards truth) arguments o p all = all.guarded truth
  widens_action s keeps_first arguments o p all = widens_then o.in_order p.in_order _ _ all.in_order (λ xs t. widens_same (gives (first (list_of xs)) t))
  widens_action s asserts arguments o p all = widens_then o.first_one p.first_one _ _ all.first_one (λ y t. widens_same (cond (is_true y) (gives nil t) (Err ASSERTION_FAILED)))
  widens_action s (changes function) arguments o p all =
      let changed = function (has_default (first arguments)) in
      widens_unless (default_place_refusal (first arguments)) _ _ (widens_then o.at_place p.at_place changed changed all.at_place (λ xs t. widens_same (changed xs t)))

-- where it is known whether *READ-BASE* is a variable, in the first evaluation and in the second
module _ (based also_based : Bool) where
  -- what a form with the first operator gives, one with the second gives too
  pub record OperatorWidens (x y : Option Operator) : Type 0 where
    pub each : (s : WorldState) (arguments : Object) (o p : Parts) → PartsWiden o p → Widens (form_value_by based s x arguments o) (form_value_by also_based s y arguments p)

  module _ (fewer more : OperatorTable) (symbols : (home name : List ℕ) (s : WorldState) → Widens (symbol_value_by based home name s) (symbol_value_by also_based home name s)) (operators : (head : Object) → OperatorWidens (fewer head) (more head)) where
    mutual
      unfolding value_over

      pub widens_value : (s : WorldState) (x : Object) → Widens (value_over based fewer s x) (value_over also_based more s x)
      widens_value s (pair head arguments) =
          widens_if (not (is_interned head && is_proper_list arguments)) _ _ _ _ (record { same = tt })
          ((operators head).each s arguments _ _
          (record {
            in_order = widens_values s arguments;
            chosen = widens_choice s arguments;
            at_place = widens_at_place s arguments;
            before_place = widens_before_place s arguments;
            first_one = widens_other s arguments;
            sought = λ truth. widens_sought truth s arguments;
            selected = widens_selected s arguments;
            guarded = λ truth. widens_guarded truth s arguments;
          }))
      widens_value s (symbol home name) = symbols home name s
      widens_value s (uninterned name) = record { same = tt }
      widens_value s (integer n) = record { same = refl }
      widens_value s (rational n d) = record { same = refl }
      widens_value s (character c) = record { same = refl }
      widens_value s (text characters) = record { same = refl }
      widens_value s (vector xs) = record { same = refl }

      widens_values : (s : WorldState) (x : Object) → Widens (values_over based fewer s x) (values_over also_based more s x)
      widens_values s (pair x xs) =
          widens_then (value_over based fewer s x) (value_over also_based more s x) _ _ (widens_value s x) (λ y t.
          widens_then (values_over based fewer t xs) (values_over also_based more t xs) _ _ (widens_values t xs) (λ ys u. widens_same (gives (y ∷ ys) u)))
      widens_values s (symbol home name) = record { same = refl }
      widens_values s (uninterned name) = record { same = refl }
      widens_values s (integer n) = record { same = refl }
      widens_values s (rational n d) = record { same = refl }
      widens_values s (character c) = record { same = refl }
      widens_values s (text characters) = record { same = refl }
      widens_values s (vector xs) = record { same = refl }

      widens_choice : (s : WorldState) (x : Object) → Widens (choice_over based fewer s x) (choice_over also_based more s x)
      widens_choice s (pair test (pair then' others)) =
          widens_then (value_over based fewer s test) (value_over also_based more s test) _ _ (widens_value s test) (λ y t.
          widens_if (is_true y) _ _ _ _ (widens_value t then') (widens_other t others))
      widens_choice s _ = record { same = tt }

      widens_other : (s : WorldState) (x : Object) → Widens (other_value_over based fewer s x) (other_value_over also_based more s x)
      widens_other s (pair x xs) = widens_value s x
      widens_other s (symbol home name) = record { same = refl }
      widens_other s (uninterned name) = record { same = refl }
      widens_other s (integer n) = record { same = refl }
      widens_other s (rational n d) = record { same = refl }
      widens_other s (character c) = record { same = refl }
      widens_other s (text characters) = record { same = refl }
      widens_other s (vector xs) = record { same = refl }

      widens_sought : (truth : Bool) (s : WorldState) (x : Object) → Widens (sought_over based fewer truth s x) (sought_over also_based more truth s x)
      widens_sought truth s (pair x xs) =
          widens_then (value_over based fewer s x) (value_over also_based more s x) _ _ (widens_value s x) (λ y t.
          widens_if (has_truth truth y) _ _ _ _ (widens_same (gives y t)) (widens_if (is_pair xs) _ _ _ _ (widens_sought truth t xs) (widens_same (gives y t))))
      widens_sought truth s (symbol home name) = record { same = refl }
      widens_sought truth s (uninterned name) = record { same = refl }
      widens_sought truth s (integer n) = record { same = refl }
      widens_sought truth s (rational n d) = record { same = refl }
      widens_sought truth s (character c) = record { same = refl }
      widens_sought truth s (text characters) = record { same = refl }
      widens_sought truth s (vector xs) = record { same = refl }

      widens_selected : (s : WorldState) (x : Object) → Widens (selected_over based fewer s x) (selected_over also_based more s x)
      widens_selected s (pair (pair test forms) others) =
          widens_then (value_over based fewer s test) (value_over also_based more s test) _ _ (widens_value s test) (λ y t.
          widens_if (is_true y) _ _ _ _
          (widens_if (is_pair forms) _ _ _ _
          (widens_then (values_over based fewer t forms) (values_over also_based more t forms) _ _ (widens_values t forms) (λ xs u. widens_same (gives (last xs) u)))
          (widens_same (gives y t)))
          (widens_selected t others))
      widens_selected s (pair _ others) = record { same = tt }
      widens_selected s (symbol home name) = record { same = refl }
      widens_selected s (uninterned name) = record { same = refl }
      widens_selected s (integer n) = record { same = refl }
      widens_selected s (rational n d) = record { same = refl }
      widens_selected s (character c) = record { same = refl }
      widens_selected s (text characters) = record { same = refl }
      widens_selected s (vector xs) = record { same = refl }

      widens_guarded : (truth : Bool) (s : WorldState) (x : Object) → Widens (guarded_over based fewer truth s x) (guarded_over also_based more truth s x)
      widens_guarded truth s (pair test forms) =
          widens_then (value_over based fewer s test) (value_over also_based more s test) _ _ (widens_value s test) (λ y t.
          widens_if (has_truth truth y) _ _ _ _
          (widens_then (values_over based fewer t forms) (values_over also_based more t forms) _ _ (widens_values t forms) (λ xs u. widens_same (gives (last xs) u)))
          (widens_same (gives nil t)))
      widens_guarded truth s _ = record { same = tt }

      widens_at_place : (s : WorldState) (x : Object) → Widens (values_at_place_over based fewer s x) (values_at_place_over also_based more s x)
      widens_at_place s (pair (pair head subforms) forms) =
          widens_then (values_over based fewer s subforms) (values_over also_based more s subforms) _ _ (widens_values s subforms) (λ xs t.
          widens_then (values_over based fewer t forms) (values_over also_based more t forms) _ _ (widens_values t forms) (λ ys u. widens_same (gives (xs ++ ys) u)))
      widens_at_place s (pair (symbol home name) forms) = widens_values s forms
      widens_at_place s _ = record { same = tt }

      widens_before_place : (s : WorldState) (x : Object) → Widens (values_before_place_over based fewer s x) (values_before_place_over also_based more s x)
      widens_before_place s (pair x (pair (pair head subforms) forms)) =
          widens_then (value_over based fewer s x) (value_over also_based more s x) _ _ (widens_value s x) (λ y t.
          widens_then (values_over based fewer t subforms) (values_over also_based more t subforms) _ _ (widens_values t subforms) (λ ys u. widens_same (gives (y ∷ ys) u)))
      widens_before_place s _ = record { same = tt }

-- ---- the same operator, and functions of values of which the second gives what the first gives
module _ (based : Bool) where
  pub widens_same_operator : (x : Option Operator) → OperatorWidens based based x x
  widens_same_operator None = record { each = λ s arguments o p all. record { same = tt } }
  widens_same_operator (Some x) = record {
    each = λ s arguments o p all.
        widens_if (not (counts x (count arguments))) _ _ _ _ (record { same = tt }) (widens_action based s x.action arguments o p all);
  }

  pub called_widens : (least : ℕ) (most : Option ℕ) (f g : List Object → WorldState → Evaluation Object) → ((xs : List Object) (s : WorldState) → Widens (f xs s) (g xs s))
      → OperatorWidens based based (Some (record { least = least; most = most; action = calls f })) (Some (record { least = least; most = most; action = calls g }))
  called_widens least most f g each = record {
    each = λ s arguments o p all.
        widens_if (not (counts (record { least = least; most = most; action = calls f }) (count arguments))) _ _ _ _ (record { same = tt })
        (widens_then o.in_order p.in_order f g all.in_order each);
  }

  -- ---- where more operators are known
  known_operator : (x y : Option Operator) → ((operator : Operator) → x ≡ Some operator → y ≡ Some operator) → OperatorWidens based based x y
  known_operator None y is = record { each = λ s arguments o p all. record { same = tt } }
  known_operator (Some x) y is = subst (OperatorWidens based based (Some x)) (sym (is x refl)) (widens_same_operator (Some x))

  pub wider_operators : (fewer more : OperatorTable) → IsOperatorTableWithin fewer more → (s : WorldState) (x : Object) (d : Done Object) → value_over based fewer s x ≡ Ok d → value_over based more s x ≡ Ok d
  wider_operators fewer more among s x d is =
      (subst (λ o. Widens o (value_over based more s x)) is
      (widens_value based based fewer more (λ home name t. widens_same (symbol_value_by based home name t)) (λ head. known_operator (fewer head) (more head) (among head)) s x)).same

-- the operators of COMMON-LISP alone
pub standard_among : (names : List Name) → IsOperatorTableWithin (standard_operator_of names) (operator_of names)
standard_among names (symbol home name) operator is =
    elim (bytes_eq home common_lisp) as (λ b. cond b (operator_named names name) None ≡ Some operator → cond b (operator_named names name) (cond (bytes_eq home pazturrok) (pazturrok_operator name) None) ≡ Some operator) [
      | true ↦ λ same. same
      | false ↦ λ none. absurd (none_some operator none)
    ] is
standard_among names (integer n) operator is = absurd (none_some operator is)
standard_among names (rational n d) operator is = absurd (none_some operator is)
standard_among names (character c) operator is = absurd (none_some operator is)
standard_among names (text characters) operator is = absurd (none_some operator is)
standard_among names (uninterned name) operator is = absurd (none_some operator is)
standard_among names (pair x xs) operator is = absurd (none_some operator is)
standard_among names (vector xs) operator is = absurd (none_some operator is)
