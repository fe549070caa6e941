-- What a form gives where *READ-BASE* is no variable, it gives where it is one, and the base stays as it was.
--     value_without_base      the value of a form
use Rattle.std.proofs.Common.{◌≡◌, ℕ, Bool, true, false, not, ◌||◌, cond, List, Option, Some, None, Ok, Err, codes, bytes_eq, refl, sym, subst}
use Rattle.std.proofs.lemmas.Bool.{false≢true}
use Rattle.lisp_object.specs.Object.{Object, integer, rational, character, text, symbol, uninterned, pair, vector, nil, list_of}
use Rattle.lisp_object.specs.declared.refusal.TheConstants.{ARGUMENT_KIND, ASSERTION_FAILED}
use Rattle.package_table.specs.Table.{Name, keyword}
use Rattle.plist_state.specs.State.{WorldState}
use Rattle.lisp_operators.specs.ArgumentKinds.{is_true}
use Rattle.lisp_operators.specs.Evaluation.{Done, Evaluation, gives, and_then}
use Rattle.lisp_operators.specs.Properties.{set, increment, push}
use Rattle.lisp_operators.specs.Packages.{enter}
use Rattle.lisp_operators.specs.Readtables.{set_case}
use Rattle.lisp_operators.specs.ReadBase.{set_base}
use Rattle.lisp_operators.proofs.Keeping.{Keeps}
use Rattle.lisp_operators.proofs.SameBase.{SameBase, same_base}
use Rattle.evaluator.specs.Operators.{Operator, Action, quotes, sequence, chooses, assigns, increments, pushes, enters_package, calls, seeks, selects, guards, keeps_first, asserts, operator_of, is_standard, count, counts, first, changes}
use Rattle.evaluator.specs.Value.{value_by, symbol_value_by, Parts, action_value_by, form_value_by, unless, last, are_clauses, is_base_by, is_case_place, list_place_refusal, get_place_refusal, rest, default_place_refusal, has_default}
use Rattle.evaluator.proofs.KeepingForms.{value_keeps}
use Rattle.evaluator.proofs.Widening.{Widens, PartsWiden, OperatorWidens, widens_same, widens_if, widens_then, widens_unless, widens_value}

-- ---- places
-- a symbol is no list
base_no_list : (place : Object) → is_base_by true place ≡ true → list_place_refusal place ≡ Some ARGUMENT_KIND
base_no_list (symbol home name) is = refl
base_no_list (integer n) is = absurd (false≢true is)
base_no_list (rational n d) is = absurd (false≢true is)
base_no_list (character c) is = absurd (false≢true is)
base_no_list (text b) is = absurd (false≢true is)
base_no_list (uninterned name) is = absurd (false≢true is)
base_no_list (pair x xs) is = absurd (false≢true is)
base_no_list (vector xs) is = absurd (false≢true is)

known_place : (b : Bool) (refusal : Option ℕ) (o p : Evaluation (List Object)) (f : List Object → WorldState → Evaluation Object) → (b ≡ true → refusal ≡ Some ARGUMENT_KIND) → Widens o p
    → Widens (unless refusal (and_then o f)) (unless (cond b None refusal) (and_then p (cond b set_base f)))
known_place true refusal o p f base is =
    subst (λ r. Widens (unless r (and_then o f)) (and_then p set_base)) (sym (base refl)) (record { same = tt })
known_place false refusal o p f base is = widens_unless refusal _ _ (widens_then o p f f is (λ xs t. widens_same (f xs t)))

-- ---- forms, by their parts
widens_action : (s : WorldState) (action : Action) (arguments : Object) (o p : Parts) → PartsWiden o p → Widens (action_value_by false s action arguments o) (action_value_by true s action arguments p)
widens_action s quotes arguments o p all = widens_same (gives (first arguments) s)
widens_action s sequence arguments o p all = widens_then o.in_order p.in_order _ _ all.in_order (λ xs t. widens_same (gives (last xs) t))
widens_action s chooses arguments o p all = all.chosen
widens_action s assigns arguments o p all =
    known_place (is_base_by true (first arguments)) (list_place_refusal (first arguments)) o.at_place p.at_place (cond (is_case_place (first arguments)) set_case set) (base_no_list (first arguments)) all.at_place
widens_action s increments arguments o p all =
    widens_unless (get_place_refusal (first arguments)) _ _ (widens_then o.at_place p.at_place increment increment all.at_place (λ xs t. widens_same (increment xs t)))
widens_action s pushes arguments o p all =
    widens_unless (get_place_refusal (first (rest arguments))) _ _ (widens_then o.before_place p.before_place push push all.before_place (λ xs t. widens_same (push xs t)))
widens_action s enters_package arguments o p all = widens_same (enter (first arguments) s)
widens_action s (seeks truth) arguments o p all = all.sought truth
widens_action s selects arguments o p all = widens_if (are_clauses arguments) _ _ _ _ all.selected (record { same = tt })
widens_action s (guards truth) arguments o p all = all.guarded truth
widens_action s keeps_first arguments o p all = widens_then o.in_order p.in_order _ _ all.in_order (λ xs t. widens_same (gives (first (list_of xs)) t))
widens_action s asserts arguments o p all = widens_then o.first_one p.first_one _ _ all.first_one (λ y t. widens_same (cond (is_true y) (gives nil t) (Err ASSERTION_FAILED)))
widens_action s (calls function) arguments o p all = widens_then o.in_order p.in_order function function all.in_order (λ xs t. widens_same (function xs t))
widens_action s (changes function) arguments o p all =
    let changed = function (has_default (first arguments)) in
    widens_unless (default_place_refusal (first arguments)) _ _ (widens_then o.at_place p.at_place changed changed all.at_place (λ xs t. widens_same (changed xs t)))

widens_form : (s : WorldState) (operator : Option Operator) (arguments : Object) (o p : Parts) → PartsWiden o p → Widens (form_value_by false s operator arguments o) (form_value_by true s operator arguments p)
widens_form s None arguments o p all = record { same = tt }
widens_form s (Some operator) arguments o p all =
    widens_if (not (counts operator (count arguments))) _ _ _ _ (record { same = tt }) (widens_action s operator.action arguments o p all)

widens_symbol : (home name : List ℕ) (s : WorldState) → Widens (symbol_value_by false home name s) (symbol_value_by true home name s)
widens_symbol home name s =
    widens_if (bytes_eq home keyword || is_standard (codes "T") (symbol home name) || is_standard (codes "NIL") (symbol home name)) _ _ _ _ (widens_same (gives (symbol home name) s))
    (widens_if (is_standard (codes "*PACKAGE*") (symbol home name)) _ _ _ _ (record { same = refl })
    (widens_if (is_standard (codes "*READTABLE*") (symbol home name)) _ _ _ _ (record { same = refl })
    (record { same = tt })))

module _ (names : List Name) where
  operator_widens : (head : Object) → OperatorWidens false true (operator_of names head) (operator_of names head)
  operator_widens head = record { each = λ s arguments o p all. widens_form s (operator_of names head) arguments o p all }

  base_kept : (s : WorldState) (x : Object) → Keeps SameBase s (value_by false names s x)
  base_kept = value_keeps false names SameBase (same_base names) (λ known. absurd (false≢true known))

  pub value_without_base : (s : WorldState) (x : Object) (d : Done Object) → value_by false names s x ≡ Ok d → (value_by true names s x ≡ Ok d) × (d.state.read_base ≡ s.read_base)
  value_without_base s x d is =
      ((subst (λ o. Widens o (value_by true names s x)) is (widens_value false true (operator_of names) (operator_of names) widens_symbol operator_widens s x)).same, (subst (Keeps SameBase s) is (base_kept s x)).kept)
