-- Operators by what they do with their places.
--     spending_each, made_same      the same after steps
--     AtPlace, at_setf, at_incf, at_change, before_push      operators that change places
--     operated_as, goes_at_place, goes_before_place      by the operator that it is
use Rattle.std.proofs.Common.{◌≡◌, ◌-◌, ℕ, Bool, true, false, if◌then◌else◌, nat_le, List, None, Result, Err, refl, sym, ap, subst, ◌∙◌}
use Rattle.lisp_object.specs.declared.datum.Datum.{Datum}
use Rattle.lisp_object.specs.Object.{Object}
use Rattle.package_table.specs.Table.{Name}
use Rattle.plist_state.specs.State.{WorldState}
use Rattle.lisp_operators.specs.Evaluation.{Evaluation}
use Rattle.lisp_operators.specs.Properties.{set, increment, push}
use Rattle.lisp_operators.specs.Readtables.{set_case}
use Rattle.lisp_operators.specs.ReadBase.{set_base}
use Rattle.lisp_operators.specs.declared.error.EvaluationError.{EvaluationError}
use Rattle.lisp_operators.specs.declared.places.PlaceChange.{PlaceChange}
use Rattle.lisp_operators.specs.PropertyPlaces.{place_changed}
use Rattle.evaluator.specs.declared.operation.Operation.{Operation}
use Rattle.evaluator.specs.declared.operation.Operation.TheVariants.{Setf, Incf, Push, Changes}
use Rattle.evaluator.specs.declared.place.PlaceForm.{PlaceForm}
use Rattle.evaluator.specs.declared.place.PlaceForm.TheVariants.{Property, PropertyOr, Case, ReadBase}
use Rattle.evaluator.specs.Operators.{first}
use Rattle.evaluator.specs.Operations.{action_of, set_at, has_default_at}
use Rattle.evaluator.specs.ArgumentValues.{refusal_of_place, place_form_of, setf_place}
use Rattle.evaluator.specs.Value.{is_base_place, is_case_place, has_default, set_place_by}
use Rattle.kept_functions.specs.declared.bounds.TheConstants.{TOO_MANY_STEPS}
use Rattle.kept_functions.specs.Environments.{Environment}
use Rattle.kept_functions.specs.Counting.{Point, Counting, then_on, spending, at_point}
use Rattle.lexical_evaluation.specs.declared.frame.Target.TheVariants.{Operation as AnOperation}
use Rattle.lexical_evaluation.specs.declared.machine.Machine.{Machine}
use Rattle.lexical_evaluation.specs.declared.machine.NextStep.{NextStep}
use Rattle.lexical_evaluation.specs.Values.{LexicalRules, values_at_place_in, values_before_place_in, action_in, made_of, unless_refused}
use Rattle.lexical_evaluation.specs.Machine.{KeepsOutcome, StepsOn, comes_to, around, point_of, to_come, finished_in}
use Rattle.lexical_evaluation.specs.Ways.{ways, performed, parts_in}
use Rattle.lexical_evaluation.proofs.Thens.{then_each}
use Rattle.lexical_evaluation.proofs.Going.{comes_as}

pub spending_each : {A : Type 0} (n : ℕ) (p : Point) (f g : Point → Counting A) → ((q : Point) → f q ≡ g q) → spending n p f ≡ spending n p g
spending_each n p f g same = given (nat_le n p.left)
  where
    given : (b : Bool) → (if b then f (record p { left = p.left - n }) else Err TOO_MANY_STEPS) ≡ (if b then g (record p { left = p.left - n }) else Err TOO_MANY_STEPS)
    given true = same (record p { left = p.left - n })
    given false = refl

pub made_same : (n : ℕ) (o : Counting (List Object)) (f g : List Object → WorldState → Evaluation Object) → ((xs : List Object) (s : WorldState) → f xs s ≡ g xs s) → made_of n o f ≡ made_of n o g
made_same n o f g same =
    then_each o (λ xs later. spending n later (λ begun. at_point begun (f xs begun.state))) (λ xs later. spending n later (λ begun. at_point begun (g xs begun.state)))
    (λ xs later. spending_each n later (λ begun. at_point begun (f xs begun.state)) (λ begun. at_point begun (g xs begun.state)) (λ begun. ap (at_point begun) (same xs begun.state)))

set_so : (b c : Bool) (xs : List Object) (s : WorldState)
    → (if b then set_base else (if c then set_case else set)) xs s ≡ set_at (if b then ReadBase else (if c then Case else Property)) xs s
set_so true c xs s = refl
set_so false true xs s = refl
set_so false false xs s = refl

set_by : (x : Object) (xs : List Object) (s : WorldState) → set_place_by true x xs s ≡ set_at (setf_place x) xs s
set_by x xs s = set_so (is_base_place x) (is_case_place x) xs s

default_at : (b : Bool) → b ≡ has_default_at (if b then PropertyOr else Property)
default_at true = refl
default_at false = refl

module _ (names : List Name) (head : Object) (p : Point) (forms : Object) (rules : LexicalRules) (seen : Environment) (place : PlaceForm) where
  abbrev pub AtPlace : Operation → Type 0
  AtPlace o = refusal_of_place o forms ≡ None → place ≡ place_form_of o forms
      → action_in head p (action_of names o) forms (parts_in rules seen p forms) ≡ then_on (values_at_place_in rules seen p forms) (λ xs later. finished_in rules (performed names) seen (AnOperation o place 0) xs later)

  setf_made : AtPlace Setf
  setf_made none is =
      ap (λ r. unless_refused r (made_of 0 (values_at_place_in rules seen p forms) (set_place_by true (first forms)))) none
      ∙ made_same 0 (values_at_place_in rules seen p forms) (set_place_by true (first forms)) (λ xs s. performed names Setf place xs s) (λ xs s. set_by (first forms) xs s ∙ ap (λ f. set_at f xs s) (sym is))

  incf_made : AtPlace Incf
  incf_made none is = ap (λ r. unless_refused r (made_of 0 (values_at_place_in rules seen p forms) increment)) none

  change_made : (operator : PlaceChange) → AtPlace (Changes operator)
  change_made operator none is =
      ap (λ r. unless_refused r (made_of 0 (values_at_place_in rules seen p forms) (place_changed operator (has_default (first forms))))) none
      ∙ made_same 0 (values_at_place_in rules seen p forms) (place_changed operator (has_default (first forms))) (λ xs s. performed names (Changes operator) place xs s)
      (λ xs s. ap (λ b. place_changed operator b xs s) (default_at (has_default (first forms))) ∙ ap (λ f. place_changed operator (has_default_at f) xs s) (sym is))

  pub at_setf : (o : Operation) → o ≡ Setf → AtPlace o
  at_setf o is = subst AtPlace (sym is) setf_made

  pub at_incf : (o : Operation) → o ≡ Incf → AtPlace o
  at_incf o is = subst AtPlace (sym is) incf_made

  pub at_change : (o : Operation) (operator : PlaceChange) → o ≡ Changes operator → AtPlace o
  at_change o operator is = subst AtPlace (sym is) (change_made operator)

  abbrev pub BeforePlace : Operation → Type 0
  BeforePlace o = refusal_of_place o forms ≡ None
      → action_in head p (action_of names o) forms (parts_in rules seen p forms) ≡ then_on (values_before_place_in rules seen p forms) (λ xs later. finished_in rules (performed names) seen (AnOperation Push place 0) xs later)

  push_made : BeforePlace Push
  push_made none = ap (λ r. unless_refused r (made_of 0 (values_before_place_in rules seen p forms) push)) none

  pub before_push : (o : Operation) → o ≡ Push → BeforePlace o
  before_push o is = subst BeforePlace (sym is) push_made

module _ (old new : Machine) (result : Result NextStep EvaluationError) (forms : List Datum) (names : List Name) (s : WorldState) (head : Object) where
  pub operated_as : (operation this : Operation) → operation ≡ this
      → KeepsOutcome (ways names) s s old new result (λ rules seen p. action_in head p (action_of names this) (to_come forms) (parts_in rules seen p (to_come forms)))
      → KeepsOutcome (ways names) s s old new result (λ rules seen p. action_in head p (action_of names operation) (to_come forms) (parts_in rules seen p (to_come forms)))
  operated_as operation this is keeps =
      subst (λ o. KeepsOutcome (ways names) s s old new result (λ rules seen p. action_in head p (action_of names o) (to_come forms) (parts_in rules seen p (to_come forms)))) (sym is) keeps

  module _ (operation : Operation) (place : PlaceForm) (none : refusal_of_place operation (to_come forms) ≡ None) where
    pub goes_at_place : place ≡ place_form_of operation (to_come forms) → AtPlace names head (point_of old s) (to_come forms) ((ways names).rules old.deeper) (around old) place operation
        → StepsOn old new result (λ does rules seen p. then_on (values_at_place_in rules seen p (to_come forms)) (λ xs later. finished_in rules does seen (AnOperation operation place 0) xs later))
        → KeepsOutcome (ways names) s s old new result (λ rules seen p. action_in head p (action_of names operation) (to_come forms) (parts_in rules seen p (to_come forms)))
    goes_at_place is made goes =
        let w = ways names in
        let rules = w.rules old.deeper in
        let p = point_of old s in
        comes_as w s (comes_to w old (action_in head p (action_of names operation) (to_come forms) (parts_in rules (around old) p (to_come forms))))
        (comes_to w old (then_on (values_at_place_in rules (around old) p (to_come forms)) (λ xs later. finished_in rules w.does (around old) (AnOperation operation place 0) xs later))) new result
        (ap (comes_to w old) (made none is)) (goes w s)

    pub goes_before_place : BeforePlace names head (point_of old s) (to_come forms) ((ways names).rules old.deeper) (around old) place operation
        → StepsOn old new result (λ does rules seen p. then_on (values_before_place_in rules seen p (to_come forms)) (λ xs later. finished_in rules does seen (AnOperation Push place 0) xs later))
        → KeepsOutcome (ways names) s s old new result (λ rules seen p. action_in head p (action_of names operation) (to_come forms) (parts_in rules seen p (to_come forms)))
    goes_before_place made goes =
        let w = ways names in
        let rules = w.rules old.deeper in
        let p = point_of old s in
        comes_as w s (comes_to w old (action_in head p (action_of names operation) (to_come forms) (parts_in rules (around old) p (to_come forms))))
        (comes_to w old (then_on (values_before_place_in rules (around old) p (to_come forms)) (λ xs later. finished_in rules w.does (around old) (AnOperation Push place 0) xs later))) new result
        (ap (comes_to w old) (made none)) (goes w s)
