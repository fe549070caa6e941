-- Operators by which forms are chosen.
--     count_come      how many forms are to come
--     other_none, other_first      the first of forms alone
--     local_as, decided_as      by the operator that it is
--     search_none, asserted_first, choice_test, are_all_clauses      AND and OR, ASSERT, IF, COND
use Rattle.std.proofs.Common.{◌≡◌, ◌<◌, Bool, true, false, ◌&&◌, if◌then◌else◌, List, [], ◌∷◌, ◌++◌, reverse, map, length, Result, refl, sym, ap, subst, ◌∙◌, arith}
use Rattle.std.specs.List.{list_all}
use Rattle.std.proofs.lemmas.List.{length-map, length-reverse, reverse-append}
use Rattle.lisp_object.specs.declared.datum.Datum.{Datum}
use Rattle.lisp_object.specs.Object.{Object, pair, nil, list_of}
use Rattle.lisp_object.specs.Datum.{object_of}
use Rattle.package_table.specs.Table.{Name}
use Rattle.plist_state.specs.State.{WorldState}
use Rattle.lisp_operators.specs.ArgumentKinds.{is_true}
use Rattle.lisp_operators.specs.EvaluationAnswers.{objects}
use Rattle.lisp_operators.specs.Properties.{t}
use Rattle.lisp_operators.specs.declared.error.EvaluationError.{EvaluationError}
use Rattle.evaluator.specs.Operators.{count}
use Rattle.evaluator.specs.Value.{is_clause, are_clauses}
use Rattle.evaluator.proofs.Places.{count_pairs}
use Rattle.evaluator.specs.declared.decision.Decision.{Decision}
use Rattle.evaluator.specs.declared.operation.Operation.TheVariants.{Decides}
use Rattle.evaluator.specs.Operations.{action_of}
use Rattle.kept_functions.specs.declared.local_operator.LocalOperator.{LocalOperator}
use Rattle.kept_functions.specs.Environments.{Environment}
use Rattle.kept_functions.specs.Counting.{Point, Counting, here, then_on}
use Rattle.lexical_evaluation.specs.declared.machine.Machine.{Machine}
use Rattle.lexical_evaluation.specs.declared.machine.NextStep.{NextStep}
use Rattle.lexical_evaluation.specs.Values.{LexicalRules, value_in, other_value_in, sought_value_in, choice_in, local_value, action_in}
use Rattle.lexical_evaluation.specs.Machine.{KeepsOutcome, chosen_in, to_come}
use Rattle.lexical_evaluation.specs.Ways.{ways, parts_in}
use Rattle.lexical_evaluation.proofs.Thens.{then_each}

pub count_come : (forms : List Datum) → count (to_come forms) ≡ length forms
count_come forms = count_pairs (map object_of (reverse forms)) ∙ length-map (reverse forms) object_of ∙ length-reverse forms

module _ (rules : LexicalRules) (around : Environment) (p : Point) where
  pub other_none : other_value_in rules around p nil ≡ here nil p
  unfolding value_in
  other_none = refl

  pub other_first : (x others : Object) → other_value_in rules around p (pair x others) ≡ value_in rules around p x
  unfolding value_in
  other_first x others = refl

  pub search_none : (truth : Bool) → sought_value_in rules around truth p nil ≡ here (if truth then nil else t) p
  unfolding value_in
  search_none truth = refl

  -- IF: of the forms after the test there is one
  abbrev chosen_of : Bool → Object → Object → Point → Counting Object
  chosen_of b then' others later = if b then value_in rules around later then' else other_value_in rules around later others

  choice_by : (b : Bool) (then' : Datum) (others : List Datum) (later : Point)
      → chosen_of b (object_of then') (list_of (map object_of others)) later ≡ chosen_in rules around b (map object_of (then' ∷ others)) later
  unfolding value_in
  choice_by true then' others later = refl
  choice_by false then' [] later = refl
  choice_by false then' (x ∷ xs) later = refl

  pub choice_test : (test : Object) (forms : List Datum) → 0 < length forms
      → choice_in rules around p (pair test (to_come forms)) ≡ then_on (value_in rules around p test) (λ y later. chosen_in rules around (is_true y) (map object_of (reverse forms)) later)
  unfolding value_in
  choice_test test forms some = given (reverse forms) (length-reverse forms)
    where
      given : (xs : List Datum) → length xs ≡ length forms
          → choice_in rules around p (pair test (list_of (map object_of xs))) ≡ then_on (value_in rules around p test) (λ y later. chosen_in rules around (is_true y) (map object_of xs) later)
      given [] same = absurd (omega (arith, some, same))
      given (x ∷ xs) same =
          then_each (value_in rules around p test) (λ y later. chosen_of (is_true y) (object_of x) (list_of (map object_of xs)) later)
          (λ y later. chosen_in rules around (is_true y) (map object_of (x ∷ xs)) later) (λ y later. choice_by (is_true y) x xs later)

-- ---- the operator that it is
module _ (old new : Machine) (result : Result NextStep EvaluationError) (forms : List Datum) (names : List Name) (s : WorldState) where
  pub local_as : (operator this : LocalOperator) → operator ≡ this
      → KeepsOutcome (ways names) s s old new result (λ rules around p. local_value rules p this (to_come forms) (parts_in rules around p (to_come forms)))
      → KeepsOutcome (ways names) s s old new result (λ rules around p. local_value rules p operator (to_come forms) (parts_in rules around p (to_come forms)))
  local_as operator this is keeps =
      subst (λ o. KeepsOutcome (ways names) s s old new result (λ rules around p. local_value rules p o (to_come forms) (parts_in rules around p (to_come forms)))) (sym is) keeps

  pub decided_as : (head : Object) (decision this : Decision) → decision ≡ this
      → KeepsOutcome (ways names) s s old new result (λ rules around p. action_in head p (action_of names (Decides this)) (to_come forms) (parts_in rules around p (to_come forms)))
      → KeepsOutcome (ways names) s s old new result (λ rules around p. action_in head p (action_of names (Decides decision)) (to_come forms) (parts_in rules around p (to_come forms)))
  decided_as head decision this is keeps =
      subst (λ d. KeepsOutcome (ways names) s s old new result (λ rules around p. action_in head p (action_of names (Decides d)) (to_come forms) (parts_in rules around p (to_come forms)))) (sym is) keeps

-- ---- clauses
clauses_all : (xs : List Datum) → are_clauses (list_of (map object_of xs)) ≡ list_all is_clause (objects xs)
clauses_all [] = refl
clauses_all (x ∷ xs) = ap (λ b. is_clause (object_of x) && b) (clauses_all xs)

and_true : (b : Bool) → (b && true) ≡ b
and_true true = refl
and_true false = refl

and_and : (a b c : Bool) → ((a && b) && c) ≡ (a && (b && c))
and_and true b c = refl
and_and false b c = refl

and_turned : (a b : Bool) → (a && b) ≡ (b && a)
and_turned true b = sym (and_true b)
and_turned false true = refl
and_turned false false = refl

all_both : (xs ys : List Datum) → list_all is_clause (objects (xs ++ ys)) ≡ (list_all is_clause (objects xs) && list_all is_clause (objects ys))
all_both [] ys = refl
all_both (x ∷ xs) ys =
    ap (λ b. is_clause (object_of x) && b) (all_both xs ys) ∙ sym (and_and (is_clause (object_of x)) (list_all is_clause (objects xs)) (list_all is_clause (objects ys)))

all_turned : (xs : List Datum) → list_all is_clause (objects (reverse xs)) ≡ list_all is_clause (objects xs)
all_turned [] = refl
all_turned (x ∷ xs) =
    ap (λ l. list_all is_clause (objects l)) (reverse-append (x ∷ []) xs)
    ∙ all_both (reverse xs) (x ∷ [])
    ∙ ap (λ b. b && (is_clause (object_of x) && true)) (all_turned xs)
    ∙ ap (λ b. list_all is_clause (objects xs) && b) (and_true (is_clause (object_of x)))
    ∙ and_turned (list_all is_clause (objects xs)) (is_clause (object_of x))

pub are_all_clauses : (forms : List Datum) → are_clauses (to_come forms) ≡ list_all is_clause (objects forms)
are_all_clauses forms = clauses_all (reverse forms) ∙ all_turned forms
