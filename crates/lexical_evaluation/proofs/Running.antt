-- Calls whose steps are taken, or are not left.
--     calls_on, call_stops      a function of the world
--     written_on, written_stops      one that is written down
--     no_parts, parts_apart      its parts, the first one last
--     counts_differ, counts_same      as many values as variables
use Rattle.std.proofs.Common.{◌≡◌, ◌≢◌, ◌<◌, ◌-◌, ◌==◌, ◌++◌, ℕ, true, false, nat_le, List, [], length, reverse, option_to_list, Option, Some, Result, Ok, Err, sym, ap, ◌∙◌, arith}
use Rattle.std.proofs.lemmas.Bool.Decides.{nat_tests}
use Rattle.std.proofs.lemmas.List.{length-map, reverse-reverse}
use Rattle.lisp_object.specs.declared.datum.Datum.{Datum}
use Rattle.lisp_object.specs.Object.{Object, pair, nil, list_of}
use Rattle.lisp_object.specs.Datum.{object_of}
use Rattle.plist_state.specs.Properties.{Symbol}
use Rattle.plist_state.specs.State.{WorldState}
use Rattle.lisp_operators.specs.EvaluationAnswers.{objects}
use Rattle.lisp_operators.specs.Members.{symbols_in, symbol_of_member}
use Rattle.lisp_operators.specs.declared.error.EvaluationError.{EvaluationError}
use Rattle.lisp_operators.specs.declared.error.EvaluationError.TheVariants.{Refused, OutOfMemory}
use Rattle.kept_functions.specs.declared.bounds.TheConstants.{TOO_MANY_STEPS}
use Rattle.kept_functions.specs.Environments.{binding, variables_of}
use Rattle.kept_functions.specs.Definitions.{Definition}
use Rattle.kept_functions.specs.Counting.{weight}
use Rattle.lexical_evaluation.specs.declared.machine.Machine.{Machine}
use Rattle.lexical_evaluation.specs.declared.machine.NextStep.{NextStep}
use Rattle.lexical_evaluation.specs.Machine.{Ways, IsCalling, ComesOn, StepsOn, RunsBody, Spends, around, comes_to, point_of, progn_in, to_come, written_in}
use Rattle.lexical_evaluation.proofs.Calling.{called_begun, called_spent, written_begun, written_out}
use Rattle.lexical_evaluation.proofs.Continuing.{refused}
use Rattle.lexical_evaluation.proofs.Going.{comes_as}
use Rattle.lexical_evaluation.proofs.Steps.{next_of, none_to_come}

module _ (w : Ways) (s : WorldState) (calling : IsCalling w) (old mid : Machine) (definition : Definition) (xs : List Object) (deep : 0 < old.deeper) (same : (length definition.variables == length xs) ≡ true) where
  pub calls_on : (new : Machine) (result : Result NextStep EvaluationError) (u : Unit {0}) → Spends (weight definition.body) old mid (Ok u) → RunsBody mid new result definition xs
      → ComesOn w s (comes_to w old ((w.rules old.deeper).call definition xs (point_of old s))) new result
  calls_on new result u spent runs =
      comes_as w s (comes_to w old ((w.rules old.deeper).call definition xs (point_of old s)))
      (comes_to w mid (progn_in (w.rules (mid.deeper - 1)) (binding definition.variables xs []) definition.body (point_of mid s))) new result
      (ap (comes_to w old) (called_begun w calling definition xs (point_of old s) old.deeper (old.deeper - 1) (omega (arith, deep)) same spent.0)
      ∙ ap (λ (m : Machine). comes_to w m (progn_in (w.rules (m.deeper - 1)) (binding definition.variables xs []) definition.body (point_of m s))) (sym spent.1))
      (runs w s)

  pub call_stops : (new : Machine) (error : EvaluationError) → Spends (weight definition.body) old mid (Err error)
      → ComesOn w s (comes_to w old ((w.rules old.deeper).call definition xs (point_of old s))) new (Err error)
  call_stops new (Refused code) spent =
      ap (comes_to w old) (called_spent w calling definition xs (point_of old s) old.deeper (old.deeper - 1) (omega (arith, deep)) same spent.0)
      ∙ refused w old TOO_MANY_STEPS ∙ ap Err (sym spent.1)
  call_stops new OutOfMemory spent = tt

-- ---- a function that is written down
parts_turned : (parts turned : List Datum) → turned ≡ reverse parts → list_of (objects parts) ≡ to_come turned
parts_turned parts turned is = sym (ap to_come is ∙ ap (λ l. list_of (objects l)) (reverse-reverse parts))

pub no_parts : (parts turned : List Datum) → turned ≡ reverse parts → length turned ≡ 0 → list_of (objects parts) ≡ nil
no_parts parts turned is none = parts_turned parts turned is ∙ none_to_come turned none

pub parts_apart : (parts turned rest : List Datum) (result : Option Datum) (written : Datum) → turned ≡ reverse parts → turned ≡ rest ++ option_to_list result → result ≡ Some written
    → list_of (objects parts) ≡ pair (object_of written) (to_come rest)
parts_apart parts turned rest result written is same found = parts_turned parts turned is ∙ next_of turned rest result written same found

module _ (old mid : Machine) (written body parts : Object) (variables : List Symbol) (xs : List Object) (are : Some variables ≡ variables_of written) (same : (length variables == length xs) ≡ true) (by_parts : parts ≡ pair written body) where
  pub written_on : (new : Machine) (result : Result NextStep EvaluationError) (u : Unit {0}) → Spends (weight parts) old mid (Ok u)
      → StepsOn mid new result (λ does rules seen p. progn_in rules (binding variables xs seen) body p)
      → StepsOn old new result (λ does rules seen p. written_in rules seen parts xs p)
  written_on new result u spent goes = λ w s.
      let fits = ap (λ x. nat_le (weight x) old.left) (sym by_parts) ∙ spent.0 in
      comes_as w s (comes_to w old (written_in (w.rules old.deeper) (around old) parts xs (point_of old s)))
      (comes_to w mid (progn_in (w.rules mid.deeper) (binding variables xs (around mid)) body (point_of mid s))) new result
      (ap (λ x. comes_to w old (written_in (w.rules old.deeper) (around old) x xs (point_of old s))) by_parts
      ∙ ap (comes_to w old) (written_begun (w.rules old.deeper) (around old) written body xs (point_of old s) variables are same fits)
      ∙ ap (λ x. comes_to w old (progn_in (w.rules old.deeper) (binding variables xs (around old)) body (record { state = s; left = old.left - weight x }))) (sym by_parts)
      ∙ ap (λ (m : Machine). comes_to w m (progn_in (w.rules m.deeper) (binding variables xs (around m)) body (point_of m s))) (sym spent.1))
      (goes w s)

  pub written_stops : (new : Machine) (error : EvaluationError) → Spends (weight parts) old mid (Err error)
      → StepsOn old new (Err error) (λ does rules seen p. written_in rules seen parts xs p)
  written_stops new (Refused code) spent = λ w s.
      let out = ap (λ x. nat_le (weight x) old.left) (sym by_parts) ∙ spent.0 in
      ap (λ x. comes_to w old (written_in (w.rules old.deeper) (around old) x xs (point_of old s))) by_parts
      ∙ ap (comes_to w old) (written_out (w.rules old.deeper) (around old) written body xs (point_of old s) variables are same out)
      ∙ refused w old TOO_MANY_STEPS ∙ ap Err (sym spent.1)
  written_stops new OutOfMemory spent = λ w s. tt

-- ---- as many values as variables
pub counts_differ : (vs ds : List Datum) (n : ℕ) → n ≡ length ds → length vs ≢ n → (length (symbols_in vs) == length (objects ds)) ≡ false
counts_differ vs ds n is_n other =
    ap (λ k. k == length (objects ds)) (length-map vs symbol_of_member) ∙ ap (λ k. length vs == k) (length-map ds object_of ∙ sym is_n) ∙ grind (arith, nat_tests, other)

pub counts_same : (vs ds : List Datum) (n : ℕ) → n ≡ length ds → length vs ≡ n → (length (symbols_in vs) == length (objects ds)) ≡ true
counts_same vs ds n is_n same =
    ap (λ k. k == length (objects ds)) (length-map vs symbol_of_member) ∙ ap (λ k. length vs == k) (length-map ds object_of ∙ sym is_n) ∙ grind (arith, nat_tests, same)
