-- What holds of the value of every form in the language with functions, where it holds in the one without them.
--     value_related      by what holds of each operator
use Rattle.std.proofs.Common.{◌≡◌, ◌≤◌, ◌-◌, ℕ, zero, suc, ◌==◌, Bool, true, List, [], length, Option, Some, None, Ok, Err, arith}
use Rattle.lisp_object.specs.Object.{Object, integer, rational, character, text, symbol, uninterned, pair, vector}
use Rattle.package_table.specs.Table.{Name}
use Rattle.plist_state.specs.Properties.{Symbol}
use Rattle.plist_state.specs.State.{WorldState}
use Rattle.lisp_operators.specs.Evaluation.{Evaluation}
use Rattle.evaluator.specs.Operators.{Operator, Action, quotes, sequence, chooses, assigns, increments, pushes, enters_package, calls, seeks, selects, guards, keeps_first, asserts, changes, operator_of}
use Rattle.evaluator.specs.Value.{symbol_value, value_over}
use Rattle.evaluator.proofs.Induction as induction
use Rattle.evaluator.proofs.Induction.{Steps, ActionHolds, OperatorHolds, of_head, set_place_holds}
use Rattle.kept_functions.specs.Environments.{binding}
use Rattle.kept_functions.specs.Definitions.{Definition}
use Rattle.kept_functions.specs.Counting.{Point, Counting, weight, without_count}
use Rattle.kept_functions.specs.declared.bounds.TheConstants.{MOST_CALLS, MOST_STEPS}
use Rattle.kept_functions.specs.ReaderFunctions.{own_reader_name, reader_definition_of, reader_indicator, reader_defined}
use Rattle.lexical_evaluation.specs.Values.{LexicalRules, value_in, values_in}
use Rattle.lexical_evaluation.specs.Calls.{rules_with, rules_of, call_at, lexical_value}
use Rattle.lexical_evaluation.proofs.Relating.{Relation, Kept, KeptBy, IsKeeping, ActionKeeps, OperatorKeeps, OperatorsKeep, RulesKeep, refused, kept_if, kept_spent, kept_at, kind_by, beside_by, last_by, every_value, all_values}

module _ (names : List Name) (Relates : WorldState → WorldState → Bool → Type 0) (IsCode : ℕ → Type 0) (is : Relation Relates IsCode) (Asks : WorldState → Object → Type 0) (One : WorldState → Evaluation Object → Type 0) (All : WorldState → Evaluation (List Object) → Type 0) (steps : Steps true names Asks One All (λ function. (xs : List Object) (s : WorldState) → One s (function xs s))) (from : (s : WorldState) (o : Evaluation Object) → One s o → KeptBy Relates IsCode s o) (asked : (s : WorldState) (x : Object) → Asks s x) where
  abbrev Function : (List Object → WorldState → Evaluation Object) → Type 0
  Function function = (xs : List Object) (s : WorldState) → One s (function xs s)

  from_action : (action : Action) → ActionHolds true names Asks One All Function steps action → ActionKeeps Relates IsCode action
  from_action (calls function) holds = λ xs s. from s (function xs s) (holds xs s)
  from_action (changes function) holds = λ default_given xs s. from s (function default_given xs s) (holds default_given xs s)
  from_action _ holds = tt

  from_operator : (o : Option Operator) → OperatorHolds true names Asks One All Function steps o → OperatorKeeps Relates IsCode o
  from_operator (Some operator) holds = from_action operator.action holds
  from_operator None holds = tt

  operators : OperatorsKeep Relates IsCode
  operators = record {
    sets_place = λ place xs s. from s _ (set_place_holds true names Asks One All Function steps place xs s);
    increments_place = λ xs s. from s _ (steps.operators.increments xs s);
    pushes_place = λ xs s. from s _ (steps.operators.pushes xs s);
    enters = λ x s. from s _ (steps.in_package s x x (asked s x));
    interns = λ xs s. from s _ (steps.operators.interns xs s);
    sets_property = λ xs s. from s _ (steps.operators.sets xs s);
  }

  symbol_by : (x : Symbol) (s : WorldState) → KeptBy Relates IsCode s (symbol_value x.0 x.1 s)
  unfolding value_over
  symbol_by x s = from s _ (induction.every_value true names Asks One All Function steps s (symbol x.0 x.1) (asked s (symbol x.0 x.1)))

  reader_by : (arguments : Object) (s : WorldState) → KeptBy Relates IsCode s (reader_defined arguments s)
  reader_by (pair name definition) s =
      kind_by Relates IsCode is s (own_reader_name name) _ (λ _. kind_by Relates IsCode is s (reader_definition_of definition) _ (λ _.
      beside_by Relates IsCode is operators reader_indicator name definition s))
  reader_by _ s = is.numbers _ (omega arith) (omega arith)

  rules_over : (n : ℕ) → ((definition : Definition) → IsKeeping Relates IsCode (call_at (rules_with names) n definition)) → RulesKeep Relates IsCode (rules_with names (call_at (rules_with names) n))
  rules_over n each = record {
    operators = λ head. from_operator (operator_of names head) (of_head true names Asks One All Function steps head);
    globals = λ x p. kept_at Relates IsCode is p (symbol_value x.0 x.1 p.state) (symbol_by x p.state);
    called = each;
    readers = λ arguments p. kept_at Relates IsCode is p (reader_defined arguments p.state) (reader_by arguments p.state);
  }

  calls_keep : (n : ℕ) (definition : Definition) → IsKeeping Relates IsCode (call_at (rules_with names) n definition)
  unfolding call_at
  calls_keep zero definition xs p = refused Relates IsCode is p.state _ (omega arith) (omega arith)
  calls_keep (suc n) definition xs p =
      let rules : LexicalRules = rules_with names (call_at (rules_with names) n) in
      let kept = rules_over n (calls_keep n) in
      kept_if Relates IsCode is p.state (length definition.variables == length xs) _ _
      (kept_spent Relates IsCode is p.state (weight definition.body) p.left _
      (last_by Relates IsCode is operators rules kept p.state _
      (all_values Relates IsCode is operators rules kept (binding definition.variables xs []) (record { state = p.state; left = p.left - weight definition.body }) definition.body)))
      (refused Relates IsCode is p.state _ (omega arith) (omega arith))

  rules_keep : (n : ℕ) → RulesKeep Relates IsCode (rules_with names (call_at (rules_with names) n))
  rules_keep n = rules_over n (calls_keep n)

  uncounted : (s : WorldState) (o : Counting Object) → Kept Relates IsCode s o → KeptBy Relates IsCode s (without_count o)
  uncounted s (Ok r) kept = kept.kept
  uncounted s (Err code) kept = kept.kept

  pub value_related : (s : WorldState) (x : Object) → KeptBy Relates IsCode s (lexical_value names s x)
  value_related s x =
      uncounted s _ (every_value Relates IsCode is operators (rules_of names) (rules_keep MOST_CALLS) [] (record { state = s; left = MOST_STEPS }) x)
