-- One step after the other.
--     begun, is_begun      a machine in which nothing waits
--     reached, resumed      a value where nothing waits, and where something does
--     popped_machine, frame_proper      what waited
--     on_with, holds_on, reached_value, value_holds      what a step came to
--     refused_step, answered_refused      a refusal
use Rattle.std.proofs.Common.{◌≡◌, ℕ, Bool, true, false, ◌||◌, List, [], ◌∷◌, ◌++◌, reverse, length, All, Option, Some, option_to_list, Result, Ok, Err, refl, sym, ap, subst, ◌∙◌, arith}
use Rattle.std.specs.Global.{Vec}
use Rattle.std.proofs.lemmas.List.{reverse-append}
use Rattle.std.proofs.lemmas.List.Elements.{All-nil}
use Rattle.lisp_object.specs.Object.{Object}
use Rattle.lisp_object.specs.declared.datum.Datum.{Datum}
use Rattle.lisp_object.specs.Datum.{object_of}
use Rattle.package_table.specs.Table.{Name, Table, AreSoundPackages}
use Rattle.plist_state.specs.State.{WorldState}
use Rattle.lisp_operators.specs.EvaluationAnswers.{Answers, IsArgument, done}
use Rattle.lisp_operators.specs.declared.error.EvaluationError.{EvaluationError}
use Rattle.lisp_operators.specs.declared.error.EvaluationError.TheVariants.{Refused, OutOfMemory}
use Rattle.lisp_operators.specs.declared.evaluated.Evaluated.{Evaluated}
use Rattle.kept_functions.specs.declared.environment.Binding.{Binding}
use Rattle.kept_functions.specs.declared.bounds.TheConstants.{MOST_CALLS, MOST_STEPS}
use Rattle.kept_functions.specs.Counting.{Point, Counting, here, then_on, wrote_too, without_count}
use Rattle.lexical_evaluation.specs.declared.frame.Awaiting.{Awaiting}
use Rattle.lexical_evaluation.specs.declared.frame.Awaiting.TheVariants.{Arguments, Sequence, Choice, Seek, Clause, Guard, Assert, Bind, Scope, Call}
use Rattle.lexical_evaluation.specs.declared.machine.Machine.{Machine}
use Rattle.lexical_evaluation.specs.declared.machine.NextStep.{NextStep}
use Rattle.lexical_evaluation.specs.declared.machine.NextStep.TheVariants.{Evaluate}
use Rattle.lexical_evaluation.specs.declared.machine.Stepped.{Stepped}
use Rattle.lexical_evaluation.specs.declared.machine.Stepped.TheVariants.{GoesOn, Reached}
use Rattle.lexical_evaluation.specs.Values.{value_in}
use Rattle.lexical_evaluation.specs.Calls.{rules_of}
use Rattle.lexical_evaluation.specs.Machine.{Ways, IsProperFrame, ComesOn, continued, comes_to, comes_after, next_value, point_of, around, value_given, bindings_after, deeper_after, variables_seen}
use Rattle.lexical_evaluation.specs.Ways.{ways}
use Rattle.lexical_evaluation.specs.Arguments.{IsFrameOf, HaveArguments, IsMachineOf, IsNextOf}
use Rattle.lexical_evaluation.specs.Steps.{StepsTo, IsSteppedOf}
use Rattle.lexical_evaluation.proofs.Apart.{last_kept}
use Rattle.lexical_evaluation.proofs.Continuing.{waits}
use Rattle.lexical_evaluation.proofs.Handing.{all_proper}
use Rattle.lexical_evaluation.proofs.Thens.{or_false, wrote_false, then_known}

-- ---- the beginning
pub begun : (names : List Name) (s : WorldState) (m : Machine) (form : Datum) → m.frames.items ≡ [] → m.bindings.items ≡ [] → m.left ≡ MOST_STEPS → m.deeper ≡ MOST_CALLS → m.wrote ≡ false
    → value_in (rules_of names) [] (record { state = s; left = MOST_STEPS }) (object_of form) ≡ comes_to (ways names) m (next_value (ways names) s m (Evaluate form))
begun names s m form frames bindings left deeper wrote =
    let w = ways names in
    let x = object_of form in
    sym (ap (λ b. wrote_too b (continued w m.deeper (reverse m.frames.items) m.bindings.items (value_in (w.rules m.deeper) (around m) (point_of m s) x))) wrote
    ∙ wrote_false (continued w m.deeper (reverse m.frames.items) m.bindings.items (value_in (w.rules m.deeper) (around m) (point_of m s) x))
    ∙ ap (λ fs. continued w m.deeper (reverse fs) m.bindings.items (value_in (w.rules m.deeper) (around m) (point_of m s) x)) frames
    ∙ ap (λ bs. value_in (w.rules m.deeper) (variables_seen bs) (point_of m s) x) bindings
    ∙ ap (λ n. value_in (w.rules n) [] (point_of m s) x) deeper
    ∙ ap (λ l. value_in (w.rules MOST_CALLS) [] (record { state = s; left = l }) x) left)

pub is_begun : (u : Table) (m : Machine) → AreSoundPackages u → m.frames.items ≡ [] → m.bindings.items ≡ [] → IsMachineOf u m
is_begun u m sound frames bindings = record {
  sound = sound;
  frames = subst (All (IsFrameOf u)) (sym frames) (All-nil (IsFrameOf u));
  bindings = subst (HaveArguments u) (sym bindings) (All-nil (λ (b : Binding). IsArgument u b.value));
}

-- ---- a value
pub reached : (w : Ways) (s : WorldState) (m : Machine) (value : Datum) → length m.frames.items ≡ 0
    → comes_to w m (here (object_of value) (point_of m s)) ≡ Ok (record { value = object_of value; point = point_of m s; wrote = m.wrote })
reached w s m value none = given m.frames.items none
  where
    given : (frames : List Awaiting) → length frames ≡ 0 → wrote_too m.wrote (continued w m.deeper (reverse frames) m.bindings.items (here (object_of value) (point_of m s))) ≡ Ok (record { value = object_of value; point = point_of m s; wrote = m.wrote })
    given [] e = ap (λ b. Ok (record { value = object_of value; point = point_of m s; wrote = b })) (or_false m.wrote)
    given (f ∷ fs) e = absurd (omega (arith, e))

-- the frame that waited innermost
pub resumed : (w : Ways) (s : WorldState) (m : Machine) (rest : Vec Awaiting) (result : Option Awaiting) (frame : Awaiting) (value : Object) → m.frames.items ≡ rest.items ++ option_to_list result → result ≡ Some frame
    → comes_to w m (here value (point_of m s)) ≡ comes_after w (record m { frames = rest }) frame (value_given (w.rules m.deeper) w.does (around m) frame value (point_of m s))
resumed w s m rest result frame value same is =
    ap (wrote_too m.wrote)
    (waits w m.deeper rest.items m.frames.items frame m.bindings.items (here value (point_of m s)) (same ∙ ap (λ r. rest.items ++ option_to_list r) is)
    ∙ ap (continued w (deeper_after frame m.deeper) (reverse rest.items) (bindings_after frame m.bindings.items)) (then_known value (point_of m s) (value_given (w.rules m.deeper) w.does (around m) frame)))

module _ (u : Table) where
  pub popped_machine : (m : Machine) (rest : Vec Awaiting) (result : Option Awaiting) (frame : Awaiting) → IsMachineOf u m → m.frames.items ≡ rest.items ++ option_to_list result → result ≡ Some frame
      → IsMachineOf u (record m { frames = rest }) × IsFrameOf u frame
  popped_machine m rest result frame hand same is =
      let both = last_kept (IsFrameOf u) m.frames.items rest.items result frame same is hand.frames in
      (record { sound = hand.sound; frames = both.0; bindings = hand.bindings }, both.1)

  pub frame_proper : (frame : Awaiting) → IsFrameOf u frame → IsProperFrame frame
  frame_proper (Arguments target forms values) is = tt
  frame_proper (Sequence forms) is = tt
  frame_proper (Choice forms) is = tt
  frame_proper (Seek truth forms) is = tt
  frame_proper (Clause forms others) is = all_proper u others.items is.1
  frame_proper (Guard truth forms) is = tt
  frame_proper Assert is = tt
  frame_proper (Bind in_turn x others made forms) is = all_proper u others.items is.0
  frame_proper (Scope length) is = tt
  frame_proper (Call before deeper) is = tt

-- ---- what a step came to
module _ (w : Ways) (s : WorldState) (o : Counting Object) (u : Table) (m : Machine) (stepped : Stepped) where
  pub on_with : (next : NextStep) → stepped ≡ GoesOn next → StepsTo w s o m (Ok stepped) → o ≡ comes_to w m (next_value w s m next)
  on_with next is comes = subst (λ (k : Stepped). StepsTo w s o m (Ok k)) is comes

  pub holds_on : (next : NextStep) → stepped ≡ GoesOn next → IsSteppedOf u m (Ok stepped) → IsMachineOf u m × IsNextOf u next
  holds_on next is holds = subst (λ (k : Stepped). IsSteppedOf u m (Ok k)) is holds

  pub reached_value : (value : Datum) → stepped ≡ Reached value → StepsTo w s o m (Ok stepped) → o ≡ Ok (record { value = object_of value; point = point_of m s; wrote = m.wrote })
  reached_value value is comes = subst (λ (k : Stepped). StepsTo w s o m (Ok k)) is comes

  pub value_holds : (value : Datum) → stepped ≡ Reached value → IsSteppedOf u m (Ok stepped) → IsArgument u value
  value_holds value is holds = subst (λ (k : Stepped). IsSteppedOf u m (Ok k)) is holds

-- ---- a refusal
pub refused_step : (w : Ways) (s : WorldState) (o : Counting Object) (m : Machine) (error : EvaluationError) → ComesOn w s o m (Err error) → StepsTo w s o m (Err error)
refused_step w s o m (Refused code) comes = comes
refused_step w s o m OutOfMemory comes = tt

pub answered_refused : (w : Ways) (t : WorldState) (o other : Counting Object) (m : Machine) (error : EvaluationError) → o ≡ other → StepsTo w t other m (Err error) → Answers done (Err error) t (without_count o)
answered_refused w t o other m (Refused code) same is = ap without_count (same ∙ is)
answered_refused w t o other m OutOfMemory same is = tt
