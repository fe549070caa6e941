-- A form in the one language, and where that asks for functions in the other one.
--     left_given      a form that has a value
--     refused_stays, left_refused      a refusal for another reason
--     asks_again, left_again      the other language says what it gives
--     left_again_given, left_again_refused      what that one leaves, where the value is not asked for
use Rattle.std.proofs.Common.{◌≡◌, ℕ, Bool, true, false, if◌then◌else◌, Result, Ok, Err, ap, sym, ◌∙◌}
use Rattle.std.proofs.lemmas.Bool.{false≢true}
use Rattle.lisp_object.specs.Object.{Object}
use Rattle.plist_state.specs.State.{WorldState}
use Rattle.lisp_operators.specs.declared.error.EvaluationError.{EvaluationError}
use Rattle.lisp_operators.specs.declared.error.EvaluationError.TheVariants.{Refused, OutOfMemory}
use Rattle.lisp_operators.specs.declared.evaluated.Evaluated.{Evaluated}
use Rattle.lisp_operators.specs.Effects.{Leaves, effect}
use Rattle.lisp_operators.specs.EvaluationAnswers.{Answers, done}
use Rattle.lisp_operators.specs.Evaluation.{Evaluation}
use Rattle.evaluator.specs.FormsGivenBack.{wants_function}
use Rattle.lexical_evaluation.specs.Calls.{or_with_functions}
use Rattle.lexical_evaluation.proofs.Outcomes.{keeps_refusal}

pub left_given : (o other : Evaluation Object) (s : WorldState) (wrote : Bool) → effect o ≡ Ok (s, wrote) → effect (or_with_functions o other) ≡ Ok (s, wrote)
left_given (Ok d) other s wrote is = is
left_given (Err code) other s wrote is = absurd (let no : ◌≡◌ {A = Result (WorldState × Bool) ℕ} (Err code) (Ok (s, wrote)) = is in cc)

module _ (o other : Evaluation Object) (s : WorldState) where
  pub refused_stays : (error : EvaluationError) → Answers done (Err error) s o → wants_function error ≡ false → Answers done (Err error) s (or_with_functions o other)
  refused_stays (Refused code) is none = keeps_refusal o other code is none
  refused_stays OutOfMemory is none = tt

  pub left_refused : (error : EvaluationError) → Leaves (Err error) s o → wants_function error ≡ false → Leaves (Err error) s (or_with_functions o other)
  left_refused (Refused code) is none = keeps_refusal o other code is none
  left_refused OutOfMemory is none = tt

  pub asks_again : (error : EvaluationError) → Answers done (Err error) s o → wants_function error ≡ true → other ≡ or_with_functions o other
  asks_again (Refused code) is wanted = sym (ap (λ q. or_with_functions q other) is ∙ ap (λ b. if b then other else Err code) wanted)
  asks_again OutOfMemory is wanted = absurd (false≢true wanted)

  pub left_again : (error : EvaluationError) → Leaves (Err error) s o → wants_function error ≡ true → other ≡ or_with_functions o other
  left_again (Refused code) is wanted = sym (ap (λ q. or_with_functions q other) is ∙ ap (λ b. if b then other else Err code) wanted)
  left_again OutOfMemory is wanted = absurd (false≢true wanted)

-- what the other language leaves, where the one without functions was refused for want of one
module _ (o other : Evaluation Object) (s t : WorldState) (error : EvaluationError) (refused : Leaves (Err error) s o) (wanted : wants_function error ≡ true) where
  pub left_again_given : (e : Evaluated) → other ≡ Ok (done e t) → Leaves (Ok e.wrote) t (or_with_functions o other)
  left_again_given e is = ap effect (sym (left_again o other s error refused wanted) ∙ is)

  pub left_again_refused : (later : EvaluationError) → Answers done (Err later) t other → Leaves (Err later) t (or_with_functions o other)
  left_again_refused (Refused code) is = sym (left_again o other s error refused wanted) ∙ is
  left_again_refused OutOfMemory is = tt
