-- What a form gives in the language with functions whose symbols are interned first.
--     accepted, asked      its value
--     accepted_refused, asked_refused      where it is refused, or memory runs out
--     same_again, same_question      of the same names, state and form
use Rattle.std.proofs.Common.{◌≡◌, Bool, List, Ok, Err, ap, sym, ◌∙◌}
use Rattle.lisp_object.specs.Object.{Object}
use Rattle.package_table.specs.Symbols.{symbols}
use Rattle.package_table.specs.Table.{Name}
use Rattle.plist_state.specs.State.{WorldState}
use Rattle.plist_state.specs.Changes.{with_packages}
use Rattle.lisp_operators.specs.declared.error.EvaluationError.{EvaluationError}
use Rattle.lisp_operators.specs.declared.error.EvaluationError.TheVariants.{Refused, OutOfMemory}
use Rattle.lisp_operators.specs.EvaluationAnswers.{Answers}
use Rattle.lisp_operators.specs.Evaluation.{Done, also}
use Rattle.form_eval.specs.Acceptance.{with_symbols_interned}
use Rattle.lexical_evaluation.specs.Calls.{lexical_value}
use Rattle.lexical_forms.specs.WithFunctions.{accepted_lexically, accept_lexically, asked_lexically, question_lexically}

module _ (names : List Name) (s v t : WorldState) (x : Object) (interned : Bool) (there : with_symbols_interned s.packages (symbols x) ≡ Ok (v.packages, interned)) (rest : v ≡ with_packages s v.packages) where
  pub accepted : accept_lexically names s x ≡ also interned (lexical_value names v x)
  accepted = (λ i. accepted_lexically names s (there i) x) ∙ ap (λ w. also interned (lexical_value names w x)) (sym rest)

  pub asked : question_lexically names s x ≡ lexical_value names v x
  asked = (λ i. asked_lexically names s (there i) x) ∙ ap (λ w. lexical_value names w x) (sym rest)

  pub accepted_refused : {A B : Type 0} (f : A → WorldState → Done Object) (g : B → WorldState → Done Object) (error : EvaluationError)
      → Answers f (Err error) t (lexical_value names v x) → Answers g (Err error) t (accept_lexically names s x)
  accepted_refused f g (Refused code) is = accepted ∙ ap (also interned) is
  accepted_refused f g OutOfMemory is = tt

  pub asked_refused : {A B : Type 0} (f : A → WorldState → Done Object) (g : B → WorldState → Done Object) (error : EvaluationError)
      → Answers f (Err error) t (lexical_value names v x) → Answers g (Err error) t (question_lexically names s x)
  asked_refused f g (Refused code) is = asked ∙ is
  asked_refused f g OutOfMemory is = tt

module _ (names given : List Name) (s v : WorldState) (x y : Object) (one : given ≡ names) (two : v ≡ s) (three : y ≡ x) where
  pub same_again : accept_lexically given v y ≡ accept_lexically names s x
  same_again = ap (λ n. accept_lexically n v y) one ∙ ap (λ w. accept_lexically names w y) two ∙ ap (accept_lexically names s) three

  pub same_question : question_lexically given v y ≡ question_lexically names s x
  same_question = ap (λ n. question_lexically n v y) one ∙ ap (λ w. question_lexically names w y) two ∙ ap (question_lexically names s) three
