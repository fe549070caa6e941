-- Steps that go on by another step.
--     comes_as      the same comes of it
--     goes_as      the same meaning
--     goes_over, goes_seen, goes_entered      of a machine that has the same in hand
--     resumes_as, resumes_gathered      what waited goes on
use Rattle.std.proofs.Common.{◌≡◌, List, [], ◌∷◌, ◌++◌, Ok, Err, Result, sym, ap, subst, ◌∙◌}
use Rattle.std.proofs.lemmas.List.{map-append}
use Rattle.std.specs.Global.{Vec}
use Rattle.lisp_object.specs.declared.datum.Datum.{Datum}
use Rattle.lisp_object.specs.Datum.{object_of}
use Rattle.lisp_operators.specs.EvaluationAnswers.{objects}
use Rattle.lisp_object.specs.Object.{Object}
use Rattle.plist_state.specs.State.{WorldState}
use Rattle.lisp_operators.specs.declared.error.EvaluationError.{EvaluationError}
use Rattle.lisp_operators.specs.declared.error.EvaluationError.TheVariants.{Refused, OutOfMemory}
use Rattle.kept_functions.specs.declared.environment.Binding.{Binding}
use Rattle.kept_functions.specs.Environments.{Environment}
use Rattle.kept_functions.specs.Counting.{Point, Counting}
use Rattle.lexical_evaluation.specs.declared.frame.Target.{Target}
use Rattle.lexical_evaluation.specs.declared.frame.Awaiting.{Awaiting}
use Rattle.lexical_evaluation.specs.declared.frame.Awaiting.TheVariants.{Arguments}
use Rattle.lexical_evaluation.specs.declared.machine.Machine.{Machine}
use Rattle.lexical_evaluation.specs.declared.machine.NextStep.{NextStep}
use Rattle.lexical_evaluation.specs.Values.{LexicalRules}
use Rattle.lexical_evaluation.specs.Machine.{Ways, OperatorMeanings, ComesOn, StepsOn, SeesMore, Enters, Resumes, comes_to, around, point_of, variables_seen, gathered_in, to_come}

abbrev pub Meaning : Type 0
Meaning = OperatorMeanings → LexicalRules → Environment → Point → Counting Object

pub comes_as : (w : Ways) (s : WorldState) (o other : Counting Object) (m : Machine) (result : Result NextStep EvaluationError)
    → o ≡ other → ComesOn w s other m result → ComesOn w s o m result
comes_as w s o other m (Ok next) same comes = same ∙ comes
comes_as w s o other m (Err (Refused code)) same comes = same ∙ comes
comes_as w s o other m (Err OutOfMemory) same comes = tt

-- what a machine has in hand
abbrev pub in_hand : Ways → WorldState → Machine → Meaning → Counting Object
in_hand w s m f = comes_to w m (f w.does (w.rules m.deeper) (around m) (point_of m s))

module _ (old new : Machine) (result : Result NextStep EvaluationError) (f g : Meaning) where
  pub goes_over : (mid : Machine) → ((w : Ways) (s : WorldState) → in_hand w s old f ≡ in_hand w s mid g) → StepsOn mid new result g → StepsOn old new result f
  goes_over mid same goes = λ w s. comes_as w s (in_hand w s old f) (in_hand w s mid g) new result (same w s) (goes w s)

  pub goes_as : ((w : Ways) (s : WorldState) → f w.does (w.rules old.deeper) (around old) (point_of old s) ≡ g w.does (w.rules old.deeper) (around old) (point_of old s))
      → StepsOn old new result g → StepsOn old new result f
  goes_as same goes = goes_over old (λ w s. ap (comes_to w old) (same w s)) goes

module _ (old mid : Machine) (made : List Binding) (f g : Meaning) (w : Ways) (s : WorldState) where
  -- the same, where more variables are seen
  pub goes_seen : SeesMore old mid made
      → f w.does (w.rules old.deeper) (around old) (point_of old s) ≡ g w.does (w.rules old.deeper) (variables_seen made ++ around old) (point_of old s)
      → in_hand w s old f ≡ in_hand w s mid g
  goes_seen sees same =
      ap (comes_to w old) same
      ∙ sees.same w (g w.does (w.rules old.deeper) (variables_seen made ++ around old) (point_of old s))
      ∙ ap (λ n. comes_to w mid (g w.does (w.rules n) (variables_seen made ++ around old) (point_of old s))) (sym sees.deeper)
      ∙ ap (λ e. comes_to w mid (g w.does (w.rules mid.deeper) e (point_of old s))) (sym sees.environment)
      ∙ ap (λ l. comes_to w mid (g w.does (w.rules mid.deeper) (around mid) (record { state = s; left = l }))) (sym sees.left)

  -- and where a function begins
  pub goes_entered : Enters old mid made
      → f w.does (w.rules old.deeper) (around old) (point_of old s) ≡ g w.does (w.rules mid.deeper) (variables_seen made) (point_of old s)
      → in_hand w s old f ≡ in_hand w s mid g
  goes_entered enters same =
      ap (comes_to w old) same
      ∙ enters.same w (g w.does (w.rules mid.deeper) (variables_seen made) (point_of old s))
      ∙ ap (λ e. comes_to w mid (g w.does (w.rules mid.deeper) e (point_of old s))) (sym enters.environment)
      ∙ ap (λ l. comes_to w mid (g w.does (w.rules mid.deeper) (around mid) (record { state = s; left = l }))) (sym enters.left)

-- ---- what waited
-- by the frame that it is
pub resumes_as : (old new : Machine) (frame this : Awaiting) (y : Object) (result : Result NextStep EvaluationError) → frame ≡ this → Resumes old new this y result → Resumes old new frame y result
resumes_as old new frame this y result is goes = subst (λ f. Resumes old new f y result) (sym is) goes

-- one argument more
pub resumes_gathered : (old new : Machine) (target : Target) (forms values more : Vec Datum) (value : Datum) (result : Result NextStep EvaluationError) → more.items ≡ values.items ++ value ∷ []
    → StepsOn old new result (λ does rules seen p. gathered_in rules does seen target (objects more.items) (to_come forms.items) p)
    → Resumes old new (Arguments target forms values) (object_of value) result
resumes_gathered old new target forms values more value result grown goes = λ w s.
    comes_as w s (comes_to w old (gathered_in (w.rules old.deeper) w.does (around old) target (objects values.items ++ object_of value ∷ []) (to_come forms.items) (point_of old s)))
    (comes_to w old (gathered_in (w.rules old.deeper) w.does (around old) target (objects more.items) (to_come forms.items) (point_of old s))) new result
    (ap (λ xs. comes_to w old (gathered_in (w.rules old.deeper) w.does (around old) target xs (to_come forms.items) (point_of old s))) (sym (ap objects grown ∙ map-append object_of values.items (value ∷ []))))
    (goes w s)
