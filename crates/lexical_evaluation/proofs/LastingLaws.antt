-- What holds of the value of every form in the language with functions.
--     lexical_silent, given_silent      one that does not write leaves the state as it was
--     lexical_covers, given_covered      it leaves no readtables which name other functions than those that may be named
--     lexical_numbered      it is refused under a number of evaluation
use Rattle.std.proofs.Common.{◌≡◌, ◌≤◌, ℕ, Bool, true, false, List, Ok, Err, refl, subst, ◌∙◌, arith}
use Rattle.lisp_object.specs.Object.{Object}
use Rattle.package_table.specs.Table.{Name}
use Rattle.plist_state.specs.State.{WorldState}
use Rattle.lisp_operators.specs.Evaluation.{Evaluation, Done}
use Rattle.lisp_operators.specs.Readtables.{AreCovered}
use Rattle.lisp_operators.proofs.Silence as silence
use Rattle.lisp_operators.proofs.Silence.{neither}
use Rattle.lisp_operators.proofs.Keeping as keeping
use Rattle.lisp_operators.proofs.Covering.{Covers, covering}
use Rattle.lisp_operators.proofs.Numbered.{Numbered}
use Rattle.evaluator.proofs.SilentForms as silent_forms
use Rattle.evaluator.proofs.KeepingForms as keeping_forms
use Rattle.evaluator.proofs.NumberedForms as numbered_forms
use Rattle.lexical_evaluation.specs.Calls.{lexical_value}
use Rattle.lexical_evaluation.proofs.Relating.{Relation, KeptBy}
use Rattle.lexical_evaluation.proofs.Lasting.{value_related}

module _ (names : List Name) where
  abbrev Asks : WorldState → Object → Type 0
  Asks s x = Unit {0}

  abbrev IsAny : ℕ → Type 0
  IsAny code = Unit {0}

  -- ---- one that does not write
  abbrev Stays : WorldState → WorldState → Bool → Type 0
  Stays s later wrote = wrote ≡ false → later ≡ s

  stays : Relation Stays IsAny
  stays = record {
    none = λ s _. refl;
    both = λ s later last a b before after none. let parts = neither a b none in after parts.1 ∙ before parts.0;
    numbers = λ code _ _. tt;
  }

  silent_so : (s : WorldState) (o : Evaluation Object) → silence.Keeps s o → KeptBy Stays IsAny s o
  silent_so s (Ok d) keeps = keeps.same
  silent_so s (Err code) keeps = tt

  related_silent : (s : WorldState) (x : Object) → KeptBy Stays IsAny s (lexical_value names s x)
  related_silent s x = value_related names Stays IsAny stays Asks silence.Keeps silence.Keeps (silent_forms.steps names) silent_so (λ _ _. tt) s x

  pub lexical_silent : (s : WorldState) (x : Object) → silence.Keeps s (lexical_value names s x)
  lexical_silent s x = back (lexical_value names s x) (related_silent s x)
    where
      back : (o : Evaluation Object) → KeptBy Stays IsAny s o → silence.Keeps s o
      back (Ok d) stays' = record { same = stays' }
      back (Err code) stays' = record { same = tt }

  pub given_silent : (s : WorldState) (x : Object) (d : Done Object) → lexical_value names s x ≡ Ok d → d.wrote ≡ false → d.state ≡ s
  given_silent s x d is none = (subst (silence.Keeps s) is (lexical_silent s x)).same none

  -- ---- readtables
  abbrev StayCovered : WorldState → WorldState → Bool → Type 0
  StayCovered s later wrote = Covers names s later

  stay_covered : Relation StayCovered IsAny
  stay_covered = record {
    none = λ s all. all;
    both = λ s later last a b before after all. after (before all);
    numbers = λ code _ _. tt;
  }

  covered_so : (s : WorldState) (o : Evaluation Object) → keeping.Keeps (Covers names) s o → KeptBy StayCovered IsAny s o
  covered_so s (Ok d) keeps = keeps.kept
  covered_so s (Err code) keeps = tt

  related_covers : (s : WorldState) (x : Object) → KeptBy StayCovered IsAny s (lexical_value names s x)
  related_covers s x =
      value_related names StayCovered IsAny stay_covered Asks (keeping.Keeps (Covers names)) (keeping.Keeps (Covers names))
      (keeping_forms.steps true names (Covers names) (covering names) (λ _ later n all. all)) covered_so (λ _ _. tt) s x

  pub lexical_covers : (s : WorldState) (x : Object) → keeping.Keeps (Covers names) s (lexical_value names s x)
  lexical_covers s x = back (lexical_value names s x) (related_covers s x)
    where
      back : (o : Evaluation Object) → KeptBy StayCovered IsAny s o → keeping.Keeps (Covers names) s o
      back (Ok d) covers = record { kept = covers }
      back (Err code) covers = record { kept = tt }

  pub given_covered : (s : WorldState) (x : Object) (d : Done Object) → lexical_value names s x ≡ Ok d → AreCovered names s.readtables → AreCovered names d.state.readtables
  given_covered s x d is = (subst (keeping.Keeps (Covers names) s) is (lexical_covers s x)).kept

  -- ---- numbers
  abbrev Nothing : WorldState → WorldState → Bool → Type 0
  Nothing s later wrote = Unit {0}

  abbrev IsOfEvaluation : ℕ → Type 0
  IsOfEvaluation code = (30 ≤ code) × (code ≤ 49)

  of_evaluation : Relation Nothing IsOfEvaluation
  of_evaluation = record {
    none = λ s. tt;
    both = λ s later last a b _ _. tt;
    numbers = λ code lowest highest. (lowest, highest);
  }

  numbered_so : (s : WorldState) (o : Evaluation Object) → Numbered o → KeptBy Nothing IsOfEvaluation s o
  numbered_so s (Ok d) numbered = tt
  numbered_so s (Err code) numbered = let lowest : 30 ≤ code = numbered.number.0 in let highest : code ≤ 47 = numbered.number.1 in (lowest, omega arith)

  related_numbered : (s : WorldState) (x : Object) → KeptBy Nothing IsOfEvaluation s (lexical_value names s x)
  related_numbered s x =
      value_related names Nothing IsOfEvaluation of_evaluation Asks (λ _ o. Numbered o) (λ _ o. Numbered o) (numbered_forms.steps names) numbered_so (λ _ _. tt) s x

  pub lexical_numbered : (s : WorldState) (x : Object) (code : ℕ) → lexical_value names s x ≡ Err code → (30 ≤ code) × (code ≤ 49)
  lexical_numbered s x code refused = back (lexical_value names s x) (related_numbered s x) refused
    where
      back : (o : Evaluation Object) → KeptBy Nothing IsOfEvaluation s o → o ≡ Err code → (30 ≤ code) × (code ≤ 49)
      back (Ok d) _ refused = absurd (cc)
      back (Err number) bounds same = let e : number ≡ code = cc in let lowest : 30 ≤ number = bounds.0 in let highest : number ≤ 49 = bounds.1 in (omega arith, omega arith)
