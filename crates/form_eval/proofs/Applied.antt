-- What a form gives whose symbols are interned first.
--     accepted      its value
--     applied_left      what it leaves where it is carried out
--     applied_refused, answered_refused      where it is refused, or memory runs out
--     interning_wants_none      no symbol is refused for want of a function
use Rattle.std.proofs.Common.{◌≡◌, ℕ, Bool, true, false, ◌||◌, List, Result, Ok, Err, ap, sym, refl, ◌∙◌}
use Rattle.lisp_object.specs.Object.{Object}
use Rattle.package_table.specs.declared.error.PackageError.{PackageError}
use Rattle.package_table.specs.declared.error.PackageError.TheVariants.{NoPackage, NotExternal, LockedPackage, EmptyName, NoSuchPackage, PackageExists, PackageIsLocked, NameConflict, NotAccessible, Limit, OutOfMemory as NoRoom}
use Rattle.package_table.specs.Symbols.{symbols}
use Rattle.package_table.specs.Table.{Name}
use Rattle.plist_state.specs.State.{WorldState}
use Rattle.plist_state.specs.Changes.{with_packages}
use Rattle.lisp_operators.specs.declared.error.EvaluationError.{EvaluationError}
use Rattle.lisp_operators.specs.declared.error.EvaluationError.TheVariants.{Refused, OutOfMemory}
use Rattle.lisp_operators.specs.Effects.{Leaves, effect}
use Rattle.lisp_operators.specs.EvaluationAnswers.{Answers}
use Rattle.lisp_operators.specs.Evaluation.{Done, Evaluation, also}
use Rattle.lisp_operators.specs.ErrorNumbers.{of_package}
use Rattle.evaluator.specs.FormsGivenBack.{wants_function}
use Rattle.evaluator.specs.Value.{value}
use Rattle.form_eval.specs.Acceptance.{accept, accepted_by, with_symbols_interned}

pub interning_wants_none : (e : PackageError) → wants_function (of_package e) ≡ false
interning_wants_none NoPackage = refl
interning_wants_none NotExternal = refl
interning_wants_none LockedPackage = refl
interning_wants_none EmptyName = refl
interning_wants_none NoSuchPackage = refl
interning_wants_none PackageExists = refl
interning_wants_none PackageIsLocked = refl
interning_wants_none NameConflict = refl
interning_wants_none NotAccessible = refl
interning_wants_none Limit = refl
interning_wants_none NoRoom = refl

abbrev written_before : Bool → Result (WorldState × Bool) ℕ → Result (WorldState × Bool) ℕ
written_before interned (Ok p) = Ok (p.0, interned || p.1)
written_before interned (Err code) = Err code

effect_also : (interned : Bool) (o : Evaluation Object) → effect (also interned o) ≡ written_before interned (effect o)
effect_also interned (Ok d) = refl
effect_also interned (Err code) = refl

module _ (names : List Name) (s v t : WorldState) (x : Object) (interned : Bool) (there : with_symbols_interned s.packages (symbols x) ≡ Ok (v.packages, interned)) (rest : v ≡ with_packages s v.packages) where
  pub accepted : accept names s x ≡ also interned (value names v x)
  accepted = (λ i. accepted_by true names s (there i) x) ∙ ap (λ w. also interned (value names w x)) (sym rest)

  pub applied_left : (wrote : Bool) → effect (value names v x) ≡ Ok (t, wrote) → effect (accept names s x) ≡ Ok (t, interned || wrote)
  applied_left wrote is = ap effect accepted ∙ effect_also interned (value names v x) ∙ ap (written_before interned) is

  pub applied_refused : (error : EvaluationError) → Leaves (Err error) t (value names v x) → Leaves (Err error) t (accept names s x)
  applied_refused (Refused code) is = accepted ∙ ap (also interned) is
  applied_refused OutOfMemory is = tt

  pub answered_refused : {A B : Type 0} (f : A → WorldState → Done Object) (g : B → WorldState → Done Object) (error : EvaluationError)
      → Answers f (Err error) t (value names v x) → Answers g (Err error) t (accept names s x)
  answered_refused f g (Refused code) is = accepted ∙ ap (also interned) is
  answered_refused f g OutOfMemory is = tt
