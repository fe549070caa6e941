-- What is known of a trial.
--     refused_deep, refused_accepted, refused_with      whether a form is refused with a number
--     refused_so                                        a trial of the same object
use Rattle.std.proofs.Common.{◌≡◌, ◌∷◌, [], ℕ, Bool, true, false, List, nat_le, ◌&&◌, ◌==◌, Ok, Err, ap, sym, ◌∙◌}
use Rattle.lisp_object.specs.Object.{Object, object_depth}
use Rattle.package_table.specs.Table.{Name}
use Rattle.plist_state.specs.State.{WorldState}
use Rattle.lisp_operators.specs.Evaluation.{Done}
use Rattle.form_eval.specs.Acceptance.{accept}
use Rattle.refused_part.specs.Part.{is_refused_form, is_refused_with}

module _ (names : List Name) (s : WorldState) (number : ℕ) where
  pub refused_deep : (x : Object) → nat_le (object_depth x) 100 ≡ false → false ≡ is_refused_form names s number x
  refused_deep x deep = sym (ap (λ b. b && is_refused_with number (accept names s x)) deep)

  pub refused_accepted : (x : Object) (d : Done Object) → nat_le (object_depth x) 100 ≡ true → accept names s x ≡ Ok d → false ≡ is_refused_form names s number x
  refused_accepted x d level gives = sym (ap (λ b. b && is_refused_with number (accept names s x)) level ∙ ap (is_refused_with number) gives)

  pub refused_with : (x : Object) (code : ℕ) → nat_le (object_depth x) 100 ≡ true → accept names s x ≡ Err code → (code == number) ≡ is_refused_form names s number x
  refused_with x code level gives = sym (ap (λ b. b && is_refused_with number (accept names s x)) level ∙ ap (is_refused_with number) gives)

  pub refused_so : (refused : Bool) (tried x : Object) → refused ≡ is_refused_form names s number tried → tried ≡ x → refused ≡ true → is_refused_form names s number x ≡ true
  refused_so refused tried x tells same told = ap (is_refused_form names s number) (sym same) ∙ sym tells ∙ told
