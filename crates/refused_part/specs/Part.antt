-- A part of a form whose refusal is the refusal of the form.
use Rattle.std.specs.Prelude.{◌≡◌, ◌⊎◌, ◌==◌, ◌&&◌, nat_le, ℕ, Bool, true, false, List, [], Ok, Err}
use Rattle.lisp_object.specs.Datum.{object_of}
use Rattle.lisp_object.specs.Object.{Object, object_depth}
use Rattle.lisp_object.specs.declared.datum.Datum.{Datum}
use Rattle.lisp_object.specs.declared.refusal.TheConstants.{ARGUMENT_COUNT, NOT_A_FORM}
use Rattle.package_table.specs.Table.{Name}
use Rattle.plist_state.specs.State.{WorldState}
use Rattle.lisp_operators.specs.Evaluation.{Evaluation}
use Rattle.form_eval.specs.Acceptance.{accept}
use Rattle.refused_part.specs.PartPlaces.{HasPart, both, no_form, quote_of_none, with_part}

-- it is refused with this number
abbrev pub is_refused_with : ℕ → Evaluation Object → Bool
is_refused_with number (Ok done) = false
is_refused_with number (Err code) = code == number

-- in this state of the world, with these macro functions
module _ (names : List Name) (s : WorldState) where
  -- an object is at most 100 deep, and refused with this number
  abbrev pub is_refused_form : ℕ → Object → Bool
  is_refused_form number x = nat_le (object_depth x) 100 && is_refused_with number (accept names s x)

  -- Whether a part of a form is evaluated: what is refused in its place is the refusal of the form, whatever its number is.
  abbrev pub is_evaluated : Object → List ℕ → Bool
  is_evaluated form place = is_refused_form NOT_A_FORM (with_part place no_form form) && is_refused_form ARGUMENT_COUNT (with_part place quote_of_none form)

  -- Whether a part is refused with this number, if it is evaluated: what follows it, and would be refused with another, is not evaluated.
  abbrev pub is_refused_first : ℕ → Object → List ℕ → Object → Bool
  is_refused_first number form place part =
      is_refused_form number (with_part place (both part no_form) form) && is_refused_form number (with_part place (both part quote_of_none) form)

  abbrev pub is_refused_at : ℕ → Object → List ℕ → Object → Bool
  is_refused_at number form place part = is_refused_first number form place part && is_evaluated form place

  -- A part for which a form was refused with this number: the form itself, or a part that is evaluated, and refused with it there.
  pub record IsRefusedPart (number : ℕ) (form part : Datum) : Type 0 where
    pub place : List ℕ
    pub there : HasPart place form part
    pub refused : (place ≡ []) ⊎ (is_refused_at number (object_of form) place (object_of part) ≡ true)
