-- What is put in the place of a part may be tried in each world.
use Rattle.std.proofs.Common.{◌≡◌, ◌∷◌, [], true, sym, subst}
use Rattle.lisp_object.specs.Datum.{object_of, is_proper}
use Rattle.lisp_object.specs.Object.{AllAtoms, list_of}
use Rattle.lisp_object.specs.declared.datum.Datum.{Datum}
use Rattle.package_table.specs.Table.{Table, AreSoundPackages}
use Rattle.form_eval.specs.Laws.{FitsTable}
use Rattle.refused_part.specs.PartPlaces.{both, no_form, quotation, quote_of_none}
use Rattle.refused_part.specs.Search.{MayTry}
use Rattle.refused_part.proofs.Fitting.{no_form_fits, none_fits, both_fit, quotation_fits, call_fits}

module _ (t : Table) (sound : AreSoundPackages t) (d : Datum) (proper : is_proper d ≡ true) where
  pub may_no_form : object_of d ≡ no_form → MayTry t d
  may_no_form object = (proper, subst (AllAtoms (FitsTable t)) (sym object) (no_form_fits t sound))

  pub may_none : object_of d ≡ quote_of_none → MayTry t d
  may_none object = (proper, subst (AllAtoms (FitsTable t)) (sym object) (none_fits t sound))

  pub may_both : (x y : Datum) → MayTry t x → MayTry t y → object_of d ≡ both (object_of x) (object_of y) → MayTry t d
  may_both x y one other object = (proper, subst (AllAtoms (FitsTable t)) (sym object) (both_fit t sound (object_of x) (object_of y) one.1 other.1))

  pub may_quotation : (x : Datum) → MayTry t x → object_of d ≡ quotation (object_of x) → MayTry t d
  may_quotation x one object = (proper, subst (AllAtoms (FitsTable t)) (sym object) (quotation_fits t sound (object_of x) one.1))

  pub may_call : (x : Datum) → MayTry t x → object_of d ≡ list_of (object_of x ∷ []) → MayTry t d
  may_call x one object = (proper, subst (AllAtoms (FitsTable t)) (sym object) (call_fits t sound (object_of x) one.1))
