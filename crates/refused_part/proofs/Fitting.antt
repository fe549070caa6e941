-- What is put in the place of a part fits all packages.
use Rattle.std.proofs.Common.{◌≡◌, ◌≤◌, ◌∷◌, [], true, codes, length, bytes_eq, refl, sym, ◌∙◌, arith}
use Rattle.std.specs.List.{list_any}
use Rattle.std.proofs.lemmas.Option.{same_Some}
use Rattle.lisp_object.specs.Object.{Object, AllAtoms, symbol, list_of}
use Rattle.package_table.specs.Table.{Name, Table, common_lisp, common_lisp_names, AreSoundPackages}
use Rattle.package_table.proofs.FirstNames.{lisp_present}
use Rattle.package_table.proofs.Found.{present_found}
use Rattle.form_eval.specs.Laws.{FitsTable}
use Rattle.refused_part.specs.PartPlaces.{both, no_form, quotation, quote_of_none}

module _ (t : Table) (sound : AreSoundPackages t) where
  listed_fits : (n : Name) → list_any (bytes_eq n) common_lisp_names ≡ true → FitsTable t (symbol common_lisp n)
  listed_fits n listed = λ h there. sym (same_Some common_lisp h (sym (present_found t n common_lisp common_lisp (lisp_present t sound n listed)) ∙ there))

  quote_fits : FitsTable t (symbol common_lisp (codes "QUOTE"))
  unfolding common_lisp_names
  quote_fits = listed_fits (codes "QUOTE") refl

  progn_fits : FitsTable t (symbol common_lisp (codes "PROGN"))
  unfolding common_lisp_names
  progn_fits = listed_fits (codes "PROGN") refl

  nil_fits : FitsTable t (symbol common_lisp (codes "NIL"))
  unfolding common_lisp_names
  nil_fits = listed_fits (codes "NIL") refl

  pub no_form_fits : AllAtoms (FitsTable t) no_form
  no_form_fits = omega arith

  pub none_fits : AllAtoms (FitsTable t) quote_of_none
  none_fits = (quote_fits, nil_fits)

  pub both_fit : (x y : Object) → AllAtoms (FitsTable t) x → AllAtoms (FitsTable t) y → AllAtoms (FitsTable t) (both x y)
  both_fit x y one other = (progn_fits, (one, (other, nil_fits)))

  pub quotation_fits : (x : Object) → AllAtoms (FitsTable t) x → AllAtoms (FitsTable t) (quotation x)
  quotation_fits x one = (quote_fits, (one, nil_fits))

  pub call_fits : (x : Object) → AllAtoms (FitsTable t) x → AllAtoms (FitsTable t) (list_of (x ∷ []))
  call_fits x one = (one, nil_fits)
