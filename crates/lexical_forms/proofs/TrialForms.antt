-- Forms of tests, which may be evaluated where their symbols are there.
--     definition_may, call_may      a definition, and a call
--     same_two, same_four      lists of the same items
use Rattle.std.proofs.Common.{◌≡◌, ◌<◌, ◌∷◌, [], true, false, codes, All, refl, sym, subst, ◌∙◌, arith}
use Rattle.std.proofs.lemmas.Bool.{false≢true}
use Rattle.std.proofs.lemmas.Option.{same_Some}
use Rattle.lisp_object.specs.declared.datum.Datum.{Datum}
use Rattle.lisp_object.specs.Datum.{object_of, is_proper}
use Rattle.lisp_object.specs.Object as object
use Rattle.lisp_object.specs.Object.{Object, character, symbol, list_of}
use Rattle.lisp_object.proofs.Sound.{all_below, sound_nil}
use Rattle.package_table.specs.Table.{Name, Table, IsPresent, common_lisp, common_lisp_user, AreSoundPackages}
use Rattle.package_table.proofs.FirstNames.{nil_present}
use Rattle.package_table.proofs.Found.{present_found}
use Rattle.evaluator.specs.Operators.{pazturrok}
use Rattle.form_eval.specs.Laws.{FitsTable, IsForm, MayEvaluate}

abbrev defun : Object
defun = symbol pazturrok (codes "DEFUN")

abbrev list : Object
list = symbol common_lisp (codes "LIST")

abbrev name : Object
name = symbol common_lisp_user (codes "F")

module _ (t : Table) (sound : AreSoundPackages t) where
  present_fits : (home name' : Name) → IsPresent t home name' home → FitsTable t (symbol home name')
  present_fits home name' here = λ h there. sym (same_Some home h (sym (present_found t name' home home here) ∙ there))

  nil_fits : FitsTable t (symbol common_lisp (codes "NIL"))
  nil_fits = present_fits common_lisp (codes "NIL") (nil_present t sound)

  may : (x : Object) → IsForm t x → (d : Datum) → is_proper d ≡ true → object_of d ≡ x → MayEvaluate t (record { datum = d; known = false })
  may x form d proper same = record {
    proper = proper;
    form = subst (IsForm t) (sym same) form;
    all_there = λ known. absurd (false≢true known);
  }

  pub definition_may : IsPresent t pazturrok (codes "DEFUN") pazturrok → IsPresent t common_lisp_user (codes "F") common_lisp_user → IsPresent t common_lisp (codes "LIST") common_lisp
      → (d : Datum) → is_proper d ≡ true → object_of d ≡ list_of (defun ∷ name ∷ list_of (list ∷ []) ∷ list ∷ []) → MayEvaluate t (record { datum = d; known = false })
  definition_may head own variable d proper same =
      let lisp : All (λ b. b < 128) common_lisp = all_below common_lisp refl in
      let list_sound : object.IsSound list = (lisp, all_below (codes "LIST") refl) in
      let list_fits : FitsTable t list = present_fits common_lisp (codes "LIST") variable in
      may (list_of (defun ∷ name ∷ list_of (list ∷ []) ∷ list ∷ []))
      (record {
        object = ((all_below pazturrok refl, all_below (codes "DEFUN") refl), ((all_below common_lisp_user refl, all_below (codes "F") refl), ((list_sound, sound_nil), (list_sound, sound_nil))));
        depth = omega arith;
        symbols =
            (present_fits pazturrok (codes "DEFUN") head, (present_fits common_lisp_user (codes "F") own, ((list_fits, nil_fits), (list_fits, nil_fits))));
      })
      d proper same

  pub call_may : IsPresent t common_lisp_user (codes "F") common_lisp_user → (d : Datum) → is_proper d ≡ true → object_of d ≡ list_of (name ∷ character 65 ∷ []) → MayEvaluate t (record { datum = d; known = false })
  call_may own d proper same =
      may (list_of (name ∷ character 65 ∷ []))
      (record {
        object = ((all_below common_lisp_user refl, all_below (codes "F") refl), (omega arith, sound_nil));
        depth = omega arith;
        symbols = (present_fits common_lisp_user (codes "F") own, (tt, nil_fits));
      })
      d proper same

pub same_two : (a b c d : Object) → a ≡ c → b ≡ d → list_of (a ∷ b ∷ []) ≡ list_of (c ∷ d ∷ [])
same_two a b c d one two = cc

pub same_four : (a b c d e f g h : Object) → a ≡ e → b ≡ f → c ≡ g → d ≡ h → list_of (a ∷ b ∷ c ∷ d ∷ []) ≡ list_of (e ∷ f ∷ g ∷ h ∷ [])
same_four a b c d e f g h one two three four = cc
