-- A list of a symbol and an object.
use Rattle.std.proofs.Common.{◌≡◌, ℕ, true, ◌&&◌, List, [], ◌∷◌, length, map, None, refl, ap, ◌∙◌}
use Rattle.std.specs.Prelude.{codes, nat_lt}
use Rattle.std.specs.List.{list_all}
use Rattle.std.proofs.lemmas.Bool.{and_from}
use Rattle.lisp_object.specs.declared.datum.Datum
use Rattle.lisp_object.specs.declared.datum.Datum.{Datum}
use Rattle.lisp_object.specs.Ascii.{is_ascii}
use Rattle.lisp_object.specs.Object.{nil, pair, pairs}
use Rattle.lisp_object.specs.Datum.{object_of, is_proper}
use Rattle.lisp_object.proofs.Objects.{object_of-List, object_of-Symbol}
use Rattle.lisp_object.proofs.Properness.{is_proper-List, is_proper-Symbol}
use Rattle.std_macros.specs.Values.{headed}

pub headed_object : (name : List ℕ) (x : Datum) (items : List Datum) → items ≡ Datum.Symbol (codes "COMMON-LISP") name ∷ x ∷ []
    → object_of (Datum.List items None) ≡ headed name (object_of x)
headed_object name x items e =
    object_of-List items ∙ ap (λ (ys : List Datum). pairs (map object_of ys) nil) e
    ∙ ap (λ s. pair s (pair (object_of x) nil)) (object_of-Symbol (codes "COMMON-LISP") name)

pub headed_proper : (name : List ℕ) (x : Datum) (items : List Datum) → items ≡ Datum.Symbol (codes "COMMON-LISP") name ∷ x ∷ []
    → list_all is_ascii name ≡ true → is_proper x ≡ true → is_proper (Datum.List items None) ≡ true
headed_proper name x items e below proper =
    is_proper-List items ∙ ap (λ (ys : List Datum). nat_lt 0 (length ys) && list_all is_proper ys) e
    ∙ and_from _ _ (is_proper-Symbol (codes "COMMON-LISP") name ∙ below) (and_from _ _ proper refl)
