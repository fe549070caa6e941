-- Data of which each is of a kind.
--     each_found      what they are
--     no_member      one is not of the kind
use Rattle.std.proofs.Common.{◌≡◌, ◌<◌, ℕ, zero, suc, true, false, List, [], ◌∷◌, Option, Some, None, option_map, option_and_then, unwrap_or, map, length, get_or, All, refl, sym, ap, ◌∙◌, arith}
use Rattle.std.specs.Option.{IsSome}
use Rattle.std.proofs.lemmas.Bool.{false≢true}
use Rattle.std.proofs.lemmas.List.Elements.{All-head, All-tail}
use Rattle.lisp_object.specs.declared.datum.Datum.{Datum}
use Rattle.lisp_object.specs.Object.{Object}
use Rattle.lisp_object.specs.Datum.{object_of}
use Rattle.lisp_operators.specs.Members.{each_in}

module _ {A : Type 0} (kind : Object → Option A) where
  first_none : (o : Option A) (r : Option (List A)) → None ≡ o → option_and_then (λ y. option_map (λ ys. y ∷ ys) r) o ≡ None
  first_none o r none = ap (λ p. option_and_then (λ y. option_map (λ ys. y ∷ ys) r) p) (sym none)

  none_behind : (o : Option A) → option_and_then (λ y. option_map (λ (ys : List A). y ∷ ys) None) o ≡ None
  none_behind None = refl
  none_behind (Some y) = refl

  pub no_member : (xs : List Datum) (i : ℕ) (m : Datum) → i < length xs → m ≡ get_or xs i m → None ≡ kind (object_of m) → each_in kind (map object_of xs) ≡ None
  no_member [] i m within is none = absurd (omega arith)
  no_member (x ∷ xs) zero m within is none = first_none (kind (object_of x)) (each_in kind (map object_of xs)) (none ∙ ap (λ d. kind (object_of d)) is)
  no_member (x ∷ xs) (suc i) m within is none =
      ap (λ r. option_and_then (λ y. option_map (λ ys. y ∷ ys) r) (kind (object_of x))) (no_member xs i m (omega (arith, within)) is none) ∙ none_behind (kind (object_of x))

  module _ (default : A) where
    with_first : (o : Option A) (ys : List A) → IsSome o → option_and_then (λ y. option_map (λ zs. y ∷ zs) (Some ys)) o ≡ Some (unwrap_or o default ∷ ys)
    with_first (Some y) ys is = refl
    with_first None ys is = absurd (false≢true is)

    pub each_found : (xs : List Datum) → All (λ d. IsSome (kind (object_of d))) xs → each_in kind (map object_of xs) ≡ Some (map (λ d. unwrap_or (kind (object_of d)) default) xs)
    each_found [] all = refl
    each_found (x ∷ xs) all =
        ap (λ r. option_and_then (λ y. option_map (λ ys. y ∷ ys) r) (kind (object_of x))) (each_found xs (All-tail (λ d. IsSome (kind (object_of d))) x xs all))
        ∙ with_first (kind (object_of x)) (map (λ d. unwrap_or (kind (object_of d)) default) xs) (All-head (λ d. IsSome (kind (object_of d))) x xs all)
