-- Members of a list of arguments, each of a kind.
--     each_found      what they are
--     no_member      one is not of the kind
--     packages_found, no_package      packages by their names
use Rattle.std.proofs.Common.{◌≡◌, ◌<◌, ℕ, Bool, true, false, cond, List, [], ◌∷◌, Option, Some, None, option_map, option_and_then, unwrap_or, map, length, get_or, All, refl, sym, ap, ◌∙◌, suc, zero, arith}
use Rattle.std.specs.Option.{IsSome, option_map_or}
use Rattle.std.proofs.lemmas.Bool.{false≢true}
use Rattle.std.proofs.lemmas.List.Elements.{All-head, All-tail}
use Rattle.lisp_object.specs.declared.datum.Datum.{Datum}
use Rattle.lisp_object.specs.Object.{Object}
use Rattle.lisp_object.specs.Datum.{object_of}
use Rattle.std.specs.FinMap as finite
use Rattle.package_table.specs.Table.{Name, Table, full_name, package_named}
use Rattle.package_table.proofs.Names.{none_some}
use Rattle.lisp_operators.specs.Members.{each_in, name_in}
use Rattle.lisp_operators.specs.Packages.{packages_named}
use Rattle.lisp_operators.proofs.MemberLists.{no_more}

module _ {A : Type 0} (kind : Object → Option A) where
  first_none : (o : Option A) (r : Option (List A)) → None ≡ o → option_and_then (λ y. option_map (λ ys. y ∷ ys) r) o ≡ None
  first_none o r none = ap (λ p. option_and_then (λ y. option_map (λ ys. y ∷ ys) r) p) (sym none)

  pub no_member : (xs : List Datum) (i : ℕ) (m : Datum) → i < length xs → m ≡ get_or xs i m → None ≡ kind (object_of m) → each_in kind (map object_of xs) ≡ None
  no_member [] i m within is none = absurd (omega arith)
  no_member (x ∷ xs) zero m within is none = first_none (kind (object_of x)) (each_in kind (map object_of xs)) (none ∙ ap (λ d. kind (object_of d)) is)
  no_member (x ∷ xs) (suc i) m within is none =
      ap (λ r. option_and_then (λ y. option_map (λ ys. y ∷ ys) r) (kind (object_of x))) (no_member xs i m (omega (arith, within)) is none) ∙ no_more kind (kind (object_of x))

  module _ (default : A) where
    with_first : (o : Option A) (ys : List A) → IsSome o → option_and_then (λ y. option_map (λ zs. y ∷ zs) (Some ys)) o ≡ Some (unwrap_or o default ∷ ys)
    with_first (Some y) ys is = refl
    with_first None ys is = absurd (false≢true is)

    pub each_found : (xs : List Datum) → All (λ d. IsSome (kind (object_of d))) xs → each_in kind (map object_of xs) ≡ Some (map (λ d. unwrap_or (kind (object_of d)) default) xs)
    each_found [] all = refl
    each_found (x ∷ xs) all =
        ap (λ r. option_and_then (λ y. option_map (λ ys. y ∷ ys) r) (kind (object_of x))) (each_found xs (All-tail (λ d. IsSome (kind (object_of d))) x xs all))
        ∙ with_first (kind (object_of x)) (map (λ d. unwrap_or (kind (object_of d)) default) xs) (All-head (λ d. IsSome (kind (object_of d))) x xs all)

-- ---- packages by their names
abbrev pub IsThere : Table → Datum → Type 0
IsThere u d = package_named u (name_in d) ≡ Some (full_name (name_in d))

named_full : (b : Bool) (f p : Name) → Some p ≡ cond b (Some f) None → cond b (Some f) None ≡ Some f
named_full true f p is = refl
named_full false f p is = absurd (none_some p (sym is))

pub is_there : (u : Table) (d : Datum) (p : Name) → Some p ≡ package_named u (name_in d) → IsThere u d
is_there u d p is = named_full (finite.contains_key u (full_name (name_in d))) (full_name (name_in d)) p is

abbrev first_and : Option Name → Option (List Name) → Option (List Name)
first_and o r = option_map_or (λ p. option_map_or (λ ps. Some (p ∷ ps)) r None) o None

pub packages_found : (u : Table) (xs : List Datum) → All (IsThere u) xs → packages_named u (map name_in xs) ≡ Some (map (λ d. full_name (name_in d)) xs)
packages_found u [] all = refl
packages_found u (x ∷ xs) all =
    ap (λ o. first_and o (packages_named u (map name_in xs))) (All-head (IsThere u) x xs all)
    ∙ ap (first_and (Some (full_name (name_in x)))) (packages_found u xs (All-tail (IsThere u) x xs all))

no_rest : (o : Option Name) → first_and o None ≡ None
no_rest None = refl
no_rest (Some p) = refl

pub no_package : (u : Table) (xs : List Datum) (i : ℕ) (m : Datum) → i < length xs → m ≡ get_or xs i m → None ≡ package_named u (name_in m) → packages_named u (map name_in xs) ≡ None
no_package u [] i m within is none = absurd (omega arith)
no_package u (x ∷ xs) zero m within is none = ap (λ o. first_and o (packages_named u (map name_in xs))) (sym (none ∙ ap (λ d. package_named u (name_in d)) is))
no_package u (x ∷ xs) (suc i) m within is none = ap (first_and (package_named u (name_in x))) (no_package u xs i m (omega (arith, within)) is none) ∙ no_rest (package_named u (name_in x))
