-- Changes of the packages one after the other.
--     goes_on, is_over, stops      one more change, all of them, and one that is refused
use Rattle.std.proofs.Common.{◌≡◌, ◌<◌, ◌+◌, ℕ, ◌≤◌, Bool, false, ◌||◌, List, [], ◌∷◌, ◌++◌, Result, Ok, Err, map, length, take, drop, get_or, refl, sym, ap, ◌∙◌, add-one, suc}
use Rattle.std.proofs.Math.Seq.{drop-cons}
use Rattle.std.proofs.lemmas.List.{map_more, map-append, take_all, take-append-drop}
use Rattle.package_table.specs.declared.error.PackageError.{PackageError}
use Rattle.package_table.specs.declared.error.PackageError.TheVariants.{NoPackage, NotExternal, LockedPackage, EmptyName, NoSuchPackage, PackageExists, PackageIsLocked, NameConflict, NotAccessible, Limit, OutOfMemory}
use Rattle.package_table.specs.Table.{Table}
use Rattle.package_table.specs.Changes.{AnswersPackages}
use Rattle.lisp_operators.specs.Packages.{one_by_one, then_others}
use Rattle.lisp_operators.specs.EvaluationAnswers.{MakesPackages}

-- what is from an index on
from_index : {X Y : Type 0} (f : X → Y) (xs : List X) (i : ℕ) (x : X) → i < length xs → x ≡ get_or xs i x → map f (drop i xs) ≡ f x ∷ map f (drop (i + 1) xs)
from_index f xs i x within is =
    ap (map f) (drop-cons xs i x within) ∙ ap (λ z. f z ∷ map f (drop (suc i) xs)) (sym is) ∙ ap (λ n. f x ∷ map f (drop n xs)) (sym (add-one i))

module _ {A : Type 0} (change : Table → A → Result Table PackageError) (changes : Table → A → Bool) where
  abbrev follow : List A → Result (Table × Bool) PackageError → Result (Table × Bool) PackageError
  follow ys (Ok p) = one_by_one change changes p.0 p.1 ys
  follow ys (Err e) = Err e

  joined : (u : Table) (w : Bool) (xs ys : List A) → one_by_one change changes u w (xs ++ ys) ≡ follow ys (one_by_one change changes u w xs)
  joined u w [] ys = refl
  joined u w (x ∷ xs) ys = first_of (λ later. joined later (w || changes u x) xs ys) (change u x)
    where
      first_of : ((later : Table) → one_by_one change changes later (w || changes u x) (xs ++ ys) ≡ follow ys (one_by_one change changes later (w || changes u x) xs)) → (r : Result Table PackageError)
          → then_others r (λ later. one_by_one change changes later (w || changes u x) (xs ++ ys)) ≡ follow ys (then_others r (λ later. one_by_one change changes later (w || changes u x) xs))
      first_of each (Ok later) = each later
      first_of each (Err e) = refl

  -- after some of them
  then_next : (u v : Table) (w : Bool) (xs ys : List A) (y : A) → one_by_one change changes u false xs ≡ Ok (v, w)
      → one_by_one change changes u false (xs ++ y ∷ ys) ≡ then_others (change v y) (λ later. one_by_one change changes later (w || changes v y) ys)
  then_next u v w xs ys y before = joined u false xs (y ∷ ys) ∙ ap (follow (y ∷ ys)) before

  module _ {X : Type 0} (f : X → A) where
    front_more : (xs : List X) (i : ℕ) (x : X) → i < length xs → x ≡ get_or xs i x → map f (take (i + 1) xs) ≡ map f (take i xs) ++ f x ∷ []
    front_more xs i x within is = map_more f xs i x within ∙ ap (λ z. map f (take i xs) ++ f z ∷ []) (sym is)

    at_index : (xs : List X) (i : ℕ) (x : X) → i < length xs → x ≡ get_or xs i x → map f xs ≡ map f (take i xs) ++ f x ∷ map f (drop (i + 1) xs)
    at_index xs i x within is =
        ap (map f) (sym (take-append-drop i xs)) ∙ map-append f (take i xs) (drop i xs) ∙ ap (λ l. map f (take i xs) ++ l) (from_index f xs i x within is)

    -- one more of them
    pub goes_on : (u v z : Table) (w b : Bool) (xs : List X) (i : ℕ) (x : X) → i < length xs → x ≡ get_or xs i x → one_by_one change changes u false (map f (take i xs)) ≡ Ok (v, w)
        → change v (f x) ≡ Ok z → b ≡ changes v (f x) → one_by_one change changes u false (map f (take (i + 1) xs)) ≡ Ok (z, w || b)
    goes_on u v z w b xs i x within is before made tells =
        ap (one_by_one change changes u false) (front_more xs i x within is) ∙ then_next u v w (map f (take i xs)) [] (f x) before
        ∙ ap (λ r. then_others r (λ later. one_by_one change changes later (w || changes v (f x)) [])) made ∙ ap (λ c. Ok (z, w || c)) (sym tells)

    -- all of them
    pub is_over : (u v : Table) (w : Bool) (xs : List X) (i : ℕ) → length xs ≤ i → one_by_one change changes u false (map f (take i xs)) ≡ Ok (v, w) → one_by_one change changes u false (map f xs) ≡ Ok (v, w)
    is_over u v w xs i past before = ap (λ l. one_by_one change changes u false (map f l)) (sym (take_all i xs past)) ∙ before

    refused_at : (u v : Table) (w : Bool) (xs : List X) (i : ℕ) (x : X) (e : PackageError) → i < length xs → x ≡ get_or xs i x → one_by_one change changes u false (map f (take i xs)) ≡ Ok (v, w)
        → change v (f x) ≡ Err e → one_by_one change changes u false (map f xs) ≡ Err e
    refused_at u v w xs i x e within is before made =
        ap (one_by_one change changes u false) (at_index xs i x within is) ∙ then_next u v w (map f (take i xs)) (map f (drop (i + 1) xs)) (f x) before
        ∙ ap (λ r. then_others r (λ later. one_by_one change changes later (w || changes v (f x)) (map f (drop (i + 1) xs)))) made

    -- one of them is refused, or memory runs out
    pub stops : {B : Type 0} (view : B → Table) (e : PackageError) (u v z : Table) (w : Bool) (xs : List X) (i : ℕ) (x : X) → i < length xs → x ≡ get_or xs i x → one_by_one change changes u false (map f (take i xs)) ≡ Ok (v, w)
        → AnswersPackages view (Err e) (change v (f x)) → MakesPackages (Err e) z (one_by_one change changes u false (map f xs))
    stops view NoPackage u v z w xs i x within is before h = refused_at u v w xs i x NoPackage within is before h
    stops view NotExternal u v z w xs i x within is before h = refused_at u v w xs i x NotExternal within is before h
    stops view LockedPackage u v z w xs i x within is before h = refused_at u v w xs i x LockedPackage within is before h
    stops view EmptyName u v z w xs i x within is before h = refused_at u v w xs i x EmptyName within is before h
    stops view NoSuchPackage u v z w xs i x within is before h = refused_at u v w xs i x NoSuchPackage within is before h
    stops view PackageExists u v z w xs i x within is before h = refused_at u v w xs i x PackageExists within is before h
    stops view PackageIsLocked u v z w xs i x within is before h = refused_at u v w xs i x PackageIsLocked within is before h
    stops view NameConflict u v z w xs i x within is before h = refused_at u v w xs i x NameConflict within is before h
    stops view NotAccessible u v z w xs i x within is before h = refused_at u v w xs i x NotAccessible within is before h
    stops view Limit u v z w xs i x within is before h = refused_at u v w xs i x Limit within is before h
    stops view OutOfMemory u v z w xs i x within is before h = tt
