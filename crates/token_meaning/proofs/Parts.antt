-- A list is cut at an element where it is what is before it, the element, and what comes after it.
use Rattle.std.proofs.Common.{◌≡◌, Bool, true, false, ◌||◌, List, [], ◌∷◌, ◌++◌, Option, None, Some, refl, ap, ◌∙◌}
use Rattle.std.specs.Prelude.{if◌then◌else◌}
use Rattle.std.specs.List.{list_any}
use Rattle.std.specs.Option.{option_map}
use Rattle.token_meaning.specs.Numerals.{cut_at_first, with_first}

pub cut_with : {X : Type 0} (p : X → Bool) (xs : List X) (y : X) (ys : List X) → list_any p xs ≡ false → p y ≡ true → cut_at_first p (xs ++ y ∷ ys) ≡ Some (xs, ys)
cut_with p [] y ys before here = rw here refl
cut_with p (x ∷ xs) y ys before here =
    elim (p x)
    as (λ b. (b || list_any p xs) ≡ false → (if b then Some ([], xs ++ y ∷ ys) else option_map (with_first x) (cut_at_first p (xs ++ y ∷ ys))) ≡ Some (x ∷ xs, ys))
    [ true ↦ λ e. absurd cc | false ↦ λ e. rw (cut_with p xs y ys e here) refl ] before

pub cut_without : {X : Type 0} (p : X → Bool) (xs : List X) → list_any p xs ≡ false → cut_at_first p xs ≡ None
cut_without p [] e = refl
cut_without p (x ∷ xs) e =
    elim (p x)
    as (λ b. (b || list_any p xs) ≡ false → (if b then Some ([], xs) else option_map (with_first x) (cut_at_first p xs)) ≡ None)
    [ true ↦ λ f. absurd cc | false ↦ λ f. rw (cut_without p xs f) refl ] e

-- an element that does not pass stays in front
abbrev pub onto_front : {X : Type 0} → List X → X → List X × List X → List X × List X
onto_front xs y parts = (xs ++ y ∷ parts.0, parts.1)

longer_front : {X : Type 0} (x : X) (xs : List X) (y : X) (o : Option (List X × List X))
    → option_map (with_first x) (option_map (onto_front xs y) o) ≡ option_map (onto_front (x ∷ xs) y) o
longer_front x xs y None = refl
longer_front x xs y (Some parts) = refl

pub cut_past : {X : Type 0} (p : X → Bool) (xs : List X) (y : X) (ys : List X) → list_any p xs ≡ false → p y ≡ false
    → cut_at_first p (xs ++ y ∷ ys) ≡ option_map (onto_front xs y) (cut_at_first p ys)
cut_past p [] y ys before here = rw here refl
cut_past p (x ∷ xs) y ys before here =
    elim (p x)
    as (λ b. (b || list_any p xs) ≡ false → (if b then Some ([], xs ++ y ∷ ys) else option_map (with_first x) (cut_at_first p (xs ++ y ∷ ys))) ≡ option_map (onto_front (x ∷ xs) y) (cut_at_first p ys))
    [ true ↦ λ e. absurd cc | false ↦ λ e. ap (option_map (with_first x)) (cut_past p xs y ys e here) ∙ longer_front x xs y (cut_at_first p ys) ] before

-- the element between both parts
pub record IsCut {X : Type 0} (p : X → Bool) (whole : List X) (parts : List X × List X) : Type 0 where
  pub mark : X
  pub passes : p mark ≡ true
  pub joined : whole ≡ parts.0 ++ mark ∷ parts.1

abbrev pub CutAt : {X : Type 0} → (X → Bool) → List X → Option (List X × List X) → Type 0
CutAt p whole None = Unit {0}
CutAt p whole (Some parts) = IsCut p whole parts

longer : {X : Type 0} (p : X → Bool) (x : X) (xs : List X) (o : Option (List X × List X)) → CutAt p xs o → CutAt p (x ∷ xs) (option_map (with_first x) o)
longer p x xs None at = tt
longer p x xs (Some parts) at = record { mark = at.mark; passes = at.passes; joined = ap (λ zs. x ∷ zs) at.joined }

at_front : {X : Type 0} (p : X → Bool) (x : X) (xs : List X) (b : Bool) → p x ≡ b → CutAt p xs (cut_at_first p xs)
    → CutAt p (x ∷ xs) (if b then Some ([], xs) else option_map (with_first x) (cut_at_first p xs))
at_front p x xs true e at = record { mark = x; passes = e; joined = refl }
at_front p x xs false e at = longer p x xs (cut_at_first p xs) at

pub cut_parts : {X : Type 0} (p : X → Bool) (xs : List X) → CutAt p xs (cut_at_first p xs)
cut_parts p [] = tt
cut_parts p (x ∷ xs) = at_front p x xs (p x) refl (cut_parts p xs)
