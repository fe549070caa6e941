-- A name among the names of a list of things, looked for from the front.
use Rattle.std.proofs.Common.{◌≡◌, ℕ, ◌+◌, ◌<◌, ◌≤◌, Bool, true, false, ◌||◌, ◌&&◌, List, [], ◌∷◌, map, take, get_or, length, refl, ◌∙◌, sym, ap}
use Rattle.std.specs.List.{list_any, list_all}
use Rattle.std.proofs.lemmas.List.{take_all}
use Rattle.std.proofs.lemmas.List.Folds.{list_any_more, list_any_at, list_all_at}
use Rattle.std.proofs.lemmas.Bool.{or_from}
use Rattle.readtable_core.specs.Names.{is_among, same_name}

module _ {X : Type 0} (f : X → List ℕ) where
  -- one of the first i things has the name
  abbrev pub has_name : List ℕ → List X → Bool
  has_name name xs = list_any (λ x. same_name (f x) name) xs

  pub among : (xs : List X) (name : List ℕ) → is_among (map f xs) name ≡ has_name name xs
  among [] name = refl
  among (x ∷ xs) name = ap (λ b. same_name (f x) name || b) (among xs name)

  pub not_yet : (xs : List X) (i : ℕ) (x : X) (name : List ℕ) → i < length xs → x ≡ get_or xs i x → same_name (f x) name ≡ false
      → has_name name (take i xs) ≡ false → has_name name (take (i + 1) xs) ≡ false
  not_yet xs i x name below here other before =
      list_any_more (λ y. same_name (f y) name) xs i x below
      ∙ or_from _ _ before (sym (ap (λ y. same_name (f y) name) here) ∙ other)

  -- where a loop goes over ys, which are the things
  pub found_here : (xs ys : List X) (i : ℕ) (x : X) (name : List ℕ) → ys ≡ xs → i < length ys → x ≡ get_or ys i x
      → same_name (f x) name ≡ true → true ≡ is_among (map f xs) name
  found_here xs ys i x name e below here same =
      sym (among xs name ∙ ap (has_name name) (sym e)
      ∙ list_any_at (λ y. same_name (f y) name) ys i x below (sym (ap (λ y. same_name (f y) name) here) ∙ same))

  pub found_nowhere : (xs ys : List X) (i : ℕ) (name : List ℕ) → ys ≡ xs → length ys ≤ i → has_name name (take i ys) ≡ false
      → false ≡ is_among (map f xs) name
  found_nowhere xs ys i name e all before =
      sym (among xs name ∙ ap (has_name name) (sym e ∙ sym (take_all i ys all)) ∙ before)

-- a test of each element, where a loop goes over ys, which are the list
module _ {X : Type 0} (p : X → Bool) where
  pub each_but_one : (xs ys : List X) (i : ℕ) (x : X) → ys ≡ xs → i < length ys → x ≡ get_or ys i x → p x ≡ false → false ≡ list_all p xs
  each_but_one xs ys i x e below here fails = sym (ap (list_all p) (sym e) ∙ list_all_at p ys i x below (sym (ap p here) ∙ fails))

  pub each_in_all : (xs ys : List X) (i : ℕ) → ys ≡ xs → length ys ≤ i → list_all p (take i ys) ≡ true → true ≡ list_all p xs
  each_in_all xs ys i e all before = sym (ap (list_all p) (sym e ∙ sym (take_all i ys all)) ∙ before)

pub second_counts : (a b : Bool) → a ≡ true → b ≡ (a && b)
second_counts a b e = sym (ap (λ x. x && b) e)
