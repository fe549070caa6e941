-- Lists of what passes tests.
--     same      whether two tests say the same; same_is      then they do
--     passing_both      what passes one test and then another passes both
--     passing_alike     two tests that say the same of each element
use Rattle.std.proofs.Common.{◌≡◌, Bool, true, false, not, cond, List, [], ◌∷◌, filter, refl, sym}
use Rattle.std.specs.Prelude.{◌&&◌}
use Rattle.std.specs.List.{list_all}
use Rattle.std.proofs.lemmas.Bool.{false≢true, and_parts}

abbrev pub same : Bool → Bool → Bool
same true b = b
same false b = not b

pub same_is : (a b : Bool) → same a b ≡ true → a ≡ b
same_is true b is = sym is
same_is false true is = absurd (false≢true is)
same_is false false is = refl

module _ {A : Type 0} (f g : A → Bool) where
  pub passing_both : (xs : List A) → filter f (filter g xs) ≡ filter (λ x. g x && f x) xs
  passing_both [] = refl
  passing_both (x ∷ xs) =
      let later = passing_both xs in
      elim (g x) as (λ b. filter f (cond b (x ∷ filter g xs) (filter g xs)) ≡ cond (b && f x) (x ∷ filter (λ x. g x && f x) xs) (filter (λ x. g x && f x) xs)) [
        | true ↦ λ i. cond (f x) (x ∷ later i) (later i)
        | false ↦ later
      ]

  pub passing_alike : (xs : List A) → list_all (λ x. same (f x) (g x)) xs ≡ true → filter f xs ≡ filter g xs
  passing_alike [] all = refl
  passing_alike (x ∷ xs) all =
      let both = and_parts (same (f x) (g x)) (list_all (λ x. same (f x) (g x)) xs) all in
      let head = same_is (f x) (g x) both.0 in
      let later = passing_alike xs both.1 in
      λ i. cond (head i) (x ∷ later i) (later i)
