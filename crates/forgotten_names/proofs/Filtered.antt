-- Lists from which what does not pass a test is left out, by two tests.
--     filter_alike      two tests that agree on each element
--     filter_swap       one test after the other
--     filter_weaker     what passes one passes the other
use Rattle.std.proofs.Common.{◌≡◌, Bool, true, false, cond, List, [], ◌∷◌, All, filter, refl, sym, ap, ◌∙◌}
use Rattle.std.proofs.lemmas.Bool.{false≢true}
use Rattle.std.proofs.lemmas.List.Elements.{All-head, All-tail}

module _ {A : Type 0} (f g : A → Bool) where
  pub filter_alike : (xs : List A) → All (λ x. f x ≡ g x) xs → filter f xs ≡ filter g xs
  filter_alike [] all = refl
  filter_alike (x ∷ xs) all =
      let head = All-head (λ x. f x ≡ g x) x xs all in
      let later = filter_alike xs (All-tail (λ x. f x ≡ g x) x xs all) in
      λ i. cond (head i) (x ∷ later i) (later i)

  pub filter_swap : (xs : List A) → filter f (filter g xs) ≡ filter g (filter f xs)
  filter_swap [] = refl
  filter_swap (x ∷ xs) =
      let later = filter_swap xs in
      elim (f x) as (λ a. f x ≡ a → filter f (cond (g x) (x ∷ filter g xs) (filter g xs)) ≡ filter g (cond a (x ∷ filter f xs) (filter f xs))) [
        | true ↦ λ passes. elim (g x) as (λ b. filter f (cond b (x ∷ filter g xs) (filter g xs)) ≡ cond b (x ∷ filter g (filter f xs)) (filter g (filter f xs))) [
          | true ↦ ap (λ a. cond a (x ∷ filter f (filter g xs)) (filter f (filter g xs))) passes ∙ ap (λ ys. x ∷ ys) later
          | false ↦ later
        ]
        | false ↦ λ fails. elim (g x) as (λ b. filter f (cond b (x ∷ filter g xs) (filter g xs)) ≡ filter g (filter f xs)) [
          | true ↦ ap (λ a. cond a (x ∷ filter f (filter g xs)) (filter f (filter g xs))) fails ∙ later
          | false ↦ later
        ]
      ] refl

  pub filter_weaker : (xs : List A) → All (λ x. f x ≡ true → g x ≡ true) xs → filter f (filter g xs) ≡ filter f xs
  filter_weaker [] all = refl
  filter_weaker (x ∷ xs) all =
      let head = All-head (λ x. f x ≡ true → g x ≡ true) x xs all in
      let later = filter_weaker xs (All-tail (λ x. f x ≡ true → g x ≡ true) x xs all) in
      elim (g x) as (λ b. g x ≡ b → filter f (cond b (x ∷ filter g xs) (filter g xs)) ≡ cond (f x) (x ∷ filter f xs) (filter f xs)) [
        | true ↦ λ _. ap (λ ys. cond (f x) (x ∷ ys) ys) later
        | false ↦ λ fails. elim (f x) as (λ a. f x ≡ a → filter f (filter g xs) ≡ cond a (x ∷ filter f xs) (filter f xs)) [
          | true ↦ λ passes. absurd (false≢true (sym fails ∙ head passes))
          | false ↦ λ _. later
        ] refl
      ] refl
