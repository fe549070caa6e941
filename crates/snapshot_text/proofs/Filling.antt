-- A list that is made from another one, place by place: the indices that differ are set, in order.
use Rattle.std.proofs.Common.{◌≡◌, ℕ, inl, inr, zero, suc, ◌+◌, ◌≤◌, ◌<◌, List, [], ◌∷◌, length, drop, get_or, set, Option, Some, None, refl, sym, ap, ◌∙◌, arith, add-one, drop-cons, length-set, get_or-set_same, get_or-set_other}
use Rattle.std.specs.List.{range_with_len}
use Rattle.std.specs.Option.{option_map_or}
use Rattle.std.proofs.lemmas.Bool.Decides.{eqb_tells}
use Rattle.std.proofs.lemmas.List.{ext_get_or}

module _ {X : Type 0} where
  -- the indices that differ, and what they are to have
  abbrev pub updates : (ℕ → Option X) → List ℕ → List (ℕ × X)
  updates f [] = []
  updates f (i ∷ is) = option_map_or (λ x. (i, x) ∷ updates f is) (f i) (updates f is)

  abbrev pub put_all : List X → List (ℕ × X) → List X
  put_all xs [] = xs
  put_all xs (u ∷ us) = put_all (set xs u.0 u.1) us

  pub update_at : (f : ℕ → Option X) (is : List ℕ) (k : ℕ) (d : ℕ × X) → k < length (updates f is) → f (get_or (updates f is) k d).0 ≡ Some (get_or (updates f is) k d).1
  update_at f [] k d few = absurd (omega arith)
  update_at f (i ∷ is) k d few =
      elim (f i) as (λ o. f i ≡ o → k < length (option_map_or (λ x. (i, x) ∷ updates f is) o (updates f is))
      → f (get_or (option_map_or (λ x. (i, x) ∷ updates f is) o (updates f is)) k d).0 ≡ Some (get_or (option_map_or (λ x. (i, x) ∷ updates f is) o (updates f is)) k d).1) [
        | None ↦ λ e few. update_at f is k d few
        | Some x ↦ λ e few. at_some f i is x e (λ k few. update_at f is k d few) k few
      ] refl few
    where
      at_some : (f : ℕ → Option X) (i : ℕ) (is : List ℕ) (x : X) → f i ≡ Some x
          → ((k : ℕ) → k < length (updates f is) → f (get_or (updates f is) k d).0 ≡ Some (get_or (updates f is) k d).1)
          → (k : ℕ) → k < length ((i, x) ∷ updates f is)
          → f (get_or ((i, x) ∷ updates f is) k d).0 ≡ Some (get_or ((i, x) ∷ updates f is) k d).1
      at_some f i is x e later zero few = e
      at_some f i is x e later (suc k) few = later k (omega arith)

  pub update_below : (f : ℕ → Option X) (a n k : ℕ) (d : ℕ × X) → k < length (updates f (range_with_len a n)) → (get_or (updates f (range_with_len a n)) k d).0 < a + n
  update_below f a zero k d few = absurd (omega arith)
  update_below f a (suc n) k d few =
      let is = range_with_len (a + 1) n in
      elim (f a) as (λ o. k < length (option_map_or (λ x. (a, x) ∷ updates f is) o (updates f is)) → (get_or (option_map_or (λ x. (a, x) ∷ updates f is) o (updates f is)) k d).0 < a + suc n) [
        | None ↦ λ few. (let later = update_below f (a + 1) n k d few in omega arith)
        | Some x ↦ λ few. at_some f a n x (λ k few. update_below f (a + 1) n k d few) k few
      ] few
    where
      at_some : (f : ℕ → Option X) (a n : ℕ) (x : X)
          → ((k : ℕ) → k < length (updates f (range_with_len (a + 1) n)) → (get_or (updates f (range_with_len (a + 1) n)) k d).0 < (a + 1) + n)
          → (k : ℕ) → k < length ((a, x) ∷ updates f (range_with_len (a + 1) n))
          → (get_or ((a, x) ∷ updates f (range_with_len (a + 1) n)) k d).0 < a + suc n
      at_some f a n x later zero few = omega arith
      at_some f a n x later (suc k) few = let below = later k (omega arith) in omega arith

  -- all that differs is set: the list is the one that was to be made
  pub filled : (f : ℕ → Option X) (d : X) (target base : List X) (a n : ℕ) → length base ≡ a + n → length target ≡ a + n
      → ((q : ℕ) → q < a → get_or base q d ≡ get_or target q d) → ((q : ℕ) → a ≤ q → f q ≡ None → get_or base q d ≡ get_or target q d)
      → ((q : ℕ) (x : X) → f q ≡ Some x → x ≡ get_or target q d) → put_all base (updates f (range_with_len a n)) ≡ target
  filled f d target base a zero many of below above some = ext_get_or d base target (omega arith) (λ i small. below i (omega arith))
  filled f d target base a (suc n) many of below above some =
      let is = range_with_len (a + 1) n in
      elim (f a) as (λ o. f a ≡ o → put_all base (option_map_or (λ x. (a, x) ∷ updates f is) o (updates f is)) ≡ target) [
        | None ↦ λ e. filled f d target base (a + 1) n (omega arith) (omega arith)
            (λ q small. elim (eqb_tells q a) [
              | inl same ↦ above q (omega arith) (ap f same.1 ∙ e)
              | inr other ↦ below q (let apart = other.1 in omega arith)
            ])
            (λ q past none. above q (omega arith) none) some
        | Some x ↦ λ e. filled f d target (set base a x) (a + 1) n (length-set base a x ∙ omega arith) (omega arith)
            (λ q small. elim (eqb_tells q a) [
              | inl same ↦ ap (λ k. get_or (set base a x) k d) same.1 ∙ get_or-set_same base a x d (omega arith) ∙ some a x e ∙ ap (λ k. get_or target k d) (sym same.1)
              | inr other ↦ get_or-set_other base a q x d other.1 ∙ below q (let apart = other.1 in omega arith)
            ])
            (λ q past none. get_or-set_other base a q x d (omega arith) ∙ above q (omega arith) none) some
      ] refl

  -- what is left after one more is set
  pub put_next : (xs : List X) (us : List (ℕ × X)) (k : ℕ) (d : ℕ × X) → k < length us → put_all (set xs (get_or us k d).0 (get_or us k d).1) (drop (k + 1) us) ≡ put_all xs (drop k us)
  put_next xs us k d few = ap (λ n. put_all xs (get_or us k d ∷ drop n us)) (add-one k) ∙ ap (put_all xs) (sym (drop-cons us k d few))
