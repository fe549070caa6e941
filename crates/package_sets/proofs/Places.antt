-- Places in lists: the first that passes a test, in a list that is read, and in one that grows.
--     position-map, distinct-map      of what is read of each thing of a list
--     none_any, any_none, any_some      that nothing passes, or something does, by the place and by the test
--     all_at, all_push, all_weaker      what holds of each thing of a list
--     copied      copies of vectors
use Rattle.std.proofs.Common.{◌≡◌, ◌+◌, ◌<◌, ◌≤◌, ℕ, zero, suc, Bool, true, false, cond, not, ◌||◌, nat_lt, List, [], ◌∷◌, ◌++◌, map, length, get_or, position, None, Some, is_some, refl, sym, ap, ◌∙◌, true≢false, arith}
use Rattle.std.specs.Global.{Vec}
use Rattle.std.specs.Vec.{vec_len}
use Rattle.std.specs.List.{position_or_len, list_any, IsDistinct, AllByRecursion, AllZip, each_same}
use Rattle.std.proofs.lemmas.List.{length-map}
use Rattle.std.proofs.lemmas.List.Sums.{position_or_len_is}

module _ {X Y : Type 0} (f : X → Y) where
  pub position_or_len-map : (p : Y → Bool) (xs : List X) → position_or_len p (map f xs) ≡ position_or_len (λ x. p (f x)) xs
  position_or_len-map p [] = refl
  position_or_len-map p (x ∷ xs) = ap (λ n. cond (not (p (f x))) (1 + n) 0) (position_or_len-map p xs)

  pub position-map : (p : Y → Bool) (xs : List X) → position p (map f xs) ≡ position (λ x. p (f x)) xs
  position-map p xs = λ i. cond (nat_lt (position_or_len-map p xs i) (length-map xs f i)) (Some (position_or_len-map p xs i)) None

  pub any-map : (p : Y → Bool) (xs : List X) → list_any p (map f xs) ≡ list_any (λ x. p (f x)) xs
  any-map p [] = refl
  any-map p (x ∷ xs) = ap (λ b. p (f x) || b) (any-map p xs)

  pub copied_by : (xs ys : List X) → AllZip (λ x y. f y ≡ f x) xs ys → map f ys ≡ map f xs
  copied_by [] [] all = refl
  copied_by [] (y ∷ ys) all = absurd all
  copied_by (x ∷ xs) [] all = absurd all
  copied_by (x ∷ xs) (y ∷ ys) all = λ i. all.0 i ∷ copied_by xs ys all.1 i

  apart-map : (e : Y → Y → Bool) (x : X) (xs : List X) → AllByRecursion (λ y. e (f x) (f y) ≡ false) xs → AllByRecursion (λ y. e (f x) y ≡ false) (map f xs)
  apart-map e x [] h = h
  apart-map e x (y ∷ ys) h = (h.0, apart-map e x ys h.1)

  pub distinct-map : (e : Y → Y → Bool) (xs : List X) → IsDistinct (λ x y. e (f x) (f y)) xs → IsDistinct e (map f xs)
  unfolding IsDistinct
  distinct-map e [] h = h
  distinct-map e (x ∷ xs) h = (apart-map e x xs h.0, distinct-map e xs h.1)

module _ {X : Type 0} (p : X → Bool) where
  -- where none passes, the place is the length
  pub none_within : (xs : List X) → position p xs ≡ None → length xs ≤ position_or_len p xs
  none_within xs none =
      by (nat_lt (position_or_len p xs) (length xs)) refl
    where
      by : (b : Bool) → nat_lt (position_or_len p xs) (length xs) ≡ b → length xs ≤ position_or_len p xs
      by true e = absurd (true≢false (sym (ap (λ c. is_some (cond c (Some (position_or_len p xs)) None)) e) ∙ ap is_some none))
      by false e = grind arith

  any_within : (xs : List X) → length xs ≤ position_or_len p xs → list_any p xs ≡ false
  any_within [] h = refl
  any_within (x ∷ xs) h =
      elim (p x) as (λ b. 1 + length xs ≤ cond (not b) (1 + position_or_len p xs) 0 → (b || list_any p xs) ≡ false) [
        | true ↦ λ h. absurd (omega (arith, h))
        | false ↦ λ h. any_within xs (omega (arith, h))
      ] (omega (arith, h))

  -- the place of the first that passes
  pub position_is : (xs : List X) (i : ℕ) (d : X) → i < length xs → ((k : ℕ) → k < i → p (get_or xs k d) ≡ false) → p (get_or xs i d) ≡ true → position p xs ≡ Some i
  position_is xs i d within before here =
      let place = position_or_len_is p xs i d (omega (arith, within)) before (λ _. here) in
      let so : nat_lt (position_or_len p xs) (length xs) ≡ true = grind arith in
      ap (λ b. cond b (Some (position_or_len p xs)) None) so ∙ ap Some place

  pub none_any : (xs : List X) → position p xs ≡ None → list_any p xs ≡ false
  none_any xs none = any_within xs (none_within xs none)

  -- where none passes, the first that does would be past the end
  pub none_is_length : (xs : List X) → list_any p xs ≡ false → position_or_len p xs ≡ length xs
  none_is_length [] h = refl
  none_is_length (x ∷ xs) h =
      elim (p x) as (λ b. (b || list_any p xs) ≡ false → cond (not b) (1 + position_or_len p xs) 0 ≡ suc (length xs)) [
        | true ↦ λ h. absurd (true≢false h)
        | false ↦ λ h. (let past = none_is_length xs h in omega (arith, past))
      ] h

  pub any_none : (xs : List X) → list_any p xs ≡ false → position p xs ≡ None
  any_none xs h =
      let past : position_or_len p xs ≡ length xs = none_is_length xs h in
      let so : nat_lt (position_or_len p xs) (length xs) ≡ false = grind arith in
      ap (λ b. cond b (Some (position_or_len p xs)) None) so

  -- where one passes, it is within, and that is its place
  pub any_is_within : (xs : List X) → list_any p xs ≡ true → position_or_len p xs < length xs
  any_is_within [] h = absurd (true≢false (sym h))
  any_is_within (x ∷ xs) h =
      elim (p x) as (λ b. (b || list_any p xs) ≡ true → cond (not b) (1 + position_or_len p xs) 0 < suc (length xs)) [
        | true ↦ λ h. omega arith
        | false ↦ λ h. (let less = any_is_within xs h in omega (arith, less))
      ] h

  pub any_some : (xs : List X) → list_any p xs ≡ true → position p xs ≡ Some (position_or_len p xs)
  any_some xs h =
      let less : position_or_len p xs < length xs = any_is_within xs h in
      let so : nat_lt (position_or_len p xs) (length xs) ≡ true = grind arith in
      ap (λ b. cond b (Some (position_or_len p xs)) None) so

module _ {X : Type 0} (P : X → Type 0) where
  pub all_at : (xs : List X) → AllByRecursion P xs → (i : ℕ) (d : X) → i < length xs → P (get_or xs i d)
  all_at [] all i d within = absurd (omega (arith, within))
  all_at (x ∷ xs) all zero d within = all.0
  all_at (x ∷ xs) all (suc i) d within = all_at xs all.1 i d (omega (arith, within))

  pub all_push : (xs : List X) (y : X) → AllByRecursion P xs → P y → AllByRecursion P (xs ++ y ∷ [])
  all_push [] y all one = (one, tt)
  all_push (x ∷ xs) y all one = (all.0, all_push xs y all.1 one)

  pub all_weaker : (Q : X → Type 0) → ((x : X) → P x → Q x) → (xs : List X) → AllByRecursion P xs → AllByRecursion Q xs
  all_weaker Q so [] all = tt
  all_weaker Q so (x ∷ xs) all = (so x all.0, all_weaker Q so xs all.1)

-- copies of vectors have the same items
pub copied : (vs ws : List (Vec ℕ)) → AllZip (λ v w. AllZip (λ x y. y ≡ x) v.items w.items × (vec_len w ≡ vec_len v)) vs ws → map (λ (v : Vec ℕ). v.items) ws ≡ map (λ (v : Vec ℕ). v.items) vs
copied [] [] all = refl
copied [] (w ∷ ws) all = absurd all
copied (v ∷ vs) [] all = absurd all
copied (v ∷ vs) (w ∷ ws) all = λ i. each_same v.items w.items all.0.0 i ∷ copied vs ws all.1 i
