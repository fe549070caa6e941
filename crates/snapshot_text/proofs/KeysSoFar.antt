-- The keys of a finite map up to an index: no key stands twice, so the next one is not among them.
use Rattle.std.proofs.Common.{◌≡◌, ℕ, zero, suc, ◌<◌, Bool, true, false, List, [], ◌∷◌, length, map, filter, take, get_or, refl, ap, ◌∙◌, arith, T}
use Rattle.std.specs.Prelude.{◌||◌, if◌then◌else◌}
use Rattle.std.specs.declared.cmp.Ordering.{Ordering}
use Rattle.std.specs.declared.cmp.Ordering.TheVariants.{Less, Equal, Greater}
use Rattle.std.specs.List.{list_any}
use Rattle.std.specs.Ordering.{eq_by_cmp, is_eq, is_lt}
use Rattle.std.specs.Cmp.{IsTotalOrder, eq_by_cmp_equiv}
use Rattle.std.specs.FinMap as finite
use Rattle.std.specs.FinMap.{entries_sorted}
use Rattle.std.specs.FinMap.Entries.{is_sorted, below_all}
use Rattle.std.proofs.lemmas.Bool.{and_parts}

is_true : (b : Bool) → T b → b ≡ true
is_true true t = refl
is_true false t = absurd t

neither : (a b : Bool) → (a || b) ≡ false → (a ≡ false) × (b ≡ false)
neither true b e = absurd cc
neither false b e = (refl, e)

both_false : (a b : Bool) → a ≡ false → b ≡ false → (a || b) ≡ false
both_false a b e f = ap (λ x. x || b) e ∙ f

module _ {K : Type 0} (R : K → K → Ordering) where
  -- no two keys tie
  abbrev pub AreApart : List K → Type 0
  AreApart [] = Unit {0}
  AreApart (k ∷ ks) = (list_any (eq_by_cmp R k) ks ≡ false) × AreApart ks

  none_below : {X : Type 0} (k : K) (es : List (K × X)) → below_all R k es ≡ true → list_any (eq_by_cmp R k) (map (λ e. e.0) es) ≡ false
  none_below k [] below = refl
  none_below k (e ∷ es) below =
      let both = and_parts (is_lt (R k e.0)) (below_all R k es) below in
      both_false (eq_by_cmp R k e.0) (list_any (eq_by_cmp R k) (map (λ e. e.0) es)) (lower (R k e.0) both.0) (none_below k es both.1)
    where
      lower : (o : Ordering) → is_lt o ≡ true → is_eq o ≡ false
      lower Less e = refl
      lower Equal e = absurd cc
      lower Greater e = absurd cc

  sorted_apart : {X : Type 0} (es : List (K × X)) → is_sorted R es ≡ true → AreApart (map (λ e. e.0) es)
  sorted_apart [] sorted = tt
  sorted_apart (e ∷ es) sorted =
      let both = and_parts (below_all R e.0 es) (is_sorted R es) sorted in
      (none_below e.0 es both.0, sorted_apart es both.1)

  pub keys_apart : {X : Type 0} (m : finite.FinMap R X) → AreApart (finite.keys m)
  keys_apart m = sorted_apart (finite.entries m) (is_true (is_sorted R (finite.entries m)) (entries_sorted m))

  absent_filtered : (k : K) (p : K → Bool) (ks : List K) → list_any (eq_by_cmp R k) ks ≡ false → list_any (eq_by_cmp R k) (filter p ks) ≡ false
  absent_filtered k p [] absent = refl
  absent_filtered k p (x ∷ ks) absent =
      let parts = neither (eq_by_cmp R k x) (list_any (eq_by_cmp R k) ks) absent in
      let later = absent_filtered k p ks parts.1 in
      elim (p x) as (λ b. list_any (eq_by_cmp R k) (if b then x ∷ filter p ks else filter p ks) ≡ false) [
        | true ↦ both_false (eq_by_cmp R k x) (list_any (eq_by_cmp R k) (filter p ks)) parts.0 later
        | false ↦ later
      ]

  pub filtered_apart : (p : K → Bool) (ks : List K) → AreApart ks → AreApart (filter p ks)
  filtered_apart p [] apart = tt
  filtered_apart p (k ∷ ks) apart =
      elim (p k) as (λ b. AreApart (if b then k ∷ filter p ks else filter p ks)) [
        | true ↦ (absent_filtered k p ks apart.0, filtered_apart p ks apart.1)
        | false ↦ filtered_apart p ks apart.1
      ]

  absent_at : (k : K) (ks : List K) (n : ℕ) (d : K) → n < length ks → list_any (eq_by_cmp R k) ks ≡ false → eq_by_cmp R k (get_or ks n d) ≡ false
  absent_at k [] n d few absent = absurd (omega arith)
  absent_at k (x ∷ ks) zero d few absent = (neither (eq_by_cmp R k x) (list_any (eq_by_cmp R k) ks) absent).0
  absent_at k (x ∷ ks) (suc n) d few absent = absent_at k ks n d (omega arith) (neither (eq_by_cmp R k x) (list_any (eq_by_cmp R k) ks) absent).1

  -- the key at an index is none of those before
  pub next_is_new : IsTotalOrder R → (ks : List K) (n : ℕ) (d : K) → AreApart ks → n < length ks → list_any (eq_by_cmp R (get_or ks n d)) (take n ks) ≡ false
  next_is_new o [] n d apart few = absurd (omega arith)
  next_is_new o (k ∷ ks) zero d apart few = refl
  next_is_new o (k ∷ ks) (suc n) d apart few =
      both_false (eq_by_cmp R (get_or ks n d) k) (list_any (eq_by_cmp R (get_or ks n d)) (take n ks))
      ((eq_by_cmp_equiv o).symm (get_or ks n d) k ∙ absent_at k ks n d (omega arith) apart.0) (next_is_new o ks n d apart.1 (omega arith))

  -- and it is one of all
  pub at_index : IsTotalOrder R → (ks : List K) (n : ℕ) (d : K) → n < length ks → list_any (eq_by_cmp R (get_or ks n d)) ks ≡ true
  at_index o [] n d few = absurd (omega arith)
  at_index o (k ∷ ks) zero d few = ap (λ b. b || list_any (eq_by_cmp R k) ks) ((eq_by_cmp_equiv o).refl k)
  at_index o (k ∷ ks) (suc n) d few = or_true (eq_by_cmp R (get_or ks n d) k) _ (at_index o ks n d (omega arith))
    where
      or_true : (a b : Bool) → b ≡ true → (a || b) ≡ true
      or_true true b e = refl
      or_true false b e = e
