-- A list of names that is sorted on demand is the list of the names of a finite map, in its order.
--     sorted_is      a sorted list with the same names
--     kept_rise, kept_among      the names of the entries that pass a test: they rise, and which they are
--     keys_rise      all names
use Rattle.std.proofs.Common.{◌≡◌, ◌+◌, ◌<◌, ◌≤◌, drop, get_or, ℕ, Bool, true, false, cond, ◌||◌, nat_eq, List, [], ◌∷◌, map, length, Some, bytes_eq, refl, sym, ap, subst, ◌∙◌, IsPermutation, IsSorted, filter, T, Bor, arith}
use Rattle.std.proofs.lemmas.Bool.{false≢true, or_right}
use Rattle.std.proofs.lemmas.Bool.Decides.{Decides-eqb}
use Rattle.std.proofs.lemmas.List.{length-map, get_or-map, drop_more, drop_all}
use Rattle.std.specs.declared.cmp.Ordering.{Ordering}
use Rattle.std.specs.declared.cmp.Ordering.TheVariants.{Less, Equal, Greater}
use Rattle.std.specs.Ordering.{is_lt, is_eq, eq_by_cmp}
use Rattle.std.specs.Cmp.{eq_by_cmp_equiv}
use Rattle.std.specs.Cmp.Lexicographic.{texts_ties}
use Rattle.std.specs.Option.{option_map_or}
use Rattle.std.specs.List.{IsDistinct, AllByRecursion, dedup, dedup_from, list_any}
use Rattle.std.specs.List.Sorted.{IsStrictlySortedBy}
use Rattle.std.specs.FinMap as finite
use Rattle.std.specs.FinMap.{is_sorted, contains_key-keys}
use Rattle.std.specs.FinMap.Entries.{find, below_all}
use Rattle.std.proofs.lemmas.List.Kept.{IsStrictlySortedBy-dedup}
use Rattle.std.proofs.lemmas.List.Sorted.{list_any-IsPermutation, IsPermutation-map}
use Rattle.std.proofs.lemmas.Map.Keys.{IsDistinct-IsPermutation}
use Rattle.std.proofs.lemmas.Map.Lookups.{btree_set_from_contains}
use Rattle.package_table.specs.Table.{Name, name_cmp}
use Rattle.package_table.proofs.Counting.{first_of_both, second_of_both}
use Rattle.package_table.proofs.Names.{name_total, name_exact, tied_same}

-- ---- a sorted list
same_dedup_from : (k : Name) (ks : List Name) → IsDistinct (eq_by_cmp name_cmp) (k ∷ ks) → dedup_from (eq_by_cmp name_cmp) k ks ≡ k ∷ ks
unfolding IsDistinct
same_dedup_from k [] d = refl
same_dedup_from k (x ∷ xs) d =
    ap (λ b. cond b (dedup_from (eq_by_cmp name_cmp) k xs) (k ∷ dedup_from (eq_by_cmp name_cmp) x xs)) ((eq_by_cmp_equiv name_total).symm x k ∙ d.0.0)
    ∙ ap (λ l. k ∷ l) (same_dedup_from x xs d.1)

same_dedup : (ks : List Name) → IsDistinct (eq_by_cmp name_cmp) ks → dedup (eq_by_cmp name_cmp) ks ≡ ks
same_dedup [] d = refl
same_dedup (k ∷ ks) d = same_dedup_from k ks d

by_ties : (ns : List Name) → IsDistinct bytes_eq ns → IsDistinct (eq_by_cmp name_cmp) ns
by_ties ns distinct = subst (λ (e : Name → Name → Bool). IsDistinct e ns) (λ i. λ x y. texts_ties x y i) distinct

pub any_ties : (q : Name) (ns : List Name) → list_any (eq_by_cmp name_cmp q) ns ≡ list_any (bytes_eq q) ns
any_ties q ns = λ i. list_any (λ n. sym (texts_ties q n) i) ns

pub sorted_is : (collected result want : List Name) → IsDistinct bytes_eq collected → IsPermutation collected result → IsSorted name_cmp result → IsStrictlySortedBy name_cmp want
    → ((q : Name) → list_any (bytes_eq q) collected ≡ list_any (bytes_eq q) want) → result ≡ want
sorted_is collected result want distinct moved sorted rises same =
    let apart = IsDistinct-IsPermutation (eq_by_cmp name_cmp) (eq_by_cmp_equiv name_total).symm collected result moved (by_ties collected distinct) in
    let strict : IsStrictlySortedBy name_cmp result = subst (IsStrictlySortedBy name_cmp) (same_dedup result apart) (IsStrictlySortedBy-dedup name_total (λ x y. refl) result sorted) in
    btree_set_from_contains name_total (record { keys = result }) (record { keys = want }) strict rises
    (λ q. sym (list_any-IsPermutation (eq_by_cmp name_cmp q) collected result moved) ∙ any_ties q collected ∙ same q ∙ sym (any_ties q want)) name_exact

-- ---- the names of a finite map
is_less : (r : Ordering) → T (is_lt r) → r ≡ Less
is_less Less h = refl
is_less Equal h = absurd h
is_less Greater h = absurd h

module _ {X : Type 0} (test : Name × X → Bool) where
  abbrev kept : List (Name × X) → List Name
  kept es = map (λ e. e.0) (filter test es)

  below_kept : (x : Name) (es : List (Name × X)) → T (below_all name_cmp x es) → AllByRecursion (λ y. name_cmp x y ≡ Less) (map (λ e. e.0) (filter test es))
  below_kept x [] h = tt
  below_kept x (e ∷ es) h =
      let rest = below_kept x es (second_of_both _ _ h) in
      elim (test e) as (λ b. AllByRecursion (λ y. name_cmp x y ≡ Less) (map (λ e. e.0) (cond b (e ∷ filter test es) (filter test es)))) [
        | true ↦ (is_less (name_cmp x e.0) (first_of_both _ _ h), rest)
        | false ↦ rest
      ]

  rise : (es : List (Name × X)) → T (is_sorted name_cmp es) → IsStrictlySortedBy name_cmp (map (λ e. e.0) (filter test es))
  unfolding IsStrictlySortedBy
  rise [] h = tt
  rise (e ∷ es) h =
      let rest = rise es (second_of_both _ _ h) in
      elim (test e) as (λ b. IsStrictlySortedBy name_cmp (map (λ e. e.0) (cond b (e ∷ filter test es) (filter test es)))) [
        | true ↦ (below_kept e.0 es (first_of_both _ _ h), rest)
        | false ↦ rest
      ]

  none_below : (x : Name) (es : List (Name × X)) → T (below_all name_cmp x es) → list_any (bytes_eq x) (map (λ e. e.0) (filter test es)) ≡ false
  none_below x [] h = refl
  none_below x (e ∷ es) h =
      let rest = none_below x es (second_of_both _ _ h) in
      elim (test e) as (λ b. list_any (bytes_eq x) (map (λ e. e.0) (cond b (e ∷ filter test es) (filter test es))) ≡ false) [
        | true ↦ ap (λ b. b || list_any (bytes_eq x) (map (λ e. e.0) (filter test es))) (texts_ties x e.0 ∙ ap is_eq (is_less (name_cmp x e.0) (first_of_both _ _ h))) ∙ rest
        | false ↦ rest
      ]

  among : (q : Name) (es : List (Name × X)) → T (is_sorted name_cmp es) → list_any (bytes_eq q) (map (λ e. e.0) (filter test es)) ≡ option_map_or (λ x. test (q, x)) (find name_cmp q es) false
  among q [] h = refl
  among q (e ∷ es) h =
      elim (bytes_eq q e.0) as (λ b. bytes_eq q e.0 ≡ b → list_any (bytes_eq q) (map (λ e. e.0) (cond (test e) (e ∷ filter test es) (filter test es))) ≡ option_map_or (λ x. test (q, x)) (cond b (Some e.1) (find name_cmp q es)) false) [
        | true ↦ λ same.
            let one : q ≡ e.0 = tied_same q e.0 (sym (texts_ties q e.0) ∙ same) in
            here same (subst (λ (n : Name). list_any (bytes_eq n) (map (λ e. e.0) (filter test es)) ≡ false) (sym one) (none_below e.0 es (first_of_both _ _ h))) (test e)
            ∙ ap (λ (n : Name). test (n, e.1)) (sym one)
        | false ↦ λ differs. skipped differs (test e) ∙ among q es (second_of_both _ _ h)
      ] refl
      ∙ ap (λ b. option_map_or (λ x. test (q, x)) (cond b (Some e.1) (find name_cmp q es)) false) (texts_ties q e.0)
    where
      here : bytes_eq q e.0 ≡ true → list_any (bytes_eq q) (map (λ e. e.0) (filter test es)) ≡ false → (b : Bool) → list_any (bytes_eq q) (map (λ e. e.0) (cond b (e ∷ filter test es) (filter test es))) ≡ b
      here same none true = ap (λ b. b || list_any (bytes_eq q) (map (λ e. e.0) (filter test es))) same
      here same none false = none

      skipped : bytes_eq q e.0 ≡ false → (b : Bool) → list_any (bytes_eq q) (map (λ e. e.0) (cond b (e ∷ filter test es) (filter test es))) ≡ list_any (bytes_eq q) (map (λ e. e.0) (filter test es))
      skipped differs true = ap (λ b. b || list_any (bytes_eq q) (map (λ e. e.0) (filter test es))) differs
      skipped differs false = refl

  module _ (m : finite.FinMap name_cmp X) where
    pub kept_rise : IsStrictlySortedBy name_cmp (map (λ e. e.0) (filter test (finite.entries m)))
    kept_rise = rise (finite.entries m) (finite.entries_sorted m)

    pub kept_among : (q : Name) → list_any (bytes_eq q) (map (λ e. e.0) (filter test (finite.entries m))) ≡ option_map_or (λ x. test (q, x)) (finite.get m q) false
    kept_among q = among q (finite.entries m) (finite.entries_sorted m) ∙ ap (λ o. option_map_or (λ x. test (q, x)) o false) (sym (finite.get-entries m q))

all_kept : {X : Type 0} (es : List (Name × X)) → filter (λ _. true) es ≡ es
all_kept [] = refl
all_kept (e ∷ es) = ap (λ l. e ∷ l) (all_kept es)

pub keys_rise : {X : Type 0} (m : finite.FinMap name_cmp X) → IsStrictlySortedBy name_cmp (finite.keys m)
keys_rise {X = X} m = subst (λ (es : List (Name × X)). IsStrictlySortedBy name_cmp (map (λ e. e.0) es)) (all_kept (finite.entries m)) (kept_rise (λ (_ : Name × X). true) m)

pub keys_among : {X : Type 0} (m : finite.FinMap name_cmp X) (q : Name) → list_any (bytes_eq q) (finite.keys m) ≡ finite.contains_key m q
keys_among m q = sym (contains_key-keys m q ∙ any_ties q (finite.keys m))

-- ---- what is read of each of some numbers
pub any_in : (test : ℕ → Bool) (xs : List ℕ) → list_any test xs ≡ true → (x : ℕ) × (list_any (nat_eq x) xs ≡ true) × (test x ≡ true)
any_in test [] none = absurd (false≢true none)
any_in test (x ∷ xs) some =
    elim (test x) as (λ b. test x ≡ b → (b || list_any test xs) ≡ true → (y : ℕ) × (list_any (nat_eq y) (x ∷ xs) ≡ true) × (test y ≡ true)) [
      | true ↦ λ passes _. (x, ap (λ b. b || list_any (nat_eq x) xs) ((Decides-eqb x x).1 refl), passes)
      | false ↦ λ _ later. let rest = any_in test xs later in (rest.0, or_right (nat_eq rest.0 x) (list_any (nat_eq rest.0) xs) rest.1, rest.2)
    ] refl some

pub any_of : (test : ℕ → Bool) (xs : List ℕ) (x : ℕ) → list_any (nat_eq x) xs ≡ true → test x ≡ true → list_any test xs ≡ true
any_of test [] x none passes = absurd (false≢true none)
any_of test (y ∷ ys) x among passes =
    elim (nat_eq x y) as (λ b. nat_eq x y ≡ b → (b || list_any (nat_eq x) ys) ≡ true → (test y || list_any test ys) ≡ true) [
      | true ↦ λ is _. ap (λ b. b || list_any test ys) (ap test (sym ((Decides-eqb x y).0 is)) ∙ passes)
      | false ↦ λ _ later. or_right (test y) (list_any test ys) (any_of test ys x later passes)
    ] refl among

pub any_mapped : (q : Name) (f : ℕ → Name) (xs : List ℕ) → list_any (bytes_eq q) (map f xs) ≡ list_any (λ x. bytes_eq q (f x)) xs
any_mapped q f [] = refl
any_mapped q f (x ∷ xs) = ap (λ b. bytes_eq q (f x) || b) (any_mapped q f xs)

module _ (P : ℕ → Type 0) (f : ℕ → Name) (injective : (x y : ℕ) → P x → P y → bytes_eq (f x) (f y) ≡ true → x ≡ y) where
  apart_mapped : (x : ℕ) → P x → (ys : List ℕ) → AllByRecursion (λ y. nat_eq x y ≡ false) ys → AllByRecursion P ys → AllByRecursion (λ n. bytes_eq (f x) n ≡ false) (map f ys)
  apart_mapped x here [] differ inside = tt
  apart_mapped x here (y ∷ ys) differ inside = (differs, apart_mapped x here ys differ.1 inside.1)
    where
      differs : bytes_eq (f x) (f y) ≡ false
      differs =
          elim (bytes_eq (f x) (f y)) as (λ b. bytes_eq (f x) (f y) ≡ b → b ≡ false) [
            | true ↦ λ same. absurd (false≢true (sym differ.0 ∙ (Decides-eqb x y).1 (injective x y here inside.0 same)))
            | false ↦ λ _. refl
          ] refl

  pub distinct_mapped : (xs : List ℕ) → IsDistinct nat_eq xs → AllByRecursion P xs → IsDistinct bytes_eq (map f xs)
  unfolding IsDistinct
  distinct_mapped [] distinct all = tt
  distinct_mapped (x ∷ xs) distinct all = (apart_mapped x all.0 xs distinct.0 all.1, distinct_mapped xs distinct.1 all.1)

-- a test of what is left of a list
module _ (test : ℕ → Bool) (xs : List ℕ) (i : ℕ) where
  any_step : i < length xs → list_any test (drop i xs) ≡ (test (get_or xs i 0) || list_any test (drop (i + 1) xs))
  any_step less = ap (list_any test) (drop_more xs i 0 less)

  pub any_hit : i < length xs → test (get_or xs i 0) ≡ true → list_any test (drop i xs) ≡ true
  any_hit less passes = any_step less ∙ ap (λ b. b || list_any test (drop (i + 1) xs)) passes

  pub any_missed : i < length xs → test (get_or xs i 0) ≡ false → list_any test (drop (i + 1) xs) ≡ list_any test (drop i xs)
  any_missed less fails = sym (any_step less ∙ ap (λ b. b || list_any test (drop (i + 1) xs)) fails)

  pub any_end : length xs ≤ i → list_any test (drop i xs) ≡ false
  any_end past = ap (list_any test) (drop_all i xs past)

-- names that are sorted where they are kept
sorted_read : (xs : List (Bor Name)) → IsSorted (λ x y. name_cmp x.now y.now) xs → IsSorted name_cmp (map (λ n. n.now) xs)
sorted_read [] sorted k d low high = absurd (omega (arith, high))
sorted_read (x ∷ xs) sorted k d low high =
    let size = length-map (x ∷ xs) (λ (n : Bor Name). n.now) in
    let next : k + 1 < length (x ∷ xs) = omega (arith, high, size) in
    let here : k < length (x ∷ xs) = omega (arith, next) in
    (λ i. is_lt (name_cmp (get_or-map (λ (n : Bor Name). n.now) (x ∷ xs) (k + 1) x d next i) (get_or-map (λ (n : Bor Name). n.now) (x ∷ xs) k x d here i))) ∙ sorted k x low next

pub sorted_names : (xs ys : List (Bor Name)) (collected : List Name) → map (λ n. n.now) xs ≡ collected → IsPermutation xs ys → IsSorted (λ x y. name_cmp x.now y.now) ys
    → IsPermutation collected (map (λ n. n.now) ys) × IsSorted name_cmp (map (λ n. n.now) ys)
sorted_names xs ys collected is moved sorted =
    (subst (λ (ns : List Name). IsPermutation ns (map (λ n. n.now) ys)) is (IsPermutation-map (λ (n : Bor Name). n.now) xs ys moved), sorted_read ys sorted)
