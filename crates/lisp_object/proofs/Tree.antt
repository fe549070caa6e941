-- A `BTreeMap` read as a finite map: f reads its keys and g its values, and its keys are in the order R of what f reads.
-- A query q is what is read of a key, so that a call may take a key that is only borrowed, as a slice for a `Vec`.
--     read, as_map      its entries, and the finite map, as read
--     find_at, got_at      what `get` gives; find_read, of a whole key
--     read-insert_entry, find_read-insert, as_map-insert      what `insert` leaves, from its clause `entries`
--     find_remove_at, as_map-remove_at      what `remove` leaves, from its clause `entries`, where the keys were in order (clause `ordered` of `len`)
--     find_set_at, as_map-set_at      what a write through `get_mut` leaves
--     insert_same      what is there, put again
use Rattle.std.proofs.Common.{◌≡◌, Bool, true, false, cond, Option, None, Some, List, [], ◌∷◌, map, refl, sym, ap, ◌∙◌}
use Rattle.std.specs.declared.cmp.Ordering.{Ordering}
use Rattle.std.specs.declared.cmp.Ordering.TheVariants.{Less, Equal, Greater}
use Rattle.std.specs.Ordering.{is_eq, eq_by_cmp, match_ordering}
use Rattle.std.specs.Option.{option_map, IsSome}
use Rattle.std.specs.List.{AllByRecursion}
use Rattle.std.specs.List.Sorted.{IsStrictlySortedBy}
use Rattle.std.proofs.lemmas.Bool.{false≢true}
use Rattle.std.specs.Map.{lookup, keys_of, remove_entry, set_value}
use Rattle.std.specs.BTreeMap.{is_at, insert_entry}
use Rattle.std.specs.Cmp.{IsTotalOrder, Equal-is, alike_right}
use Rattle.std.specs.FinMap as finite
use Rattle.std.specs.FinMap.{FinMap, IsAntisymmetric, find, put, get-from_entries, get-insert, get-remove, get_tied, same_map}
use Rattle.std.specs.FinMap.Entries.{find-put, by_order}

is_equal : (r : Ordering) → is_eq r ≡ true → r ≡ Equal
is_equal r = (Equal-is r).0

no_value : {Y : Type 0} (b : Bool) → ◌≡◌ {A = Option Y} None (cond b None None)
no_value true = refl
no_value false = refl

module _ {A X K V : Type 0} (f : A → K) (g : X → V) (R : K → K → Ordering) where
  abbrev pub read : List (A × X) → List (K × V)
  read es = map (λ e. (f e.0, g e.1)) es

  abbrev pub as_map : List (A × X) → FinMap R V
  as_map es = finite.from_entries (read es)

  -- the order of the keys
  abbrev pub by_read : A → A → Ordering
  by_read a b = R (f a) (f b)

  -- the keys that a query finds
  abbrev pub at : K → A → Bool
  at q = is_at (λ a. R q (f a))

  -- a look-up among the entries is one among what is read
  pub find_at : (q : K) (es : List (A × X)) → find R q (read es) ≡ option_map g (lookup (at q) es)
  find_at q [] = refl
  find_at q (e ∷ es) =
      elim (is_eq (R q (f e.0))) as (λ b. cond b (Some (g e.1)) (find R q (read es)) ≡ option_map g (cond b (Some e.1) (lookup (at q) es))) [
        | true ↦ refl
        | false ↦ find_at q es
      ]

  pub find_read : (q : A) (es : List (A × X)) → find R (f q) (read es) ≡ option_map g (lookup (is_at (by_read q)) es)
  find_read q = find_at (f q)

  -- to insert an entry is to put what is read of it
  pub read-insert_entry : (k : A) (v : X) (es : List (A × X)) → read (insert_entry by_read es k v) ≡ put R (f k) (g v) (read es)
  read-insert_entry k v [] = refl
  read-insert_entry k v (e ∷ es) =
      elim (R (f k) (f e.0)) as (λ o. read (match_ordering o ((k, v) ∷ e ∷ es) ((e.0, v) ∷ es) (e ∷ insert_entry by_read es k v)) ≡ by_order o ((f k, g v) ∷ (f e.0, g e.1) ∷ read es) ((f e.0, g v) ∷ read es) ((f e.0, g e.1) ∷ put R (f k) (g v) (read es))) [
        | Less ↦ refl
        | Equal ↦ refl
        | Greater ↦ ap (λ xs. (f e.0, g e.1) ∷ xs) (read-insert_entry k v es)
      ]

  module _ (o : IsTotalOrder R) where
    pub got_at : (q : K) (es : List (A × X)) → finite.get (as_map es) q ≡ option_map g (lookup (at q) es)
    got_at q es = get-from_entries o (read es) q ∙ find_at q es

    pub find_read-insert : (k : A) (v : X) (es : List (A × X)) (q : K) → find R q (read (insert_entry by_read es k v)) ≡ cond (eq_by_cmp R q (f k)) (Some (g v)) (find R q (read es))
    find_read-insert k v es q = ap (find R q) (read-insert_entry k v es) ∙ find-put R o q (f k) (g v) (read es)

    pub as_map-insert : IsAntisymmetric R → (k : A) (v : X) (es : List (A × X)) → as_map (insert_entry by_read es k v) ≡ finite.insert (as_map es) (f k) (g v)
    as_map-insert exact k v es = same_map o exact _ _ (λ q.
        get-from_entries o (read (insert_entry by_read es k v)) q ∙ find_read-insert k v es q
        ∙ sym (get-insert o (as_map es) (f k) (g v) q ∙ ap (cond (eq_by_cmp R q (f k)) (Some (g v))) (get-from_entries o (read es) q)))

    -- keys that are in order: none after the first that ties with it does
    find_past : (q : K) (e : A × X) (es : List (A × X)) → eq_by_cmp R q (f e.0) ≡ true → AllByRecursion (λ y. by_read e.0 y ≡ Less) (keys_of es) → find R q (read es) ≡ None
    find_past q e [] t below = refl
    find_past q e (x ∷ es) t below =
        let other : R q (f x.0) ≡ Less = o.congr q (f e.0) (f x.0) (is_equal (R q (f e.0)) t) ∙ below.0 in
        ap (λ r. cond (is_eq r) (Some (g x.1)) (find R q (read es))) other ∙ find_past q e es t below.1

    -- two keys of which one ties with q do not both tie with it, where they differ
    apart_of : (q x y : K) → eq_by_cmp R x y ≡ false → eq_by_cmp R q x ≡ true → eq_by_cmp R q y ≡ true → ⊥
    apart_of q x y differ t u =
        false≢true (sym differ ∙ ap is_eq (sym (o.congr q x y (is_equal (R q x) t))) ∙ u)

    exchanged : {Y : Type 0} (a b : Bool) (x y z : Y) → (a ≡ true → b ≡ true → ⊥) → cond a x (cond b y z) ≡ cond b y (cond a x z)
    exchanged true true x y z apart = absurd (apart refl refl)
    exchanged true false x y z apart = refl
    exchanged false b x y z apart = refl

    repeated : {Y : Type 0} (b : Bool) (x y z : Y) → cond b x z ≡ cond b x (cond b y z)
    repeated true x y z = refl
    repeated false x y z = refl

    pub find_remove_at : (k : K) (es : List (A × X)) (q : K) → IsStrictlySortedBy by_read (keys_of es) → find R q (read (remove_entry (at k) es)) ≡ cond (eq_by_cmp R q k) None (find R q (read es))
    unfolding IsStrictlySortedBy
    find_remove_at k [] q sorted = no_value (eq_by_cmp R q k)
    find_remove_at k (e ∷ es) q sorted =
        elim (is_eq (R k (f e.0))) as (λ b. is_eq (R k (f e.0)) ≡ b → find R q (read (cond b es (e ∷ remove_entry (at k) es))) ≡ cond (eq_by_cmp R q k) None (cond (eq_by_cmp R q (f e.0)) (Some (g e.1)) (find R q (read es)))) [
          | true ↦ λ t.
              elim (eq_by_cmp R q (f e.0)) as (λ b. eq_by_cmp R q (f e.0) ≡ b → find R q (read es) ≡ cond b None (cond b (Some (g e.1)) (find R q (read es)))) [
                | true ↦ λ u. find_past q e es u sorted.0
                | false ↦ λ u. refl
              ] refl
              ∙ ap (λ r. cond (is_eq r) None (cond (eq_by_cmp R q (f e.0)) (Some (g e.1)) (find R q (read es)))) (sym (alike_right o k (f e.0) q (is_equal (R k (f e.0)) t)))
          | false ↦ λ t.
              ap (cond (eq_by_cmp R q (f e.0)) (Some (g e.1))) (find_remove_at k es q sorted.1)
              ∙ exchanged (eq_by_cmp R q (f e.0)) (eq_by_cmp R q k) (Some (g e.1)) None (find R q (read es)) (λ u v. apart_of q k (f e.0) t v u)
        ] refl

    pub as_map-remove_at : IsAntisymmetric R → (k : K) (es : List (A × X)) → IsStrictlySortedBy by_read (keys_of es) → as_map (remove_entry (at k) es) ≡ finite.remove (as_map es) k
    as_map-remove_at exact k es sorted = same_map o exact _ _ (λ q.
        get-from_entries o (read (remove_entry (at k) es)) q ∙ find_remove_at k es q sorted
        ∙ sym (get-remove o (as_map es) k q ∙ ap (cond (eq_by_cmp R q k) None) (get-from_entries o (read es) q)))

    pub find_set_at : (k : K) (w : X) (es : List (A × X)) (q : K) → IsSome (lookup (at k) es) → find R q (read (set_value (at k) es w)) ≡ cond (eq_by_cmp R q k) (Some (g w)) (find R q (read es))
    find_set_at k w [] q there = absurd (false≢true there)
    find_set_at k w (e ∷ es) q there =
        elim (is_eq (R k (f e.0))) as (λ b. is_eq (R k (f e.0)) ≡ b → IsSome (cond b (Some e.1) (lookup (at k) es)) → find R q (read (cond b ((e.0, w) ∷ es) (e ∷ set_value (at k) es w))) ≡ cond (eq_by_cmp R q k) (Some (g w)) (cond (eq_by_cmp R q (f e.0)) (Some (g e.1)) (find R q (read es)))) [
          | true ↦ λ t here.
              repeated (eq_by_cmp R q (f e.0)) (Some (g w)) (Some (g e.1)) (find R q (read es))
              ∙ ap (λ r. cond (is_eq r) (Some (g w)) (cond (eq_by_cmp R q (f e.0)) (Some (g e.1)) (find R q (read es)))) (sym (alike_right o k (f e.0) q (is_equal (R k (f e.0)) t)))
          | false ↦ λ t later.
              ap (cond (eq_by_cmp R q (f e.0)) (Some (g e.1))) (find_set_at k w es q later)
              ∙ exchanged (eq_by_cmp R q (f e.0)) (eq_by_cmp R q k) (Some (g e.1)) (Some (g w)) (find R q (read es)) (λ u v. apart_of q k (f e.0) t v u)
        ] refl there

    pub as_map-set_at : IsAntisymmetric R → (k : K) (w : X) (es : List (A × X)) → IsSome (lookup (at k) es) → as_map (set_value (at k) es w) ≡ finite.insert (as_map es) k (g w)
    as_map-set_at exact k w es there = same_map o exact _ _ (λ q.
        get-from_entries o (read (set_value (at k) es w)) q ∙ find_set_at k w es q there
        ∙ sym (get-insert o (as_map es) k (g w) q ∙ ap (cond (eq_by_cmp R q k) (Some (g w))) (get-from_entries o (read es) q)))

    pub insert_same : IsAntisymmetric R → (m : FinMap R V) (k : K) (v : V) → finite.get m k ≡ Some v → finite.insert m k v ≡ m
    insert_same exact m k v there = same_map o exact _ _ (λ q.
        get-insert o m k v q
        ∙ elim (eq_by_cmp R q k) as (λ b. eq_by_cmp R q k ≡ b → cond b (Some v) (finite.get m q) ≡ finite.get m q) [
          | true ↦ λ t. sym there ∙ get_tied o m q k (is_equal (R q k) t)
          | false ↦ λ t. refl
        ] refl)
