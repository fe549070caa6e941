-- A `BTreeMap` and a `BTreeSet` read as finite maps, entry by entry in the order of their keys: f reads a key and g a value.
--     entries-as_map, keys-as_set      the entries of the finite map are those of the tree, in its order
--     as_set-insert      what `insert` leaves of a set
--     copied_next, copied_next_key      a tree that is made entry by entry from the entries of another
use Rattle.std.proofs.Common.{◌≡◌, true, false, cond, None, Some, List, [], ◌∷◌, ◌++◌, map, refl, sym, ap, subst, ◌∙◌, append_assoc}
use Rattle.std.specs.Prelude.{T, ◌&&◌}
use Rattle.std.specs.declared.cmp.Ordering.{Ordering}
use Rattle.std.specs.declared.cmp.Ordering.TheVariants.{Less, Equal, Greater}
use Rattle.std.specs.Ordering.{is_eq, is_lt, eq_by_cmp, match_ordering, ordering_reverse}
use Rattle.std.specs.List.{AllByRecursion}
use Rattle.std.specs.List.Sorted.{IsStrictlySortedBy}
use Rattle.std.specs.Map.{keys_of}
use Rattle.std.specs.BTreeMap.{insert_entry}
use Rattle.std.specs.BTreeSet.{insert_key}
use Rattle.std.specs.Cmp.{IsTotalOrder}
use Rattle.std.specs.FinMap as finite
use Rattle.std.specs.FinMap.{FinMap, IsAntisymmetric, find, put, is_sorted, from_sorted, same_map, get-insert, get-from_entries, get-from_sorted, entries-from_sorted, from_entries_push}
use Rattle.std.specs.FinMap.Entries.{find-put, by_order, below_all}
use Rattle.lisp_object.proofs.Tree.{read, as_map, as_map-insert}

module _ {A K : Type 0} (f : A → K) (R : K → K → Ordering) where
  -- the order of the keys
  abbrev pub by_key : A → A → Ordering
  by_key a b = R (f a) (f b)

  -- what is read of a set's keys
  abbrev pub read_keys : List A → List (K × Unit {0})
  read_keys ks = map (λ k. (f k, tt {0})) ks

  abbrev pub as_set : List A → FinMap R (Unit {0})
  as_set ks = finite.from_entries (read_keys ks)

  module _ (o : IsTotalOrder R) (exact : IsAntisymmetric R) where
    -- entries that are in order are those of the finite map that is made of them
    pub entries_in_order : {V : Type 0} (es : List (K × V)) → is_sorted R es ≡ true → finite.entries (finite.from_entries {R = R} es) ≡ es
    entries_in_order es rising =
        let sorted : T (is_sorted R es) = subst T (sym rising) tt in
        ap finite.entries (same_map o exact (finite.from_entries es) (from_sorted es)
        (λ q. get-from_entries o es q ∙ sym (get-from_sorted R es q sorted)))
        ∙ entries-from_sorted R es sorted

    -- the order says so of each key before another
    before : (x e : A) (done rest : List A) → AllByRecursion (λ y. by_key x y ≡ Less) (done ++ e ∷ rest) → by_key x e ≡ Less
    before x e [] rest all = all.0
    before x e (d ∷ done) rest all = before x e done rest all.1

    after : (x e : A) → by_key x e ≡ Less → eq_by_cmp R (f e) (f x) ≡ false
    after x e less = ap is_eq (o.antisymm (f e) (f x) ∙ ap ordering_reverse less)

    -- ---- sets
    below_keys : (x : A) (ks : List A) → AllByRecursion (λ y. by_key x y ≡ Less) ks → below_all R (f x) (read_keys ks) ≡ true
    below_keys x [] below = refl
    below_keys x (k ∷ ks) below = ap (λ r. is_lt r && below_all R (f x) (read_keys ks)) below.0 ∙ below_keys x ks below.1

    sorted_keys : (ks : List A) → IsStrictlySortedBy by_key ks → is_sorted R (read_keys ks) ≡ true
    unfolding IsStrictlySortedBy
    sorted_keys [] sorted = refl
    sorted_keys (k ∷ ks) sorted = ap (λ b. b && is_sorted R (read_keys ks)) (below_keys k ks sorted.0) ∙ sorted_keys ks sorted.1

    firsts : (ks : List A) → map (λ e. e.0) (read_keys ks) ≡ map f ks
    firsts [] = refl
    firsts (k ∷ ks) = ap (λ ns. f k ∷ ns) (firsts ks)

    pub keys-as_set : (ks : List A) → IsStrictlySortedBy by_key ks → finite.keys (as_set ks) ≡ map f ks
    keys-as_set ks sorted = ap (map (λ e. e.0)) (entries_in_order (read_keys ks) (sorted_keys ks sorted)) ∙ firsts ks

    read-insert_key : (k : A) (ks : List A) → read_keys (insert_key by_key ks k) ≡ put R (f k) tt (read_keys ks)
    read-insert_key k [] = refl
    read-insert_key k (x ∷ ks) =
        elim (by_key k x) as (λ r. read_keys (match_ordering r (k ∷ x ∷ ks) (x ∷ ks) (x ∷ insert_key by_key ks k)) ≡ by_order r ((f k, tt) ∷ (f x, tt) ∷ read_keys ks) ((f x, tt) ∷ read_keys ks) ((f x, tt) ∷ put R (f k) tt (read_keys ks))) [
          | Less ↦ refl
          | Equal ↦ refl
          | Greater ↦ ap (λ rs. (f x, tt) ∷ rs) (read-insert_key k ks)
        ]

    pub as_set-insert : (k : A) (ks : List A) → as_set (insert_key by_key ks k) ≡ finite.insert (as_set ks) (f k) tt
    as_set-insert k ks = same_map o exact _ _ (λ q.
        get-from_entries o (read_keys (insert_key by_key ks k)) q ∙ ap (find R q) (read-insert_key k ks)
        ∙ find-put R o q (f k) tt (read_keys ks)
        ∙ sym (get-insert o (as_set ks) (f k) tt q ∙ ap (cond (eq_by_cmp R q (f k)) (Some tt)) (get-from_entries o (read_keys ks) q)))

    keys_read : (ks ls : List A) → read_keys (ks ++ ls) ≡ read_keys ks ++ read_keys ls
    keys_read [] ls = refl
    keys_read (k ∷ ks) ls = ap (λ rs. (f k, tt) ∷ rs) (keys_read ks ls)

    absent_key : (done rest : List A) (e : A) → IsStrictlySortedBy by_key (done ++ e ∷ rest) → find R (f e) (read_keys done) ≡ None
    unfolding IsStrictlySortedBy
    absent_key [] rest e sorted = refl
    absent_key (d ∷ done) rest e sorted =
        ap (λ b. cond b (Some (tt {0})) (find R (f e) (read_keys done))) (after d e (before d e done rest sorted.0)) ∙ absent_key done rest e sorted.1

    pushed_key : (done rest : List A) (e : A) → IsStrictlySortedBy by_key (done ++ e ∷ rest) → as_set (done ++ e ∷ []) ≡ finite.insert (as_set done) (f e) tt
    pushed_key done rest e sorted =
        ap finite.from_entries (keys_read done (e ∷ [])) ∙ from_entries_push o exact (read_keys done) (f e) tt (absent_key done rest e sorted)

    -- the next key, copied
    pub copied_next_key : (copied : List A) (k e : A) (rest all : List A)
        → IsStrictlySortedBy by_key all → f k ≡ f e
        → (done : List A) × (done ++ e ∷ rest ≡ all) × (as_set copied ≡ as_set done)
        → (done : List A) × (done ++ rest ≡ all) × (as_set (insert_key by_key copied k) ≡ as_set done)
    copied_next_key copied k e rest all sorted keys so_far =
        let whole : so_far.0 ++ e ∷ rest ≡ all = so_far.1 in (
          so_far.0 ++ e ∷ [],
          append_assoc so_far.0 (e ∷ []) rest ∙ whole,
          as_set-insert k copied ∙ (λ i. finite.insert (so_far.2 i) (keys i) tt)
              ∙ sym (pushed_key so_far.0 rest e (subst (IsStrictlySortedBy by_key) (sym whole) sorted)),
        )

    -- ---- maps
    module _ {X V : Type 0} (g : X → V) where
      abbrev read_of : List (A × X) → List (K × V)
      read_of = read f g R

      abbrev map_of : List (A × X) → FinMap R V
      map_of = as_map f g R

      below_read : (x : A) (es : List (A × X)) → AllByRecursion (λ y. by_key x y ≡ Less) (keys_of es) → below_all R (f x) (read_of es) ≡ true
      below_read x [] below = refl
      below_read x (e ∷ es) below = ap (λ r. is_lt r && below_all R (f x) (read_of es)) below.0 ∙ below_read x es below.1

      pub sorted_read : (es : List (A × X)) → IsStrictlySortedBy by_key (keys_of es) → is_sorted R (read_of es) ≡ true
      unfolding IsStrictlySortedBy
      sorted_read [] sorted = refl
      sorted_read (e ∷ es) sorted = ap (λ b. b && is_sorted R (read_of es)) (below_read e.0 es sorted.0) ∙ sorted_read es sorted.1

      pub entries-as_map : (es : List (A × X)) → IsStrictlySortedBy by_key (keys_of es) → finite.entries (map_of es) ≡ read_of es
      entries-as_map es sorted = entries_in_order (read_of es) (sorted_read es sorted)

      read_append : (es fs : List (A × X)) → read_of (es ++ fs) ≡ read_of es ++ read_of fs
      read_append [] fs = refl
      read_append (e ∷ es) fs = ap (λ rs. (f e.0, g e.1) ∷ rs) (read_append es fs)

      keys_append : (es fs : List (A × X)) → keys_of (es ++ fs) ≡ keys_of es ++ keys_of fs
      keys_append [] fs = refl
      keys_append (e ∷ es) fs = ap (λ ks. e.0 ∷ ks) (keys_append es fs)

      -- an entry that comes later is not found among those before it
      absent : (done rest : List (A × X)) (e : A × X) → IsStrictlySortedBy by_key (keys_of (done ++ e ∷ rest)) → find R (f e.0) (read_of done) ≡ None
      unfolding IsStrictlySortedBy
      absent [] rest e sorted = refl
      absent (d ∷ done) rest e sorted =
          ap (λ b. cond b (Some (g d.1)) (find R (f e.0) (read_of done))) (after d.0 e.0 (before d.0 e.0 (keys_of done) (keys_of rest) (subst (AllByRecursion (λ y. by_key d.0 y ≡ Less)) (keys_append done (e ∷ rest)) sorted.0)))
          ∙ absent done rest e sorted.1

      pushed : (done rest : List (A × X)) (e : A × X) → IsStrictlySortedBy by_key (keys_of (done ++ e ∷ rest)) → map_of (done ++ e ∷ []) ≡ finite.insert (map_of done) (f e.0) (g e.1)
      pushed done rest e sorted =
          ap finite.from_entries (read_append done (e ∷ []))
          ∙ from_entries_push o exact (read_of done) (f e.0) (g e.1) (absent done rest e sorted)

      -- the next entry, copied
      pub copied_next : (copied : List (A × X)) (k : A) (v : X) (e : A × X) (rest all : List (A × X))
          → IsStrictlySortedBy by_key (keys_of all) → f k ≡ f e.0 → g v ≡ g e.1
          → (done : List (A × X)) × (done ++ e ∷ rest ≡ all) × (map_of copied ≡ map_of done)
          → (done : List (A × X)) × (done ++ rest ≡ all) × (map_of (insert_entry by_key copied k v) ≡ map_of done)
      copied_next copied k v e rest all sorted keys values so_far =
          let whole : so_far.0 ++ e ∷ rest ≡ all = so_far.1 in (
            so_far.0 ++ e ∷ [],
            append_assoc so_far.0 (e ∷ []) rest ∙ whole,
            as_map-insert f g R o exact k v copied
                ∙ (λ i. finite.insert (so_far.2 i) (keys i) (values i))
                ∙ sym (pushed so_far.0 rest e (subst (λ es. IsStrictlySortedBy by_key (keys_of es)) (sym whole) sorted)),
          )
