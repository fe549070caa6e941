-- What a package finds by a name, by numbers.
--     position_in, position_of, position_some      the position of a thing or a name that is kept, and that there is one
--     external_by, found_by, found_no_name      the look-ups by names
use Rattle.std.proofs.Common.{◌≡◌, ◌+◌, ◌<◌, ◌≤◌, ℕ, zero, suc, Bool, true, false, cond, ◌||◌, nat_eq, is_some, List, [], ◌∷◌, ◌++◌, length, get_or, drop, position, Option, None, Some, option_map, option_and_then, bytes_eq, refl, sym, ap, subst, ◌∙◌, inl, inr, append_assoc, arith}
use Rattle.std.proofs.lemmas.Bool.{false≢true, or_right}
use Rattle.std.proofs.lemmas.Bool.Decides.{Decides-eqb}
use Rattle.std.proofs.lemmas.List.{get_or_at, length_push, length-append, drop_more, drop_all}
use Rattle.std.proofs.lemmas.List.Quantifiers.{position-Some}
use Rattle.std.specs.Option.{option_or, option_map_or}
use Rattle.std.specs.List.{IsDistinct, AllByRecursion, list_any}
use Rattle.std.specs.Cmp.{IsEquivalence}
use Rattle.std.specs.Cmp.Lexicographic.{nat_list_eq_equiv}
use Rattle.std.specs.FinMap as finite
use Rattle.package_sets.specs.KeptSets.{Kept, name_at, pair_at, pair_eq, positions_from, positions_of}
use Rattle.package_sets.specs.Consistent.{IsGood}
use Rattle.package_sets.proofs.Places.{all_at, none_any}
use Rattle.package_table.specs.Table.{Name, Present, Package, Table, entry_at, IsPresent, IsExternal, Uses, Finds, FindsNone, AreUsesSound}
use Rattle.package_table.specs.Lookup.{home_by_name, external_home}
use Rattle.package_table.specs.Meaning.{number_in, is_shown_in, present_in, package_of_number, home_in, shown_number, first_shown, found_number, numbered_of}
use Rattle.package_table.proofs.Names.{same_some, none_some}
use Rattle.package_table.proofs.Found.{found_is, finds_none}
use Rattle.package_table.proofs.Mapped.{position_cons}
use Rattle.package_table.proofs.Meant.{one_pair, same_pair, package_at, package_none, entry_there, entry_none, uses_there, uses_none}

-- ---- positions
pub any_at : {X : Type 0} (test : X → Bool) (xs : List X) (i : ℕ) (d : X) → i < length xs → test (get_or xs i d) ≡ true → list_any test xs ≡ true
any_at test [] i d less passes = absurd (omega (arith, less))
any_at test (x ∷ xs) zero d less passes = ap (λ b. b || list_any test xs) passes
any_at test (x ∷ xs) (suc i) d less passes = or_right (test x) (list_any test xs) (any_at test xs i d (omega (arith, less)) passes)

pub position_some : {X : Type 0} (test : X → Bool) (xs : List X) (i : ℕ) (d : X) → i < length xs → test (get_or xs i d) ≡ true → (y : ℕ) × (position test xs ≡ Some y)
position_some test xs i d less passes =
    elim (position test xs) as (λ o. position test xs ≡ o → (y : ℕ) × (o ≡ Some y)) [
      | Some y ↦ λ _. (y, refl)
      | None ↦ λ none. absurd (false≢true (sym (none_any test xs none) ∙ any_at test xs i d less passes))
    ] refl

-- the place of a thing of a list in which all are distinct
pub position_in : {X : Type 0} {E : X → X → Bool} → IsEquivalence E → (xs : List X) (d : X) → IsDistinct E xs → (i : ℕ) → i < length xs → position (E (get_or xs i d)) xs ≡ Some i
unfolding IsDistinct
position_in laws [] d distinct i less = absurd (omega (arith, less))
position_in {E = E} laws (x ∷ xs) d distinct zero less = position_cons (E x) x xs ∙ ap (λ b. cond b (Some 0) (option_map (λ i. 1 + i) (position (E x) xs))) (laws.refl x)
position_in {E = E} laws (x ∷ xs) d distinct (suc i) less =
    let rest = position_in laws xs d distinct.1 i (omega (arith, less)) in
    let differs : E (get_or xs i d) x ≡ false = laws.symm (get_or xs i d) x ∙ all_at (λ y. E x y ≡ false) xs distinct.0 i d (omega (arith, less)) in
    position_cons (E (get_or xs i d)) x xs
    ∙ ap (λ b. cond b (Some 0) (option_map (λ i. 1 + i) (position (E (get_or xs i d)) xs))) differs
    ∙ ap (option_map (λ i. 1 + i)) rest ∙ ap Some (omega arith)

pub position_of : (ns : List Name) → IsDistinct bytes_eq ns → (i : ℕ) → i < length ns → position (bytes_eq (name_at ns i)) ns ≡ Some i
position_of ns distinct i less = position_in nat_list_eq_equiv ns [] distinct i less

-- the positions of the pairs that begin with f
pub positions_read : (f : ℕ) (all done ps : List (ℕ × ℕ)) (i : ℕ) → all ≡ done ++ ps → length done ≡ i → AllByRecursion (λ x. (x < length all) × ((pair_at all x).0 ≡ f)) (positions_from f i ps)
unfolding positions_from
positions_read f all done [] i split here = tt
positions_read f all done (p ∷ ps) i split here =
    let rest = positions_read f all (done ++ p ∷ []) ps (i + 1) (split ∙ sym (append_assoc done (p ∷ []) ps)) (length_push done p ∙ ap (λ n. n + 1) here) in
    elim (nat_eq p.0 f) as (λ b. nat_eq p.0 f ≡ b → AllByRecursion (λ x. (x < length all) × ((pair_at all x).0 ≡ f)) (cond b (i ∷ positions_from f (i + 1) ps) (positions_from f (i + 1) ps))) [
      | true ↦ λ is. ((fits, ap (λ (q : ℕ × ℕ). q.0) (ap (λ qs. pair_at qs i) split ∙ get_or_at done p ps (0, 0) i here) ∙ (Decides-eqb p.0 f).0 is), rest)
      | false ↦ λ _. rest
    ] refl
  where
    fits : i < length all
    fits = let size : length all ≡ length done + suc (length ps) = ap length split ∙ length-append done (p ∷ ps) in omega (arith, size, here)

pub positions_have : (f s : ℕ) (all done ps : List (ℕ × ℕ)) (i : ℕ) → all ≡ done ++ ps → length done ≡ i → list_any (pair_eq (f, s)) ps ≡ true
    → (x : ℕ) × (list_any (nat_eq x) (positions_from f i ps) ≡ true) × (pair_at all x ≡ (f, s))
unfolding positions_from
positions_have f s all done [] i split here some = absurd (false≢true some)
positions_have f s all done (p ∷ ps) i split here some =
    elim (pair_eq (f, s) p) as (λ b. pair_eq (f, s) p ≡ b → (b || list_any (pair_eq (f, s)) ps) ≡ true → (x : ℕ) × (list_any (nat_eq x) (cond (nat_eq p.0 f) (i ∷ positions_from f (i + 1) ps) (positions_from f (i + 1) ps)) ≡ true) × (pair_at all x ≡ (f, s))) [
      | true ↦ λ is _.
          let one = one_pair (f, s) p is in (
            i,
            ap (λ b. list_any (nat_eq i) (cond b (i ∷ positions_from f (i + 1) ps) (positions_from f (i + 1) ps))) ((Decides-eqb p.0 f).1 (ap (λ (q : ℕ × ℕ). q.0) (sym one))) ∙ ap (λ b. b || list_any (nat_eq i) (positions_from f (i + 1) ps)) ((Decides-eqb i i).1 refl),
            ap (λ qs. pair_at qs i) split ∙ get_or_at done p ps (0, 0) i here ∙ sym one,
          )
      | false ↦ λ _ later.
          let rest = positions_have f s all (done ++ p ∷ []) ps (i + 1) (split ∙ sym (append_assoc done (p ∷ []) ps)) (length_push done p ∙ ap (λ n. n + 1) here) later in
          (rest.0, further (nat_eq p.0 f) rest.0 rest.1, rest.2)
    ] refl some
  where
    further : (b : Bool) (x : ℕ) → list_any (nat_eq x) (positions_from f (i + 1) ps) ≡ true → list_any (nat_eq x) (cond b (i ∷ positions_from f (i + 1) ps) (positions_from f (i + 1) ps)) ≡ true
    further true x among = or_right (nat_eq x i) (list_any (nat_eq x) (positions_from f (i + 1) ps)) among
    further false x among = among

pub all_any : (P : ℕ → Type 0) (xs : List ℕ) → AllByRecursion P xs → (x : ℕ) → list_any (nat_eq x) xs ≡ true → P x
all_any P [] all x among = absurd (false≢true among)
all_any P (y ∷ ys) all x among =
    elim (nat_eq x y) as (λ b. nat_eq x y ≡ b → (b || list_any (nat_eq x) ys) ≡ true → P x) [
      | true ↦ λ is _. subst P (sym ((Decides-eqb x y).0 is)) all.0
      | false ↦ λ _ later. all_any P ys all.1 x later
    ] refl among

-- ---- what is external
module _ (k : Kept) where
  pub shows : (q j i : ℕ) → shown_number k q j ≡ Some i → (number_in k q j ≡ Some i) × (is_shown_in k q i ≡ true)
  shows q j i is =
      elim (number_in k q j) as (λ o. option_and_then (λ i. cond (is_shown_in k q i) (Some i) None) o ≡ Some i → (o ≡ Some i) × (is_shown_in k q i ≡ true)) [
        | None ↦ λ none. absurd (none_some i none)
        | Some x ↦ λ some. chosen x some
      ] is
    where
      chosen : (x : ℕ) → cond (is_shown_in k q x) (Some x) None ≡ Some i → (Some x ≡ Some i) × (is_shown_in k q i ≡ true)
      chosen x some =
          elim (is_shown_in k q x) as (λ b. is_shown_in k q x ≡ b → cond b (Some x) None ≡ Some i → (Some x ≡ Some i) × (is_shown_in k q i ≡ true)) [
            | true ↦ λ shown same. (same, ap (is_shown_in k q) (sym (same_some x i same)) ∙ shown)
            | false ↦ λ _ none. absurd (none_some i none)
          ] refl some

  pub is_shown_number : (q j i : ℕ) → number_in k q j ≡ Some i → is_shown_in k q i ≡ true → shown_number k q j ≡ Some i
  is_shown_number q j i is shown = ap (option_and_then (λ i. cond (is_shown_in k q i) (Some i) None)) is ∙ ap (λ b. cond b (Some i) None) shown

  pub first_is : (j : ℕ) (xs : List ℕ) (i : ℕ) → first_shown k j xs ≡ Some i → (x : ℕ) × (list_any (nat_eq x) xs ≡ true) × (shown_number k (pair_at k.uses x).1 j ≡ Some i)
  unfolding first_shown
  first_is j [] i none = absurd (none_some i none)
  first_is j (x ∷ xs) i is =
      elim (shown_number k (pair_at k.uses x).1 j) as (λ o. shown_number k (pair_at k.uses x).1 j ≡ o → option_or o (first_shown k j xs) ≡ Some i → (y : ℕ) × (list_any (nat_eq y) (x ∷ xs) ≡ true) × (shown_number k (pair_at k.uses y).1 j ≡ Some i)) [
        | None ↦ λ _ later. let rest = first_is j xs i later in (rest.0, or_right (nat_eq rest.0 x) (list_any (nat_eq rest.0) xs) rest.1, rest.2)
        | Some y ↦ λ seen same. (x, ap (λ b. b || list_any (nat_eq x) xs) ((Decides-eqb x x).1 refl), seen ∙ same)
      ] refl is

  pub first_none : (j : ℕ) (xs : List ℕ) → first_shown k j xs ≡ None → (x : ℕ) → list_any (nat_eq x) xs ≡ true → shown_number k (pair_at k.uses x).1 j ≡ None
  unfolding first_shown
  first_none j [] none x among = absurd (false≢true among)
  first_none j (y ∷ ys) none x among =
      elim (shown_number k (pair_at k.uses y).1 j) as (λ o. shown_number k (pair_at k.uses y).1 j ≡ o → option_or o (first_shown k j ys) ≡ None → shown_number k (pair_at k.uses x).1 j ≡ None) [
        | Some z ↦ λ _ some. absurd (none_some z (sym some))
        | None ↦ λ here later.
            elim (nat_eq x y) as (λ b. nat_eq x y ≡ b → (b || list_any (nat_eq x) ys) ≡ true → shown_number k (pair_at k.uses x).1 j ≡ None) [
              | true ↦ λ is _. ap (λ z. shown_number k (pair_at k.uses z).1 j) ((Decides-eqb x y).0 is) ∙ here
              | false ↦ λ _ rest. first_none j ys later x rest
            ] refl among
      ] refl none

pub or_some : (o p : Option ℕ) → is_some o ≡ true → option_or o p ≡ o
or_some None p none = absurd (false≢true none)
or_some (Some i) p some = refl

or_none : (o p : Option ℕ) → is_some o ≡ false → option_or o p ≡ p
or_none None p none = refl
or_none (Some i) p some = absurd (false≢true (sym some))

-- the uses from a place on
module _ (k : Kept) (j : ℕ) (xs : List ℕ) (i : ℕ) where
  first_step : i < length xs → first_shown k j (drop i xs) ≡ option_or (shown_number k (pair_at k.uses (get_or xs i 0)).1 j) (first_shown k j (drop (i + 1) xs))
  unfolding first_shown
  first_step less = ap (first_shown k j) (drop_more xs i 0 less)

  pub first_hit : (q : ℕ) (o : Option ℕ) → i < length xs → q ≡ (pair_at k.uses (get_or xs i 0)).1 → o ≡ shown_number k q j → is_some o ≡ true → o ≡ first_shown k j (drop i xs)
  first_hit q o less at is some =
      sym (or_some o (first_shown k j (drop (i + 1) xs)) some)
      ∙ ap (λ r. option_or r (first_shown k j (drop (i + 1) xs))) (is ∙ ap (λ q. shown_number k q j) at) ∙ sym (first_step less)

  pub first_missed : (q : ℕ) (o : Option ℕ) → i < length xs → q ≡ (pair_at k.uses (get_or xs i 0)).1 → o ≡ shown_number k q j → is_some o ≡ false → first_shown k j (drop (i + 1) xs) ≡ first_shown k j (drop i xs)
  first_missed q o less at is none =
      sym (or_none o (first_shown k j (drop (i + 1) xs)) none)
      ∙ ap (λ r. option_or r (first_shown k j (drop (i + 1) xs))) (is ∙ ap (λ q. shown_number k q j) at) ∙ sym (first_step less)

  pub first_end : length xs ≤ i → None ≡ first_shown k j (drop i xs)
  unfolding first_shown
  first_end past = sym (ap (first_shown k j) (drop_all i xs past))

-- ---- the look-ups by names
module _ (k : Kept) (good : IsGood k) where
  abbrev t : Table
  t = (numbered_of k).0

  pub nothing_by : (N : Name) → position (bytes_eq N) k.names ≡ None → (Q : Name) → entry_at (numbered_of k).0 Q N ≡ None
  nothing_by N none Q =
      elim (position (bytes_eq Q) k.packages) as (λ o. position (bytes_eq Q) k.packages ≡ o → entry_at (numbered_of k).0 Q N ≡ None) [
        | None ↦ λ absent. ap (option_and_then (λ (h : Package). finite.get h.symbols N)) (package_none k good Q absent)
        | Some q ↦ λ here. entry_none k good Q q here N none
      ] refl

  module _ (Q N : Name) (q j : ℕ) (here : position (bytes_eq Q) k.packages ≡ Some q) (there : position (bytes_eq N) k.names ≡ Some j) where
    pub external_by : option_map (home_in k) (shown_number k q j) ≡ external_home (numbered_of k).0 Q N
    external_by =
        elim (number_in k q j) as (λ o. option_map (home_in k) (option_and_then (λ i. cond (is_shown_in k q i) (Some i) None) o) ≡ option_map_or (λ (e : Present). cond e.external (Some e.home) None) (option_map (present_in k q) o) None) [
          | None ↦ refl
          | Some i ↦ either (is_shown_in k q i) i
        ]
        ∙ sym (ap (λ o. option_map_or (λ (e : Present). cond e.external (Some e.home) None) o None) (entry_there k good Q q here N j there))
      where
        either : (b : Bool) (i : ℕ) → option_map (home_in k) (cond b (Some i) None) ≡ cond b (Some (home_in k i)) None
        either true i = refl
        either false i = refl

    pub present_by : (i : ℕ) → number_in k q j ≡ Some i → IsPresent (numbered_of k).0 Q N (home_in k i)
    present_by i is = ap (option_map (λ (e : Present). e.home)) (entry_there k good Q q here N j there ∙ ap (option_map (present_in k q)) is)

    pub shown_by : (i : ℕ) → number_in k q j ≡ Some i → is_shown_in k q i ≡ true → IsExternal (numbered_of k).0 Q N
    shown_by i is shown = ap (option_map (λ (e : Present). e.external)) (entry_there k good Q q here N j there ∙ ap (option_map (present_in k q)) is) ∙ ap Some shown

    -- what is external there has a number
    pub number_by : (h : Name) → IsExternal (numbered_of k).0 Q N → IsPresent (numbered_of k).0 Q N h → (i : ℕ) × (shown_number k q j ≡ Some i)
    number_by h external present =
        elim (number_in k q j) as (λ o. number_in k q j ≡ o → option_map (λ (e : Present). e.external) (option_map (present_in k q) o) ≡ Some true → (i : ℕ) × (shown_number k q j ≡ Some i)) [
          | None ↦ λ _ none. absurd (none_some true none)
          | Some i ↦ λ is shown. (i, is_shown_number k q j i is (same_some (is_shown_in k q i) true shown))
        ] refl (sym (ap (option_map (λ (e : Present). e.external)) (entry_there k good Q q here N j there)) ∙ external)

  -- what p uses
  pub uses_by : (P Q : Name) (p q x : ℕ) → position (bytes_eq P) k.packages ≡ Some p → position (bytes_eq Q) k.packages ≡ Some q → position (pair_eq (p, q)) k.uses ≡ Some x → Uses (numbered_of k).0 P Q
  uses_by P Q p q x here there is =
      ap (option_map (λ (h : Package). finite.contains_key h.uses Q)) (package_at k good P p here)
      ∙ ap (λ (o : Option (Unit {0})). Some (is_some o)) (uses_there k good P p q Q there ∙ ap (option_map (λ _. tt {0})) is)

  pub used_by : (P Q : Name) (p : ℕ) → position (bytes_eq P) k.packages ≡ Some p → Uses (numbered_of k).0 P Q → (q x : ℕ) × (position (bytes_eq Q) k.packages ≡ Some q) × (position (pair_eq (p, q)) k.uses ≡ Some x)
  used_by P Q p here used =
      let seen : finite.contains_key (package_of_number k p).uses Q ≡ true = same_some (finite.contains_key (package_of_number k p).uses Q) true (sym (ap (option_map (λ (h : Package). finite.contains_key h.uses Q)) (package_at k good P p here)) ∙ used) in
      elim (position (bytes_eq Q) k.packages) as (λ o. position (bytes_eq Q) k.packages ≡ o → (q x : ℕ) × (o ≡ Some q) × (position (pair_eq (p, q)) k.uses ≡ Some x)) [
        | None ↦ λ none. absurd (false≢true (sym (ap is_some (uses_none k good P p Q none)) ∙ seen))
        | Some q ↦ λ there. let at = some_there q (sym (ap is_some (uses_there k good P p q Q there)) ∙ seen) in (q, at.0, refl, at.1)
      ] refl
    where
      some_there : (q : ℕ) → is_some (option_map (λ _. tt {0}) (position (pair_eq (p, q)) k.uses)) ≡ true → (x : ℕ) × (position (pair_eq (p, q)) k.uses ≡ Some x)
      some_there q some =
          elim (position (pair_eq (p, q)) k.uses) as (λ o. is_some (option_map (λ _. tt {0}) o) ≡ true → (x : ℕ) × (o ≡ Some x)) [
            | None ↦ λ none. absurd (false≢true none)
            | Some x ↦ λ _. (x, refl)
          ] some

  module _ (P N : Name) (p j : ℕ) (here : position (bytes_eq P) k.packages ≡ Some p) (there : position (bytes_eq N) k.names ≡ Some j) where
    uses_read : AllByRecursion (λ x. (x < length k.uses) × ((pair_at k.uses x).0 ≡ p)) (positions_of p k.uses)
    uses_read = positions_read p k.uses [] k.uses 0 refl refl

    pub finds_inherited : (i : ℕ) → first_shown k j (positions_of p k.uses) ≡ Some i → Finds (numbered_of k).0 P N (home_in k i)
    finds_inherited i is =
        let first = first_is k j (positions_of p k.uses) i is in
        let x : ℕ = first.0 in
        let q : ℕ = (pair_at k.uses x).1 in
        let at = all_any (λ x. (x < length k.uses) × ((pair_at k.uses x).0 ≡ p)) (positions_of p k.uses) uses_read x first.1 in
        let fits : q < length k.packages = (all_at (λ (u : ℕ × ℕ). (u.0 < length k.packages) × (u.1 < length k.packages)) k.uses good.within.uses x (0, 0) at.0).1 in
        let Q : Name = name_at k.packages q in
        let found_q = position_of k.packages good.distinct.packages q fits in
        let pair : pair_eq (p, q) (pair_at k.uses x) ≡ true = ap (λ (a : ℕ). pair_eq (a, q) (pair_at k.uses x)) (sym at.1) ∙ same_pair (pair_at k.uses x) in
        let taken = position_some (pair_eq (p, q)) k.uses x (0, 0) at.0 pair in
        let shown = shows k q j i first.2 in
        inr (Q, uses_by P Q p q taken.0 here found_q taken.1, shown_by Q N q j found_q there i shown.0 shown.1, present_by Q N q j found_q there i shown.0)

    pub finds_number : (i : ℕ) → found_number k p j ≡ Some i → Finds (numbered_of k).0 P N (home_in k i)
    finds_number i is =
        elim (number_in k p j) as (λ o. number_in k p j ≡ o → option_or o (first_shown k j (positions_of p k.uses)) ≡ Some i → Finds (numbered_of k).0 P N (home_in k i)) [
          | Some x ↦ λ own same. inl (present_by P N p j here there i (own ∙ same))
          | None ↦ λ _ later. finds_inherited i later
        ] refl is

    finds_nothing : found_number k p j ≡ None → FindsNone (numbered_of k).0 P N
    finds_nothing none h (inl present) =
        let some : option_map (λ (e : Present). e.home) (option_map (present_in k p) None) ≡ Some h = sym (ap (option_map (λ (e : Present). e.home)) (entry_there k good P p here N j there ∙ ap (option_map (present_in k p)) (first_of none))) ∙ present in
        none_some h some
      where
        first_of : found_number k p j ≡ None → number_in k p j ≡ None
        first_of none =
            elim (number_in k p j) as (λ o. option_or o (first_shown k j (positions_of p k.uses)) ≡ None → o ≡ None) [ None ↦ λ _. refl | Some x ↦ λ some. absurd (none_some x (sym some)) ] none
    finds_nothing none h (inr (Q, used, external, present)) =
        let taken = used_by P Q p here used in
        let q : ℕ = taken.0 in
        let among : list_any (pair_eq (p, q)) k.uses ≡ true = some_any q taken.1 taken.3 in
        let at = positions_have p q k.uses [] k.uses 0 refl refl among in
        let shown = number_by Q N q j taken.2 there h external present in
        none_some shown.0 (sym (first_none k j (positions_of p k.uses) (rest_of none) at.0 at.1) ∙ ap (λ (u : ℕ × ℕ). shown_number k u.1 j) at.2 ∙ shown.1)
      where
        rest_of : found_number k p j ≡ None → first_shown k j (positions_of p k.uses) ≡ None
        rest_of none =
            elim (number_in k p j) as (λ o. option_or o (first_shown k j (positions_of p k.uses)) ≡ None → first_shown k j (positions_of p k.uses) ≡ None) [ None ↦ λ same. same | Some x ↦ λ some. absurd (none_some x (sym some)) ] none

        some_any : (q x : ℕ) → position (pair_eq (p, q)) k.uses ≡ Some x → list_any (pair_eq (p, q)) k.uses ≡ true
        some_any q x is = let at = position-Some (pair_eq (p, q)) k.uses x (0, 0) is in any_at (pair_eq (p, q)) k.uses x (0, 0) at.0 at.1

    pub found_by : AreUsesSound (numbered_of k).0 → option_map (home_in k) (found_number k p j) ≡ home_by_name (numbered_of k).0 P N
    found_by joined =
        elim (found_number k p j) as (λ o. found_number k p j ≡ o → option_map (home_in k) o ≡ home_by_name (numbered_of k).0 P N) [
          | Some i ↦ λ is. sym (found_is (numbered_of k).0 N joined P (home_in k i) (finds_number i is))
          | None ↦ λ none. sym (finds_none (numbered_of k).0 N P (finds_nothing none))
        ] refl

  pub found_no_name : (P N : Name) → position (bytes_eq N) k.names ≡ None → home_by_name (numbered_of k).0 P N ≡ None
  found_no_name P N none = finds_none (numbered_of k).0 N P (nothing none)
    where
      nothing : position (bytes_eq N) k.names ≡ None → FindsNone (numbered_of k).0 P N
      nothing none h (inl present) = none_some h (sym (ap (option_map (λ (e : Present). e.home)) (nothing_by N none P)) ∙ present)
      nothing none h (inr used) = none_some h (sym (ap (option_map (λ (e : Present). e.home)) (nothing_by N none used.0)) ∙ used.3)
