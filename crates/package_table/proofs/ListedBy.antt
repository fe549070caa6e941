-- The lists of a package, from those by numbers.
--     position_exact, positions_apart, locked_own      places of pairs, and that a locked package has its own symbols alone
--     own_listed, shown_listed, imported_listed, used_listed      sorted lists
--     imported_pairs      imported names with their homes
use Rattle.std.proofs.Common.{◌≡◌, ◌+◌, ◌<◌, ◌≤◌, ℕ, zero, suc, Bool, true, false, cond, not, ◌||◌, nat_eq, nat_lt, is_some, List, [], ◌∷◌, map, filter, length, get_or, position, Option, None, Some, option_map, option_and_then, bytes_eq, refl, sym, ap, subst, ◌∙◌, T, IsPermutation, IsSorted, arith}
use Rattle.std.proofs.lemmas.Bool.{false≢true, or_right}
use Rattle.std.specs.Option.{option_or, option_map_or}
use Rattle.std.specs.List.{IsDistinct, AllByRecursion, list_any}
use Rattle.std.specs.FinMap as finite
use Rattle.std.specs.FinMap.Entries.{find, is_sorted}
use Rattle.std.specs.Cmp.{both_ways}
use Rattle.package_sets.specs.KeptSets.{Kept, import_of, name_at, pair_at, pair_eq, positions_from, positions_of}
use Rattle.package_sets.specs.Consistent.{IsGood}
use Rattle.package_sets.proofs.Places.{any_some, any_none, all_at}
use Rattle.package_table.specs.Table.{Name, name_cmp, Present, Package, Table, common_lisp, common_lisp_names, common_lisp_package, keyword, is_locked, entry_at, IsPresent, AreSoundPackages}
use Rattle.package_table.specs.Readers.{present_symbols, own_names, external_names, imports, used_names}
use Rattle.package_table.specs.Meaning.{number_in, is_shown_in, present_in, package_of_number, home_in, symbol_name, shown_positions, shown_symbol, numbered_of}
use Rattle.package_table.specs.Adds.{HasFixedNumbers}
use Rattle.package_table.proofs.Names.{same_some, none_some, same_tied}
use Rattle.package_table.proofs.Frames.{equal_names, equal_itself}
use Rattle.package_table.proofs.First.{symbol_first, at_home}
use Rattle.package_table.proofs.Asked.{found_past}
use Rattle.package_table.proofs.Counting.{first_of_both, second_of_both}
use Rattle.package_table.proofs.Mapped.{position_cons, named, got_at, got_none}
use Rattle.package_table.proofs.Meant.{known, one_pair, same_pair, pair_there, package_at, entry_there, uses_there, uses_none}
use Rattle.package_table.proofs.FoundBy.{position_of, positions_read, positions_have, all_any, any_at}
use Rattle.package_table.proofs.Adding.{locked_number}
use Rattle.package_table.proofs.ByName.{home_position, other_home, own_home}
use Rattle.package_table.proofs.Listed.{sorted_is, kept_rise, kept_among, keys_rise, keys_among, any_in, any_of, any_mapped, distinct_mapped}

-- ---- places of pairs
pub position_exact : (ps : List (ℕ × ℕ)) → IsDistinct pair_eq ps → (i : ℕ) → i < length ps → position (pair_eq (pair_at ps i)) ps ≡ Some i
unfolding IsDistinct
position_exact [] distinct i less = absurd (omega (arith, less))
position_exact (p ∷ ps) distinct zero less = position_cons (pair_eq p) p ps ∙ ap (λ b. cond b (Some 0) (option_map (λ i. 1 + i) (position (pair_eq p) ps))) (same_pair p)
position_exact (p ∷ ps) distinct (suc i) less =
    let rest = position_exact ps distinct.1 i (omega (arith, less)) in
    let differs : pair_eq (pair_at ps i) p ≡ false = turned (pair_at ps i) p (all_at (λ q. pair_eq p q ≡ false) ps distinct.0 i (0, 0) (omega (arith, less))) in
    position_cons (pair_eq (pair_at ps i)) p ps
    ∙ ap (λ b. cond b (Some 0) (option_map (λ i. 1 + i) (position (pair_eq (pair_at ps i)) ps))) differs
    ∙ ap (option_map (λ i. 1 + i)) rest ∙ ap Some (omega arith)
  where
    turned : (a b : ℕ × ℕ) → pair_eq b a ≡ false → pair_eq a b ≡ false
    turned a b differs =
        elim (pair_eq a b) as (λ c. pair_eq a b ≡ c → c ≡ false) [
          | true ↦ λ same. absurd (false≢true (sym differs ∙ ap (λ x. pair_eq x a) (sym (one_pair a b same)) ∙ same_pair a))
          | false ↦ λ _. refl
        ] refl

past_from : (f i : ℕ) (ps : List (ℕ × ℕ)) → AllByRecursion (λ x. i ≤ x) (positions_from f i ps)
unfolding positions_from
past_from f i [] = tt
past_from f i (p ∷ ps) =
    let rest = weaker (positions_from f (i + 1) ps) (past_from f (i + 1) ps) in
    elim (nat_eq p.0 f) as (λ b. AllByRecursion (λ x. i ≤ x) (cond b (i ∷ positions_from f (i + 1) ps) (positions_from f (i + 1) ps))) [
      | true ↦ (omega arith, rest)
      | false ↦ rest
    ]
  where
    weaker : (xs : List ℕ) → AllByRecursion (λ x. i + 1 ≤ x) xs → AllByRecursion (λ x. i ≤ x) xs
    weaker [] all = tt
    weaker (x ∷ xs) all = ((let low = all.0 in omega (arith, low)), weaker xs all.1)

pub positions_apart : (f i : ℕ) (ps : List (ℕ × ℕ)) → IsDistinct nat_eq (positions_from f i ps)
unfolding positions_from IsDistinct
positions_apart f i [] = tt
positions_apart f i (p ∷ ps) =
    let rest = positions_apart f (i + 1) ps in
    elim (nat_eq p.0 f) as (λ b. IsDistinct nat_eq (cond b (i ∷ positions_from f (i + 1) ps) (positions_from f (i + 1) ps))) [
      | true ↦ (others (positions_from f (i + 1) ps) (past_from f (i + 1) ps), rest)
      | false ↦ rest
    ]
  where
    others : (xs : List ℕ) → AllByRecursion (λ x. i + 1 ≤ x) xs → AllByRecursion (λ x. nat_eq i x ≡ false) xs
    others [] all = tt
    others (x ∷ xs) all = ((let low = all.0 in grind arith), others xs all.1)

-- where a pair is among the positions of its first number
pub among_positions : (ps : List (ℕ × ℕ)) → IsDistinct pair_eq ps → (f s i : ℕ) → position (pair_eq (f, s)) ps ≡ Some i → (n m : ℕ) → AllByRecursion (λ p. (p.0 < n) × (p.1 < m)) ps → list_any (nat_eq i) (positions_of f ps) ≡ true
among_positions ps distinct f s i is n m within =
    let at = pair_there n m ps within (f, s) i is in
    let among : list_any (pair_eq (f, s)) ps ≡ true = any_at (pair_eq (f, s)) ps i (0, 0) at.0 (ap (pair_eq (f, s)) (sym at.1) ∙ same_pair (f, s)) in
    let have = positions_have f s ps [] ps 0 refl refl among in
    let fits = all_any (λ x. (x < length ps) × ((pair_at ps x).0 ≡ f)) (positions_of f ps) (positions_read f ps [] ps 0 refl refl) have.0 have.1 in
    let same : have.0 ≡ i = same_some have.0 i (sym (ap (λ p. position (pair_eq p) ps) (sym have.2) ∙ position_exact ps distinct have.0 fits.0) ∙ is) in
    subst (λ x. list_any (nat_eq x) (positions_of f ps) ≡ true) same have.1

-- the places of a package's own symbols, imports, uses and external symbols are within
pub all_places : (f : ℕ) (ps : List (ℕ × ℕ)) → AllByRecursion (λ x. x < length ps) (positions_of f ps)
all_places f ps = first_parts (positions_of f ps) (positions_read f ps [] ps 0 refl refl)
  where
    first_parts : (xs : List ℕ) → AllByRecursion (λ x. (x < length ps) × ((pair_at ps x).0 ≡ f)) xs → AllByRecursion (λ x. x < length ps) xs
    first_parts [] all = tt
    first_parts (x ∷ xs) all = (all.0.0, first_parts xs all.1)

pub place_fits : (f : ℕ) (ps : List (ℕ × ℕ)) (i : ℕ) → i < length (positions_of f ps) → get_or (positions_of f ps) i 0 < length ps
place_fits f ps i less = (all_at (λ x. (x < length ps) × ((pair_at ps x).0 ≡ f)) (positions_of f ps) (positions_read f ps [] ps 0 refl refl) i 0 less).0

pub shown_place_fits : (k : Kept) (q i : ℕ) → i < length (shown_positions k q) → nat_lt q 2 ≡ false → get_or (shown_positions k q) i 0 < length k.externals
shown_place_fits k q i =
    elim (nat_lt q 2) as (λ b. i < length (cond b (positions_of q k.symbols) (positions_of q k.externals)) → b ≡ false → get_or (cond b (positions_of q k.symbols) (positions_of q k.externals)) i 0 < length k.externals) [
      | true ↦ λ _ low. absurd (false≢true (sym low))
      | false ↦ λ less _. place_fits q k.externals i less
    ]

pub shown_symbol_fits : (k : Kept) → IsGood k → (q i : ℕ) → i < length (shown_positions k q) → shown_symbol k q (get_or (shown_positions k q) i 0) < length k.symbols
shown_symbol_fits k good q i =
    elim (nat_lt q 2) as (λ b. i < length (cond b (positions_of q k.symbols) (positions_of q k.externals)) → cond b (get_or (cond b (positions_of q k.symbols) (positions_of q k.externals)) i 0) (pair_at k.externals (get_or (cond b (positions_of q k.symbols) (positions_of q k.externals)) i 0)).1 < length k.symbols) [
      | true ↦ λ less. place_fits q k.symbols i less
      | false ↦ λ less. (all_at (λ (p : ℕ × ℕ). (p.0 < length k.packages) × (p.1 < length k.symbols)) k.externals good.within.externals (get_or (positions_of q k.externals) i 0) (0, 0) (place_fits q k.externals i less)).1
    ]

module _ (k : Kept) (good : IsGood k) (placed : HasFixedNumbers k) (sound : AreSoundPackages (numbered_of k).0) (Q : Name) (q : ℕ) (here : position (bytes_eq Q) k.packages ≡ Some q) where
  -- ---- a locked package
  lisp_home : (N h : Name) → IsPresent (numbered_of k).0 common_lisp N h → h ≡ common_lisp
  unfolding common_lisp_package
  lisp_home N h present = chosen (list_any (λ n. Rattle.std.specs.Ordering.eq_by_cmp name_cmp N n) common_lisp_names) (sym (ap (option_map (λ (e : Present). e.home)) (ap (option_and_then (λ (h : Package). finite.get h.symbols N)) sound.first.fixed ∙ symbol_first common_lisp common_lisp_names N)) ∙ present)
    where
      chosen : (b : Bool) → option_map (λ (e : Present). e.home) (cond b (Some (at_home common_lisp)) None) ≡ Some h → h ≡ common_lisp
      chosen true is = sym (same_some common_lisp h is)
      chosen false none = absurd (none_some h none)

  locked_home : is_locked Q ≡ true → (N h : Name) → IsPresent (numbered_of k).0 Q N h → h ≡ Q
  locked_home locked N h present =
      elim (bytes_eq Q common_lisp) as (λ b. bytes_eq Q common_lisp ≡ b → cond b true (bytes_eq Q keyword) ≡ true → h ≡ Q) [
        | true ↦ λ same _. let one = equal_names Q common_lisp same in lisp_home N h (subst (λ (x : Name). IsPresent (numbered_of k).0 x N h) one present) ∙ sym one
        | false ↦ λ _ same. let one = equal_names Q keyword same in sound.first.own N h (subst (λ (x : Name). IsPresent (numbered_of k).0 x N h) one present) ∙ sym one
      ] refl locked

  pub locked_own : nat_lt q 2 ≡ true → (j i : ℕ) → number_in k q j ≡ Some i → position (pair_eq (q, j)) k.symbols ≡ Some i
  locked_own low j i is =
      let at = known k good q j i is in
      let there = position_of k.names good.distinct.names j at.name in
      let home : home_in k i ≡ Q = locked_home (sym (locked_number k placed Q q here) ∙ low) (name_at k.names j) (home_in k i) (ap (option_map (λ (e : Present). e.home)) (entry_there k good Q q here (name_at k.names j) j there ∙ ap (option_map (present_in k q)) is)) in
      elim (position (pair_eq (q, j)) k.symbols) as (λ o. position (pair_eq (q, j)) k.symbols ≡ o → option_or o (import_of k q j) ≡ Some i → o ≡ Some i) [
        | Some x ↦ λ _ same. same
        | None ↦ λ none _. absurd (false≢true (sym (other_home k good Q (name_at k.names j) q j here there i none is) ∙ ap (λ (n : Name). bytes_eq n Q) home ∙ equal_itself Q))
      ] refl is

  -- ---- what is listed
  module _ (test : Present → Bool) (g : ℕ → ℕ) (xs : List ℕ) (distinct : IsDistinct nat_eq xs) (P : ℕ → Type 0) (all : AllByRecursion P xs)
      (inside : (x : ℕ) → P x → (number_in k q (pair_at k.symbols (g x)).1 ≡ Some (g x)) × (test (present_in k q (g x)) ≡ true))
      (covers : (j i : ℕ) → number_in k q j ≡ Some i → test (present_in k q i) ≡ true → (x : ℕ) × (list_any (nat_eq x) xs ≡ true) × (g x ≡ i))
      (apart : (x y : ℕ) → P x → P y → g x ≡ g y → x ≡ y) where
    name_of : ℕ → Name
    name_of x = symbol_name k (g x)

    fits : (x : ℕ) → P x → position (bytes_eq (symbol_name k (g x))) k.names ≡ Some (pair_at k.symbols (g x)).1
    fits x px = position_of k.names good.distinct.names (pair_at k.symbols (g x)).1 (known k good q (pair_at k.symbols (g x)).1 (g x) (inside x px).0).name

    injective : (x y : ℕ) → P x → P y → bytes_eq (symbol_name k (g x)) (symbol_name k (g y)) ≡ true → x ≡ y
    injective x y px py same =
        let name : (pair_at k.symbols (g x)).1 ≡ (pair_at k.symbols (g y)).1 =
        same_some (pair_at k.symbols (g x)).1 (pair_at k.symbols (g y)).1 (sym (fits x px) ∙ ap (λ n. position (bytes_eq n) k.names) (equal_names (symbol_name k (g x)) (symbol_name k (g y)) same) ∙ fits y py) in
        apart x y px py (same_some (g x) (g y) (sym (inside x px).0 ∙ ap (number_in k q) name ∙ (inside y py).0))

    symbols_at : (n : Name) (j : ℕ) → position (bytes_eq n) k.names ≡ Some j → finite.get (package_of_number k q).symbols n ≡ option_map (present_in k q) (number_in k q j)
    symbols_at n j is = got_at k.names good.distinct.names (λ j. option_map (present_in k q) (number_in k q j)) n j is

    listed_from : (n : Name) → list_any (λ x. bytes_eq n (symbol_name k (g x))) xs ≡ true → option_map_or test (finite.get (package_of_number k q).symbols n) false ≡ true
    listed_from n some =
        let at = any_in (λ x. bytes_eq n (symbol_name k (g x))) xs some in
        let px = all_any P xs all at.0 at.1 in
        let one : n ≡ symbol_name k (g at.0) = equal_names n (symbol_name k (g at.0)) at.2 in
        ap (λ o. option_map_or test o false) (
        symbols_at n (pair_at k.symbols (g at.0)).1 (ap (λ m. position (bytes_eq m) k.names) one ∙ fits at.0 px)
        ∙ ap (option_map (present_in k q)) (inside at.0 px).0)
        ∙ (inside at.0 px).1

    listed_to : (n : Name) → option_map_or test (finite.get (package_of_number k q).symbols n) false ≡ true → list_any (λ x. bytes_eq n (symbol_name k (g x))) xs ≡ true
    listed_to n some =
        elim (position (bytes_eq n) k.names) as (λ o. position (bytes_eq n) k.names ≡ o → list_any (λ x. bytes_eq n (symbol_name k (g x))) xs ≡ true) [
          | None ↦ λ none. absurd (false≢true (sym (ap (λ o. option_map_or test o false) (got_none k.names good.distinct.names (λ j. option_map (present_in k q) (number_in k q j)) n none)) ∙ some))
          | Some j ↦ λ is. numbered j is
        ] refl
      where
        numbered : (j : ℕ) → position (bytes_eq n) k.names ≡ Some j → list_any (λ x. bytes_eq n (symbol_name k (g x))) xs ≡ true
        numbered j is =
            elim (number_in k q j) as (λ o. number_in k q j ≡ o → option_map_or test (option_map (present_in k q) o) false ≡ true → list_any (λ x. bytes_eq n (symbol_name k (g x))) xs ≡ true) [
              | None ↦ λ _ none. absurd (false≢true none)
              | Some i ↦ λ at passes.
                  let x = covers j i at passes in
                  let name : n ≡ symbol_name k (g x.0) = (named n k.names j is).1 ∙ ap (name_at k.names) (sym (known k good q j i at).named_so) ∙ ap (symbol_name k) (sym x.2) in
                  any_of (λ x. bytes_eq n (symbol_name k (g x))) xs x.0 x.1 (ap (bytes_eq n) (sym name) ∙ equal_itself n)
            ] refl (sym (ap (λ o. option_map_or test o false) (symbols_at n j is)) ∙ some)

    pub listed : (result : List Name) → IsPermutation (map (λ x. symbol_name k (g x)) xs) result → IsSorted name_cmp result → result ≡ map (λ s. s.0) (filter (λ s. test s.1) (present_symbols (numbered_of k).0 Q))
    listed result moved sorted =
        sorted_is (map (λ x. symbol_name k (g x)) xs) result (map (λ s. s.0) (filter (λ s. test s.1) (finite.entries (package_of_number k q).symbols)))
        (distinct_mapped P (λ x. symbol_name k (g x)) injective xs distinct all) moved sorted (kept_rise (λ s. test s.1) (package_of_number k q).symbols)
        (λ n. any_mapped n (λ x. symbol_name k (g x)) xs ∙ both_ways _ _ (listed_from n) (listed_to n) ∙ sym (kept_among (λ s. test s.1) (package_of_number k q).symbols n))
        ∙ sym (ap (λ o. map (λ s. s.0) (filter (λ (s : Name × Present). test s.1) (option_map_or (λ (h : Package). finite.entries h.symbols) o []))) (package_at k good Q q here))

  -- x is the place of one of the pairs that begin with q
  abbrev IsOf : List (ℕ × ℕ) → ℕ → Type 0
  IsOf ps x = (x < length ps) × ((pair_at ps x).0 ≡ q)

  all_of : (ps : List (ℕ × ℕ)) → AllByRecursion (IsOf ps) (positions_of q ps)
  all_of ps = positions_read q ps [] ps 0 refl refl

  place : (ps : List (ℕ × ℕ)) → IsDistinct pair_eq ps → (x : ℕ) → IsOf ps x → position (pair_eq (q, (pair_at ps x).1)) ps ≡ Some x
  place ps distinct x at = ap (λ (p : ℕ). position (pair_eq (p, (pair_at ps x).1)) ps) (sym at.1) ∙ position_exact ps distinct x at.0

  number_own : (x : ℕ) → IsOf k.symbols x → number_in k q (pair_at k.symbols x).1 ≡ Some x
  number_own x at = ap (λ o. option_or o (import_of k q (pair_at k.symbols x).1)) (place k.symbols good.distinct.symbols x at)

  home_own : (x : ℕ) → IsOf k.symbols x → home_in k x ≡ Q
  home_own x at = ap (name_at k.packages) at.1 ∙ sym (named Q k.packages q here).1

  pub own_listed : (result : List Name) → IsPermutation (map (symbol_name k) (positions_of q k.symbols)) result → IsSorted name_cmp result → result ≡ own_names (numbered_of k).0 Q
  own_listed = listed (λ e. bytes_eq e.home Q) (λ x. x) (positions_of q k.symbols) (positions_apart q 0 k.symbols) (IsOf k.symbols) (all_of k.symbols)
      (λ x at. (number_own x at, ap (λ n. bytes_eq n Q) (home_own x at) ∙ equal_itself Q))
      (λ j i is same. (i, among_positions k.symbols good.distinct.symbols q j i (at_home_is j i is (equal_names (home_in k i) Q same)) (length k.packages) (length k.names) good.within.symbols, refl))
      (λ x y _ _ same. same)
    where
      at_home_is : (j i : ℕ) → number_in k q j ≡ Some i → home_in k i ≡ Q → position (pair_eq (q, j)) k.symbols ≡ Some i
      at_home_is j i is home =
          let at = known k good q j i is in
          let there = position_of k.names good.distinct.names j at.name in
          elim (position (pair_eq (q, j)) k.symbols) as (λ o. position (pair_eq (q, j)) k.symbols ≡ o → option_or o (import_of k q j) ≡ Some i → o ≡ Some i) [
            | Some x ↦ λ _ same. same
            | None ↦ λ none _. absurd (false≢true (sym (other_home k good Q (name_at k.names j) q j here there i none is) ∙ ap (λ (n : Name). bytes_eq n Q) home ∙ equal_itself Q))
          ] refl is

  -- ---- what is external
  shown_own : nat_lt q 2 ≡ true → (x : ℕ) → is_shown_in k q x ≡ true
  shown_own low x = ap (λ b. b || is_some (position (pair_eq (q, x)) k.externals)) low

  pub record Shows (xs : List ℕ) (g : ℕ → ℕ) : Type 0 where
    pub inside : (x : ℕ) → list_any (nat_eq x) xs ≡ true → (number_in k q (pair_at k.symbols (g x)).1 ≡ Some (g x)) × (is_shown_in k q (g x) ≡ true)
    pub covers : (j i : ℕ) → number_in k q j ≡ Some i → is_shown_in k q i ≡ true → (x : ℕ) × (list_any (nat_eq x) xs ≡ true) × (g x ≡ i)
    pub sorted : (result : List Name) → IsPermutation (map (λ x. symbol_name k (g x)) xs) result → IsSorted name_cmp result → result ≡ external_names (numbered_of k).0 Q

  shows_own : nat_lt q 2 ≡ true → Shows (positions_of q k.symbols) (λ x. x)
  shows_own low =
      let covered : (j i : ℕ) → number_in k q j ≡ Some i → is_shown_in k q i ≡ true → (x : ℕ) × (list_any (nat_eq x) (positions_of q k.symbols) ≡ true) × (x ≡ i) =
      λ j i is _. (i, among_positions k.symbols good.distinct.symbols q j i (locked_own low j i is) (length k.packages) (length k.names) good.within.symbols, refl) in
      record {
        inside = λ x among. let at = all_any (IsOf k.symbols) (positions_of q k.symbols) (all_of k.symbols) x among in (number_own x at, shown_own low x);
        covers = covered;
        sorted = listed (λ e. e.external) (λ x. x) (positions_of q k.symbols) (positions_apart q 0 k.symbols) (IsOf k.symbols) (all_of k.symbols)
            (λ x at. (number_own x at, shown_own low x)) covered (λ x y _ _ same. same);
      }

  shows_external : nat_lt q 2 ≡ false → Shows (positions_of q k.externals) (λ x. (pair_at k.externals x).1)
  shows_external high =
      let inside_one : (x : ℕ) → IsOf k.externals x → (number_in k q (pair_at k.symbols (pair_at k.externals x).1).1 ≡ Some (pair_at k.externals x).1) × (is_shown_in k q (pair_at k.externals x).1 ≡ true) =
      λ x at. (placed.shown q (pair_at k.externals x).1 x (place k.externals good.distinct.externals x at), or_right (nat_lt q 2) (is_some (position (pair_eq (q, (pair_at k.externals x).1)) k.externals)) (ap is_some (place k.externals good.distinct.externals x at))) in
      let covered : (j i : ℕ) → number_in k q j ≡ Some i → is_shown_in k q i ≡ true → (x : ℕ) × (list_any (nat_eq x) (positions_of q k.externals) ≡ true) × ((pair_at k.externals x).1 ≡ i) =
      λ j i is shown. (
      let at = external_at i (sym (ap (λ b. b || is_some (position (pair_eq (q, i)) k.externals)) high) ∙ shown) in
      let pair = pair_there (length k.packages) (length k.symbols) k.externals good.within.externals (q, i) at.0 at.1 in
      (at.0, among_positions k.externals good.distinct.externals q i at.0 at.1 (length k.packages) (length k.symbols) good.within.externals, ap (λ (p : ℕ × ℕ). p.1) (sym pair.1))
      ) in
      record {
        inside = λ x among. inside_one x (all_any (IsOf k.externals) (positions_of q k.externals) (all_of k.externals) x among);
        covers = covered;
        sorted = listed (λ e. e.external) (λ x. (pair_at k.externals x).1) (positions_of q k.externals) (positions_apart q 0 k.externals) (IsOf k.externals) (all_of k.externals)
            inside_one covered
            (λ x y at to same. same_some x y (sym (place k.externals good.distinct.externals x at) ∙ ap (λ (i : ℕ). position (pair_eq (q, i)) k.externals) same ∙ place k.externals good.distinct.externals y to));
      }
    where
      external_at : (i : ℕ) → (false || is_some (position (pair_eq (q, i)) k.externals)) ≡ true → (x : ℕ) × (position (pair_eq (q, i)) k.externals ≡ Some x)
      external_at i some =
          elim (position (pair_eq (q, i)) k.externals) as (λ o. is_some o ≡ true → (x : ℕ) × (o ≡ Some x)) [
            | None ↦ λ none. absurd (false≢true none)
            | Some x ↦ λ _. (x, refl)
          ] some

  pub shown_listed : Shows (shown_positions k q) (shown_symbol k q)
  shown_listed =
      elim (nat_lt q 2) as (λ b. nat_lt q 2 ≡ b → Shows (cond b (positions_of q k.symbols) (positions_of q k.externals)) (λ x. cond b x (pair_at k.externals x).1)) [
        | true ↦ shows_own
        | false ↦ shows_external
      ] refl

  -- ---- what is imported
  import_number : (x : ℕ) → IsOf k.imports x → number_in k q (pair_at k.imports x).1 ≡ Some (get_or k.imported x 0)
  import_number x at = (λ t. option_or (placed.apart q (pair_at k.imports x).1 x (place k.imports good.distinct.imports x at) t) (option_map (λ i. get_or k.imported i 0) (place k.imports good.distinct.imports x at t)))

  import_inside : (x : ℕ) → IsOf k.imports x → (number_in k q (pair_at k.symbols (get_or k.imported x 0)).1 ≡ Some (get_or k.imported x 0)) × (not (bytes_eq (home_in k (get_or k.imported x 0)) Q) ≡ true)
  import_inside x at =
      let number = import_number x at in
      let known_at = known k good q (pair_at k.imports x).1 (get_or k.imported x 0) number in
      let there = position_of k.names good.distinct.names (pair_at k.imports x).1 known_at.name in (
        ap (number_in k q) (good.named x at.0) ∙ number,
        ap not (other_home k good Q (name_at k.names (pair_at k.imports x).1) q (pair_at k.imports x).1 here there (get_or k.imported x 0) (placed.apart q (pair_at k.imports x).1 x (place k.imports good.distinct.imports x at)) number),
      )

  import_covers : (j i : ℕ) → number_in k q j ≡ Some i → not (bytes_eq (home_in k i) Q) ≡ true → (x : ℕ) × (list_any (nat_eq x) (positions_of q k.imports) ≡ true) × (get_or k.imported x 0 ≡ i)
  import_covers j i is elsewhere =
      let at = known k good q j i is in
      let there = position_of k.names good.distinct.names j at.name in
      elim (position (pair_eq (q, j)) k.symbols) as (λ o. position (pair_eq (q, j)) k.symbols ≡ o → option_or o (import_of k q j) ≡ Some i → (x : ℕ) × (list_any (nat_eq x) (positions_of q k.imports) ≡ true) × (get_or k.imported x 0 ≡ i)) [
        | Some x ↦ λ own same. absurd (false≢true (sym (ap not (ap (λ n. bytes_eq n Q) (own_home k good Q (name_at k.names j) q j here there i (own ∙ same)) ∙ equal_itself Q)) ∙ elsewhere))
        | None ↦ λ _ imported.
            elim (position (pair_eq (q, j)) k.imports) as (λ o. position (pair_eq (q, j)) k.imports ≡ o → option_map (λ x. get_or k.imported x 0) o ≡ Some i → (x : ℕ) × (list_any (nat_eq x) (positions_of q k.imports) ≡ true) × (get_or k.imported x 0 ≡ i)) [
              | None ↦ λ _ none. absurd (none_some i none)
              | Some x ↦ λ seen same. (x, among_positions k.imports good.distinct.imports q j x seen (length k.packages) (length k.names) good.within.imports, same_some (get_or k.imported x 0) i same)
            ] refl imported
      ] refl is

  pub imported_listed : (result : List Name) → IsPermutation (map (λ x. symbol_name k (get_or k.imported x 0)) (positions_of q k.imports)) result → IsSorted name_cmp result
      → result ≡ map (λ s. s.0) (filter (λ s. not (bytes_eq s.1.home Q)) (present_symbols (numbered_of k).0 Q))
  imported_listed = listed (λ e. not (bytes_eq e.home Q)) (λ x. get_or k.imported x 0) (positions_of q k.imports) (positions_apart q 0 k.imports) (IsOf k.imports) (all_of k.imports)
      import_inside import_covers
      (λ x y at to same.
      let name : (pair_at k.imports x).1 ≡ (pair_at k.imports y).1 = sym (good.named x at.0) ∙ ap (λ (i : ℕ). (pair_at k.symbols i).1) same ∙ good.named y to.0 in
      same_some x y (sym (place k.imports good.distinct.imports x at) ∙ ap (λ (j : ℕ). position (pair_eq (q, j)) k.imports) name ∙ place k.imports good.distinct.imports y to))

  -- ---- what is used
  used_position : (x : ℕ) → IsOf k.uses x → position (bytes_eq (name_at k.packages (pair_at k.uses x).1)) k.packages ≡ Some (pair_at k.uses x).1
  used_position x at = position_of k.packages good.distinct.packages (pair_at k.uses x).1 (all_at (λ (u : ℕ × ℕ). (u.0 < length k.packages) × (u.1 < length k.packages)) k.uses good.within.uses x (0, 0) at.0).1

  pub used_listed : (result : List Name) → IsPermutation (map (λ x. name_at k.packages (pair_at k.uses x).1) (positions_of q k.uses)) result → IsSorted name_cmp result → result ≡ used_names (numbered_of k).0 Q
  used_listed result moved sorted =
      sorted_is (map (λ x. name_at k.packages (pair_at k.uses x).1) (positions_of q k.uses)) result (finite.keys (package_of_number k q).uses)
      (distinct_mapped (IsOf k.uses) (λ x. name_at k.packages (pair_at k.uses x).1)
      (λ x y at to same.
      let one : (pair_at k.uses x).1 ≡ (pair_at k.uses y).1 = same_some (pair_at k.uses x).1 (pair_at k.uses y).1 (sym (used_position x at) ∙ ap (λ n. position (bytes_eq n) k.packages) (equal_names (name_at k.packages (pair_at k.uses x).1) (name_at k.packages (pair_at k.uses y).1) same) ∙ used_position y to) in
      same_some x y (sym (place k.uses good.distinct.uses x at) ∙ ap (λ (r : ℕ). position (pair_eq (q, r)) k.uses) one ∙ place k.uses good.distinct.uses y to))
      (positions_of q k.uses) (positions_apart q 0 k.uses) (all_of k.uses))
      moved sorted (keys_rise (package_of_number k q).uses)
      (λ n. any_mapped n (λ x. name_at k.packages (pair_at k.uses x).1) (positions_of q k.uses) ∙ both_ways _ _ (used_from n) (used_to n) ∙ sym (keys_among (package_of_number k q).uses n))
      ∙ sym (ap (λ o. option_map_or (λ (h : Package). finite.keys h.uses) o []) (package_at k good Q q here))
    where
      used_from : (n : Name) → list_any (λ x. bytes_eq n (name_at k.packages (pair_at k.uses x).1)) (positions_of q k.uses) ≡ true → finite.contains_key (package_of_number k q).uses n ≡ true
      used_from n some =
          let at = any_in (λ x. bytes_eq n (name_at k.packages (pair_at k.uses x).1)) (positions_of q k.uses) some in
          let here_x = all_any (IsOf k.uses) (positions_of q k.uses) (all_of k.uses) at.0 at.1 in
          let there : position (bytes_eq n) k.packages ≡ Some (pair_at k.uses at.0).1 = ap (λ m. position (bytes_eq m) k.packages) (equal_names n (name_at k.packages (pair_at k.uses at.0).1) at.2) ∙ used_position at.0 here_x in
          ap is_some (uses_there k good Q q (pair_at k.uses at.0).1 n there ∙ ap (option_map (λ _. tt {0})) (place k.uses good.distinct.uses at.0 here_x))

      used_to : (n : Name) → finite.contains_key (package_of_number k q).uses n ≡ true → list_any (λ x. bytes_eq n (name_at k.packages (pair_at k.uses x).1)) (positions_of q k.uses) ≡ true
      used_to n some =
          elim (position (bytes_eq n) k.packages) as (λ o. position (bytes_eq n) k.packages ≡ o → list_any (λ x. bytes_eq n (name_at k.packages (pair_at k.uses x).1)) (positions_of q k.uses) ≡ true) [
            | None ↦ λ none. absurd (false≢true (sym (ap is_some (uses_none k good Q q n none)) ∙ some))
            | Some r ↦ λ there.
                elim (position (pair_eq (q, r)) k.uses) as (λ o. position (pair_eq (q, r)) k.uses ≡ o → is_some (option_map (λ _. tt {0}) o) ≡ true → list_any (λ x. bytes_eq n (name_at k.packages (pair_at k.uses x).1)) (positions_of q k.uses) ≡ true) [
                  | None ↦ λ _ none. absurd (false≢true none)
                  | Some x ↦ λ is _.
                      let pair = pair_there (length k.packages) (length k.packages) k.uses good.within.uses (q, r) x is in
                      any_of (λ x. bytes_eq n (name_at k.packages (pair_at k.uses x).1)) (positions_of q k.uses) x
                      (among_positions k.uses good.distinct.uses q r x is (length k.packages) (length k.packages) good.within.uses)
                      (ap (λ (p : ℕ × ℕ). bytes_eq n (name_at k.packages p.1)) (sym pair.1) ∙ ap (bytes_eq n) (sym (named n k.packages r there).1) ∙ equal_itself n)
                ] refl (sym (ap is_some (uses_there k good Q q r n there)) ∙ some)
          ] refl

-- the packages
pub packages_listed : (k : Kept) → IsGood k → (result : List Name) → IsPermutation k.packages result → IsSorted name_cmp result → result ≡ finite.keys (numbered_of k).0
packages_listed k good result moved sorted =
    sorted_is k.packages result (finite.keys (numbered_of k).0) good.distinct.packages moved sorted (keys_rise (numbered_of k).0)
    (λ n. position_any n ∙ Rattle.package_table.proofs.ByName.package_some k good n ∙ sym (keys_among (numbered_of k).0 n))
  where
    position_any : (n : Name) → list_any (bytes_eq n) k.packages ≡ is_some (position (bytes_eq n) k.packages)
    position_any n =
        elim (list_any (bytes_eq n) k.packages) as (λ b. list_any (bytes_eq n) k.packages ≡ b → b ≡ is_some (position (bytes_eq n) k.packages)) [
          | true ↦ λ some. sym (ap is_some (any_some (bytes_eq n) k.packages some))
          | false ↦ λ none. sym (ap is_some (any_none (bytes_eq n) k.packages none))
        ] refl

-- ---- imported names with their homes

pairs_read : (test : Name × Present → Bool) (get : Name → Option Present) (es : List (Name × Present)) → T (is_sorted name_cmp es) → ((n : Name) (e : Present) → find name_cmp n es ≡ Some e → get n ≡ Some e)
    → map {B = Name × Name} (λ s. (s.0, s.1.home)) (filter test es) ≡ map {B = Name × Name} (λ n. (n, option_map_or (λ e. e.home) (get n) [])) (map (λ s. s.0) (filter test es))
pairs_read test get [] sorted finds = refl
pairs_read test get (e ∷ es) sorted finds =
    let rest = pairs_read test get es (second_of_both _ _ sorted) (λ n x there. finds n x (found_past e es (first_of_both _ _ sorted) n x there)) in
    let here : get e.0 ≡ Some e.1 = finds e.0 e.1 (ap (λ b. cond b (Some e.1) (find name_cmp e.0 es)) (same_tied e.0)) in
    elim (test e) as (λ b. map {B = Name × Name} (λ s. (s.0, s.1.home)) (cond b (e ∷ filter test es) (filter test es)) ≡ map {B = Name × Name} (λ n. (n, option_map_or (λ e. e.home) (get n) [])) (map (λ s. s.0) (cond b (e ∷ filter test es) (filter test es)))) [
      | true ↦ λ i. (e.0, option_map_or (λ (e : Present). e.home) (sym here i) []) ∷ rest i
      | false ↦ rest
    ]

pub imported_pairs : (t : Table) (p : Name) → imports t p ≡ map {B = Name × Name} (λ n. (n, option_map_or (λ e. e.home) (entry_at t p n) [])) (map (λ s. s.0) (filter (λ s. not (bytes_eq s.1.home p)) (present_symbols t p)))
imported_pairs t p =
    elim (finite.get t p) as (λ o. map {B = Name × Name} (λ (s : Name × Present). (s.0, s.1.home)) (filter (λ s. not (bytes_eq s.1.home p)) (option_map_or (λ (h : Package). finite.entries h.symbols) o []))
    ≡ map {B = Name × Name} (λ n. (n, option_map_or (λ (e : Present). e.home) (option_and_then (λ (h : Package). finite.get h.symbols n) o) [])) (map (λ (s : Name × Present). s.0) (filter (λ s. not (bytes_eq s.1.home p)) (option_map_or (λ (h : Package). finite.entries h.symbols) o [])))) [
      | None ↦ refl
      | Some h ↦ pairs_read (λ s. not (bytes_eq s.1.home p)) (finite.get h.symbols) (finite.entries h.symbols) (finite.entries_sorted h.symbols) (λ n e is. finite.get-entries h.symbols n ∙ is)
    ]
