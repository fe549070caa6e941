-- What is added to the kept lists leaves the rest as it was.
--     package_adds, symbol_adds, import_adds, external_adds, use_adds      each thing that is added
--     adds_same, adds_both      nothing, and two in a row
--     locked_number, number_of_keyword      the numbers of the packages that are locked
--     symbol_made, imported, exported      the packages by names after it
use Rattle.std.proofs.Common.{◌≡◌, ◌≢◌, ◌⊎◌, ◌<◌, ◌≤◌, ℕ, Bool, true, false, cond, ◌||◌, nat_eq, nat_lt, is_some, List, [], ◌∷◌, ◌++◌, length, get_or, position, None, Some, bytes_eq, refl, sym, ap, subst, ◌∙◌, inl, inr, arith}
use Rattle.std.proofs.lemmas.Bool.{false≢true}
use Rattle.std.proofs.lemmas.Bool.Decides.{Decides-eqb}
use Rattle.std.proofs.lemmas.List.{get_or_append_left, length_push}
use Rattle.std.specs.Option.{option_or}
use Rattle.std.specs.List.{list_any, IsDistinct}
use Rattle.package_sets.specs.declared.sizes.Sizes.{Sizes}
use Rattle.package_sets.specs.KeptSets.{Kept, cut, import_of, name_at, pair_at, pair_eq, sizes_of, AreUpTo}
use Rattle.package_sets.specs.Consistent.{IsGood}
use Rattle.package_sets.specs.Changes.{with_external_number, with_import, with_name, with_package, with_symbol, with_use, symbol_named, number_among as name_number}
use Rattle.package_table.specs.Table.{Name, common_lisp, keyword, is_locked}
use Rattle.package_table.specs.Numbers.{Numbered, with_numbered}
use Rattle.package_table.specs.Meaning.{number_in, is_shown_in, numbered_of}
use Rattle.package_table.specs.Adds.{HasFixedNumbers, Adds}
use Rattle.package_sets.proofs.Cut.{cut_itself, up_to_itself, cut_package, cut_symbol, cut_import, cut_external, cut_use, up_to_package, up_to_symbol, up_to_import, up_to_external, up_to_use}
use Rattle.package_sets.proofs.Places.{any_some, any_none, none_is_length}
use Rattle.package_table.proofs.Names.{same_some, none_some}
use Rattle.package_table.proofs.Frames.{equal_names, equal_itself}
use Rattle.package_table.proofs.Mapped.{position_push, named, distinct_push}
use Rattle.package_table.proofs.Meant.{known, one_pair, same_pair, other_pair, pair_there}
use Rattle.package_table.proofs.Added.{name_added, symbol_added, import_stays_number, no_number, other_push, parts_none, map_none}

-- ---- positions in a longer list
stays_push : {X : Type 0} (test : X → Bool) (xs : List X) (y : X) (i : ℕ) → position test xs ≡ Some i → position test (xs ++ y ∷ []) ≡ Some i
stays_push test xs y i is = position_push test xs y ∙ ap (λ o. option_or o (cond (test y) (Some (length xs)) None)) is

longer : {X : Type 0} (xs : List X) (y : X) (n : ℕ) → n ≤ length xs → n ≤ length (xs ++ y ∷ [])
longer xs y n less = let size = length_push xs y in omega (arith, less, size)

-- ---- each thing that is added
pub adds_same : (k : Kept) → IsGood k → Adds k k
adds_same k good = record {
  good = good;
  packages = λ P p is. is;
  names = λ N j is. is;
  numbers = λ p j i is. is;
  placed = λ placed. placed;
  fits = λ n fits. fits;
  cuts = λ n _. refl;
}

-- what was there before is had again
pub cut_back : (k u : Kept) → IsGood k → Adds k u → cut (sizes_of k) u ≡ k
cut_back k u good adds = adds.cuts (sizes_of k) (up_to_itself (sizes_of k)) ∙ cut_itself k good.as_many

pub adds_both : (k u v : Kept) → Adds k u → Adds u v → Adds k v
adds_both k u v one two = record {
  good = two.good;
  packages = λ P p is. two.packages P p (one.packages P p is);
  names = λ N j is. two.names N j (one.names N j is);
  numbers = λ p j i is. two.numbers p j i (one.numbers p j i is);
  placed = λ placed. two.placed (one.placed placed);
  fits = λ n fits. two.fits n (one.fits n fits);
  cuts = λ n fits. two.cuts n (one.fits n fits) ∙ one.cuts n fits;
}

pub package_adds : (k : Kept) (P : Name) → IsGood (with_package k P) → Adds k (with_package k P)
package_adds k P good = record {
  good = good;
  packages = λ Q q is. stays_push (bytes_eq Q) k.packages P q is;
  names = λ N j is. is;
  numbers = λ p j i is. is;
  placed = λ placed. record {
    lisp_first = stays_push (bytes_eq common_lisp) k.packages P 0 placed.lisp_first;
    keyword_second = stays_push (bytes_eq keyword) k.packages P 1 placed.keyword_second;
    shown = placed.shown;
    apart = placed.apart;
  };
  fits = λ n fits. up_to_package n k fits P;
  cuts = λ n fits. cut_package n k fits P;
}

-- a package and a name are these or others
place_of : (q m p j : ℕ) → ((q ≡ p) × (m ≡ j)) ⊎ ((q ≢ p) ⊎ (m ≢ j))
place_of q m p j =
    elim (pair_eq (q, m) (p, j)) as (λ b. pair_eq (q, m) (p, j) ≡ b → ((q ≡ p) × (m ≡ j)) ⊎ ((q ≢ p) ⊎ (m ≢ j))) [
      | true ↦ λ is. let one = one_pair (q, m) (p, j) is in inl (ap (λ (a : ℕ × ℕ). a.0) one, ap (λ (a : ℕ × ℕ). a.1) one)
      | false ↦ λ differ.
          elim (nat_eq q p) as (λ b. nat_eq q p ≡ b → ((q ≡ p) × (m ≡ j)) ⊎ ((q ≢ p) ⊎ (m ≢ j))) [
            | true ↦ λ same. inr (inr (λ (alike : m ≡ j). false≢true (sym differ ∙ (λ i. pair_eq ((Decides-eqb q p).0 same i, alike i) (p, j)) ∙ same_pair (p, j))))
            | false ↦ λ apart. inr (inl (λ (same : q ≡ p). false≢true (sym apart ∙ (Decides-eqb q p).1 same)))
          ] refl
    ] refl

-- where a package has nothing by a name, it imports nothing by it
pub imports_none : (k : Kept) (p j : ℕ) → number_in k p j ≡ None → position (pair_eq (p, j)) k.imports ≡ None
imports_none k p j none =
    map_none (λ i. get_or k.imported i 0) (position (pair_eq (p, j)) k.imports) (parts_none (position (pair_eq (p, j)) k.symbols) (import_of k p j) none).1

-- a number more, at a place that had none
module _ (k u : Kept) (p j : ℕ) (none : number_in k p j ≡ None) (stays : (q m : ℕ) → (q ≢ p) ⊎ (m ≢ j) → number_in u q m ≡ number_in k q m) where
  numbers_kept : (q m x : ℕ) → number_in k q m ≡ Some x → number_in u q m ≡ Some x
  numbers_kept q m x is =
      elim (place_of q m p j) [
        | inl (same, alike) ↦ absurd (none_some x (sym none ∙ (λ t. number_in k (sym same t) (sym alike t)) ∙ is))
        | inr apart ↦ stays q m apart ∙ is
      ]

-- ---- a symbol, and its name where that is new
module _ (k : Kept) (good : IsGood k) (p : ℕ) (N : Name) (none : symbol_named k p N ≡ None) (no_import : (j : ℕ) → position (bytes_eq N) k.names ≡ Some j → number_in k p j ≡ None) where
  abbrev j : ℕ
  j = name_number k.names N

  -- what is known of the name's number
  pub record IsNameOf (ns : List Name) : Type 0 where
    pub distinct : IsDistinct bytes_eq ns
    pub there : position (bytes_eq N) ns ≡ Some (name_number k.names N)
    pub unused : number_in k p (name_number k.names N) ≡ None
    pub kept : (M : Name) (m : ℕ) → position (bytes_eq M) k.names ≡ Some m → position (bytes_eq M) ns ≡ Some m
    pub meaning : numbered_of (record k { names = ns }) ≡ numbered_of k

  pub name_of : IsNameOf (with_name k.names N)
  name_of =
      elim (list_any (bytes_eq N) k.names) as (λ b. list_any (bytes_eq N) k.names ≡ b → IsNameOf (cond b k.names (k.names ++ N ∷ []))) [
        | true ↦ λ some.
            let there = any_some (bytes_eq N) k.names some in
            record { distinct = good.distinct.names; there = there; unused = no_import (name_number k.names N) there; kept = λ M m is. is; meaning = refl }
        | false ↦ λ absent.
            let new = any_none (bytes_eq N) k.names absent in
            let last = none_is_length (bytes_eq N) k.names absent in
            record {
              distinct = distinct_push k.names good.distinct.names N new;
              there = position_push (bytes_eq N) k.names N ∙ (λ i. option_or (new i) (cond (equal_itself N i) (Some (length k.names)) None)) ∙ ap Some (sym last);
              unused = ap (number_in k p) last ∙ no_number k good N new p;
              kept = λ M m is. stays_push (bytes_eq M) k.names N m is;
              meaning = name_added k good N new;
            }
      ] refl

  -- what is kept after it
  module _ (ns : List Name) (is : IsNameOf ns) where
    abbrev then : Kept
    then = record k { names = ns; symbols = k.symbols ++ (p, name_number k.names N) ∷ [] }

    numbers_same : (q m : ℕ) → (q ≢ p) ⊎ (m ≢ name_number k.names N) → number_in (record k { names = ns; symbols = k.symbols ++ (p, name_number k.names N) ∷ [] }) q m ≡ number_in k q m
    numbers_same q m apart = ap (λ o. option_or o (import_of k q m)) (other_push k.symbols (q, m) (p, name_number k.names N) (other_pair (q, m) (p, name_number k.names N) apart))

    numbers_stay_kept : (q m i : ℕ) → number_in k q m ≡ Some i → number_in (record k { names = ns; symbols = k.symbols ++ (p, name_number k.names N) ∷ [] }) q m ≡ Some i
    numbers_stay_kept = numbers_kept k then p (name_number k.names N) is.unused numbers_same

    pub adds_symbol : IsGood then → ((n : Sizes) → AreUpTo n (sizes_of k) → AreUpTo n (sizes_of then)) → ((n : Sizes) → AreUpTo n (sizes_of k) → cut n then ≡ cut n k) → Adds k then
    adds_symbol good_then fits cuts = record {
      good = good_then;
      packages = λ Q q seen. seen;
      names = is.kept;
      numbers = numbers_stay_kept;
      placed = λ placed. record {
        lisp_first = placed.lisp_first;
        keyword_second = placed.keyword_second;
        shown = λ q i x at.
            let fits : i < length k.symbols = (pair_there (length k.packages) (length k.symbols) k.externals good.within.externals (q, i) x at).3 in
            ap (λ (s : ℕ × ℕ). number_in then q s.1) (get_or_append_left k.symbols ((p, name_number k.names N) ∷ []) (0, 0) i fits)
            ∙ numbers_stay_kept q (pair_at k.symbols i).1 i (placed.shown q i x at);
        apart = λ q m x at.
            elim (place_of q m p (name_number k.names N)) [
              | inl (same, alike) ↦ absurd (none_some x (sym (imports_none k p (name_number k.names N) is.unused) ∙ (λ t. position (pair_eq (sym same t, sym alike t)) k.imports) ∙ at))
              | inr apart ↦ other_push k.symbols (q, m) (p, name_number k.names N) (other_pair (q, m) (p, name_number k.names N) apart) ∙ placed.apart q m x at
            ];
      };
      fits = fits;
      cuts = cuts;
    }

  pub symbol_adds : IsGood (with_symbol k p N) → Adds k (with_symbol k p N)
  symbol_adds good_then = adds_symbol (with_name k.names N) name_of good_then (λ n fits. up_to_symbol n k fits p N) (λ n fits. cut_symbol n k fits p N)

  pub symbol_made : (P : Name) → position (bytes_eq P) k.packages ≡ Some p → numbered_of (with_symbol k p N) ≡ with_numbered (numbered_of k) P N (record { home = P; external = nat_lt p 2 }) (length k.symbols)
  symbol_made P here =
      symbol_added k good (with_name k.names N) name_of.distinct P N p (name_number k.names N) here name_of.there name_of.unused
      ∙ ap (λ (s : Numbered). with_numbered s P N (record { home = P; external = nat_lt p 2 }) (length k.symbols)) name_of.meaning

-- ---- an import
module _ (k : Kept) (good : IsGood k) (p i : ℕ) (none : number_in k p (pair_at k.symbols i).1 ≡ None) where
  import_kept : (q m x : ℕ) → number_in k q m ≡ Some x → number_in (with_import k p i) q m ≡ Some x
  import_kept = numbers_kept k (with_import k p i) p (pair_at k.symbols i).1 none (import_stays_number k good p i)

  pub import_adds : IsGood (with_import k p i) → Adds k (with_import k p i)
  import_adds good_then = record {
    good = good_then;
    packages = λ Q q seen. seen;
    names = λ M m seen. seen;
    numbers = import_kept;
    placed = λ placed. record {
      lisp_first = placed.lisp_first;
      keyword_second = placed.keyword_second;
      shown = λ q x y at. import_kept q (pair_at k.symbols x).1 x (placed.shown q x y at);
      apart = λ q m x at.
          elim (place_of q m p (pair_at k.symbols i).1) [
            | inl (same, alike) ↦ (λ t. position (pair_eq (same t, alike t)) k.symbols) ∙ (parts_none (position (pair_eq (p, (pair_at k.symbols i).1)) k.symbols) (import_of k p (pair_at k.symbols i).1) none).0
            | inr apart ↦ placed.apart q m x (sym (other_push k.imports (q, m) (p, (pair_at k.symbols i).1) (other_pair (q, m) (p, (pair_at k.symbols i).1) apart)) ∙ at)
          ];
    };
    fits = λ n fits. up_to_import n k fits p i;
    cuts = λ n fits. cut_import n k fits good.as_many p i;
  }

-- ---- what becomes external
module _ (k : Kept) (good : IsGood k) (p j i : ℕ) (is : number_in k p j ≡ Some i) where
  pub external_adds : IsGood (with_external_number k p i) → Adds k (with_external_number k p i)
  external_adds good_then = record {
    good = good_then;
    packages = λ Q q seen. seen;
    names = λ M m seen. seen;
    numbers = λ q m x seen. seen;
    placed = λ placed. record {
      lisp_first = placed.lisp_first;
      keyword_second = placed.keyword_second;
      shown = λ q x y at.
          elim (pair_eq (q, x) (p, i)) as (λ b. pair_eq (q, x) (p, i) ≡ b → number_in k q (pair_at k.symbols x).1 ≡ Some x) [
            | true ↦ λ same.
                let one = one_pair (q, x) (p, i) same in
                subst (λ (a : ℕ × ℕ). number_in k a.0 (pair_at k.symbols a.1).1 ≡ Some a.1) (sym one) (ap (number_in k p) (known k good p j i is).named_so ∙ is)
            | false ↦ λ differ. placed.shown q x y (sym (other_push k.externals (q, x) (p, i) differ) ∙ at)
          ] refl;
      apart = placed.apart;
    };
    fits = λ n fits. up_to_external n k fits p i;
    cuts = λ n fits. cut_external n k fits p i;
  }

pub use_adds : (k : Kept) (p q : ℕ) → IsGood (with_use k p q) → Adds k (with_use k p q)
use_adds k p q good = record {
  good = good;
  packages = λ Q q seen. seen;
  names = λ M m seen. seen;
  numbers = λ q m x seen. seen;
  placed = λ placed. record { lisp_first = placed.lisp_first; keyword_second = placed.keyword_second; shown = placed.shown; apart = placed.apart };
  fits = λ n fits. up_to_use n k fits p q;
  cuts = λ n fits. cut_use n k fits p q;
}

-- ---- the packages that are locked
module _ (k : Kept) (placed : HasFixedNumbers k) (P : Name) (p : ℕ) (here : position (bytes_eq P) k.packages ≡ Some p) where
  is_at : (Q : Name) (q : ℕ) → position (bytes_eq Q) k.packages ≡ Some q → bytes_eq P Q ≡ true → p ≡ q
  is_at Q q there same = same_some p q (sym here ∙ ap (λ R. position (bytes_eq R) k.packages) (equal_names P Q same) ∙ there)

  not_at : (Q : Name) (q : ℕ) → position (bytes_eq Q) k.packages ≡ Some q → bytes_eq P Q ≡ false → p ≢ q
  not_at Q q there differ = λ (same : p ≡ q). false≢true (sym differ ∙ ap (λ R. bytes_eq R Q) ((named P k.packages p here).1 ∙ ap (name_at k.packages) same ∙ sym (named Q k.packages q there).1) ∙ equal_itself Q)

  -- COMMON-LISP or KEYWORD
  pub locked_number : nat_lt p 2 ≡ is_locked P
  locked_number =
      elim (bytes_eq P common_lisp) as (λ b. bytes_eq P common_lisp ≡ b → nat_lt p 2 ≡ cond b true (bytes_eq P keyword)) [
        | true ↦ λ same. ap (λ n. nat_lt n 2) (is_at common_lisp 0 placed.lisp_first same)
        | false ↦ λ differ.
            elim (bytes_eq P keyword) as (λ b. bytes_eq P keyword ≡ b → nat_lt p 2 ≡ b) [
              | true ↦ λ same. ap (λ n. nat_lt n 2) (is_at keyword 1 placed.keyword_second same)
              | false ↦ λ differs.
                  let no_first : p ≢ 0 = not_at common_lisp 0 placed.lisp_first differ in
                  let no_second : p ≢ 1 = not_at keyword 1 placed.keyword_second differs in
                  let past : 2 ≤ p = omega (arith, no_first, no_second) in
                  grind arith
            ] refl
      ] refl

  pub keyword_number : bytes_eq P common_lisp ≡ false → nat_lt p 2 ≡ bytes_eq P keyword
  keyword_number differ = locked_number ∙ ap (λ b. cond b true (bytes_eq P keyword)) differ

-- what is not external is not shown
pub hidden_new : (k : Kept) → HasFixedNumbers k → (p i : ℕ) → nat_lt p 2 ≡ false → number_in k p (pair_at k.symbols i).1 ≡ None → is_shown_in k p i ≡ false
hidden_new k placed p i open_to none =
    elim (position (pair_eq (p, i)) k.externals) as (λ o. position (pair_eq (p, i)) k.externals ≡ o → (nat_lt p 2 || is_some o) ≡ false) [
      | None ↦ λ _. ap (λ b. b || false) open_to
      | Some x ↦ λ at. absurd (none_some i (sym none ∙ placed.shown p i x at))
    ] refl
