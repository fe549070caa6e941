-- What is kept stays good where something is added.
use Rattle.std.proofs.Common.{◌≡◌, ◌+◌, ◌<◌, ◌≤◌, ◌&&◌, ◌||◌, ℕ, Bool, true, false, cond, nat_eq, nat_lt, List, [], ◌∷◌, ◌++◌, length, take, get_or, position, None, refl, sym, ap, subst, ◌∙◌, arith}
use Rattle.std.specs.Prelude.{bytes_eq, option_and_then}
use Rattle.std.specs.List.{IsDistinct, list_any}
use Rattle.std.specs.Cmp.{IsEquivalence, and_equiv, on_equiv, nat_eq_equiv}
use Rattle.std.specs.Cmp.Lexicographic.{nat_list_eq_equiv}
use Rattle.std.proofs.lemmas.List.{length_push, get_or_append_left, get_or_push, take_all}
use Rattle.std.proofs.Math.Seq.{take-append_seam}
use Rattle.std.proofs.lemmas.Map.Keys.{IsDistinct-push}
use Rattle.package_sets.specs.KeptSets.{Kept, Name, nothing, pair_at, pair_eq}
use Rattle.package_sets.specs.Consistent.{AreDistinctNames, AreDistinctPairs, AreWithin, IsGood, IsImportedByName}
use Rattle.package_sets.specs.Changes.{with_name, number_among, symbol_named, with_package, with_symbol, with_import, with_external_number, with_use}
use Rattle.package_sets.proofs.Places.{none_any, any_none, any_some, any_is_within, none_is_length, all_at, all_push, all_weaker}

pub pair_equiv : IsEquivalence pair_eq
pair_equiv = and_equiv (on_equiv (λ (p : ℕ × ℕ). p.0) nat_eq_equiv) (on_equiv (λ (p : ℕ × ℕ). p.1) nat_eq_equiv)

pub good_nothing : IsGood nothing
unfolding IsDistinct
good_nothing = record {
  distinct = record { names = tt; packages = tt; symbols = tt; imports = tt; externals = tt; uses = tt };
  within = record { symbols = tt; imports = tt; imported = tt; externals = tt; uses = tt };
  as_many = refl;
  named = λ i within. absurd (omega (arith, within));
  apart = tt;
  few_names = omega arith;
}

pub names_push : (ns : List Name) (n : Name) → AreDistinctNames ns → position (bytes_eq n) ns ≡ None → AreDistinctNames (ns ++ n ∷ [])
names_push ns n distinct none = IsDistinct-push nat_list_eq_equiv ns n distinct (none_any (bytes_eq n) ns none)

pub pairs_push : (ps : List (ℕ × ℕ)) (p : ℕ × ℕ) → AreDistinctPairs ps → position (pair_eq p) ps ≡ None → AreDistinctPairs (ps ++ p ∷ [])
pairs_push ps p distinct none = IsDistinct-push pair_equiv ps p distinct (none_any (pair_eq p) ps none)

pub wider : (n m a b : ℕ) (ps : List (ℕ × ℕ)) → n ≤ a → m ≤ b → AreWithin n m ps → AreWithin a b ps
wider n m a b ps first second all =
    all_weaker (λ p. (p.0 < n) × (p.1 < m)) (λ p. (p.0 < a) × (p.1 < b)) (λ p h. (omega (arith, h.0, first), omega (arith, h.1, second))) ps all

-- a pair whose second number none has is not there
pub none_has : (n m a : ℕ) (ps : List (ℕ × ℕ)) → AreWithin n m ps → list_any (pair_eq (a, m)) ps ≡ false
none_has n m a [] all = refl
none_has n m a (p ∷ ps) all =
    let below : p.1 < m = all.0.1 in
    let differs : nat_eq m p.1 ≡ false = grind arith in
    ap (λ b. (nat_eq a p.0 && b) || list_any (pair_eq (a, m)) ps) differs
    ∙ ap (λ b. b || list_any (pair_eq (a, m)) ps) (and_false (nat_eq a p.0))
    ∙ none_has n m a ps all.1
  where
    and_false : (b : Bool) → (b && false) ≡ false
    and_false true = refl
    and_false false = refl

-- what a name that is added, or is there, makes of the names
pub record Named (ns : List Name) (n : Name) : Type 0 where
  pub distinct : AreDistinctNames (with_name ns n)
  pub longer : length ns ≤ length (with_name ns n)
  pub by_one : length (with_name ns n) ≤ length ns + 1
  pub there : number_among ns n < length (with_name ns n)
  pub back : take (length ns) (with_name ns n) ≡ ns

pub named : (ns : List Name) (n : Name) → AreDistinctNames ns → Named ns n
named ns n distinct = by (list_any (bytes_eq n) ns) refl
  where
    by : (b : Bool) → list_any (bytes_eq n) ns ≡ b → Named ns n
    by true e =
        let same : ns ≡ with_name ns n = ap (λ b. cond b ns (ns ++ n ∷ [])) (sym e) in
        let size : length ns ≡ length (with_name ns n) = ap length same in
        let inside = any_is_within (bytes_eq n) ns e in
        record {
          distinct = subst AreDistinctNames same distinct;
          longer = omega (arith, size);
          by_one = omega (arith, size);
          there = omega (arith, size, inside);
          back = ap (take (length ns)) (sym same) ∙ take_all (length ns) ns (omega arith);
        }
    by false e =
        let same : ns ++ n ∷ [] ≡ with_name ns n = ap (λ b. cond b ns (ns ++ n ∷ [])) (sym e) in
        let size : length ns + 1 ≡ length (with_name ns n) = sym (length_push ns n) ∙ ap length same in
        let last : number_among ns n ≡ length ns = none_is_length (bytes_eq n) ns e in
        record {
          distinct = subst AreDistinctNames same (IsDistinct-push nat_list_eq_equiv ns n distinct e);
          longer = omega (arith, size);
          by_one = omega (arith, size);
          there = omega (arith, size, last);
          back = ap (take (length ns)) (sym same) ∙ take-append_seam ns (n ∷ []);
        }

module _ (k : Kept) (good : IsGood k) where
  -- the name of an imported symbol, where a symbol is added
  imported_in : (i : ℕ) → i < length k.imports → get_or k.imported i 0 < length k.symbols
  imported_in i within = all_at (λ s. s < length k.symbols) k.imported good.within.imported i 0 (omega (arith, within, good.as_many))

  pub good_package : (n : Name) → position (bytes_eq n) k.packages ≡ None → IsGood (with_package k n)
  good_package n none =
      let packages : length k.packages ≤ length (k.packages ++ n ∷ []) = omega (arith, length_push k.packages n) in
      let names : length k.names ≤ length k.names = omega arith in
      let symbols : length k.symbols ≤ length k.symbols = omega arith in
      record {
        distinct = record {
          names = good.distinct.names;
          packages = names_push k.packages n good.distinct.packages none;
          symbols = good.distinct.symbols;
          imports = good.distinct.imports;
          externals = good.distinct.externals;
          uses = good.distinct.uses;
        };
        within = record {
          symbols = wider _ _ _ _ k.symbols packages names good.within.symbols;
          imports = wider _ _ _ _ k.imports packages names good.within.imports;
          imported = good.within.imported;
          externals = wider _ _ _ _ k.externals packages symbols good.within.externals;
          uses = wider _ _ _ _ k.uses packages packages good.within.uses;
        };
        as_many = good.as_many;
        named = good.named;
        apart = good.apart;
        few_names = good.few_names;
      }

  -- there is no such symbol by the number that its name will have
  pub absent_symbol : (h : ℕ) (n : Name) → symbol_named k h n ≡ None → position (pair_eq (h, number_among k.names n)) k.symbols ≡ None
  absent_symbol h n none = by (list_any (bytes_eq n) k.names) refl
    where
      by : (b : Bool) → list_any (bytes_eq n) k.names ≡ b → position (pair_eq (h, number_among k.names n)) k.symbols ≡ None
      by true e = sym (ap (option_and_then (λ (i : ℕ). position (pair_eq (h, i)) k.symbols)) (any_some (bytes_eq n) k.names e)) ∙ none
      by false e =
          ap (λ (i : ℕ). position (pair_eq (h, i)) k.symbols) (none_is_length (bytes_eq n) k.names e)
          ∙ any_none (pair_eq (h, length k.names)) k.symbols (none_has (length k.packages) (length k.names) h k.symbols good.within.symbols)

  pub good_symbol : (h : ℕ) (n : Name) → h < length k.packages → symbol_named k h n ≡ None → IsGood (with_symbol k h n)
  good_symbol h n inside none =
      let name = named k.names n good.distinct.names in
      let s : ℕ × ℕ = (h, number_among k.names n) in
      let size = length_push k.symbols s in
      let packages : length k.packages ≤ length k.packages = omega arith in
      let names : length k.names ≤ length (with_name k.names n) = name.longer in
      let symbols : length k.symbols ≤ length (k.symbols ++ s ∷ []) = omega (arith, size) in
      record {
        distinct = record {
          names = name.distinct;
          packages = good.distinct.packages;
          symbols = pairs_push k.symbols s good.distinct.symbols (absent_symbol h n none);
          imports = good.distinct.imports;
          externals = good.distinct.externals;
          uses = good.distinct.uses;
        };
        within = record {
          symbols = all_push (λ (p : ℕ × ℕ). (p.0 < length k.packages) × (p.1 < length (with_name k.names n))) k.symbols s
              (wider _ _ _ _ k.symbols packages names good.within.symbols) (inside, name.there);
          imports = wider _ _ _ _ k.imports packages names good.within.imports;
          imported = all_weaker (λ i. i < length k.symbols) (λ i. i < length (k.symbols ++ s ∷ [])) (λ i h. omega (arith, h, symbols)) k.imported good.within.imported;
          externals = wider _ _ _ _ k.externals packages symbols good.within.externals;
          uses = good.within.uses;
        };
        as_many = good.as_many;
        named = λ i within. ap (λ (q : ℕ × ℕ). q.1) (get_or_append_left k.symbols (s ∷ []) (0, 0) (get_or k.imported i 0) (imported_in i within)) ∙ good.named i within;
        apart = good.apart;
        few_names = omega (arith, good.few_names, size, name.by_one);
      }

  pub good_import : (p s : ℕ) → p < length k.packages → s < length k.symbols → position (pair_eq (p, (pair_at k.symbols s).1)) k.imports ≡ None → IsGood (with_import k p s)
  good_import p s inside there none =
      let at : (((pair_at k.symbols s).0 < length k.packages) × ((pair_at k.symbols s).1 < length k.names)) =
      all_at (λ (q : ℕ × ℕ). (q.0 < length k.packages) × (q.1 < length k.names)) k.symbols good.within.symbols s (0, 0) there in
      record {
        distinct = record {
          names = good.distinct.names;
          packages = good.distinct.packages;
          symbols = good.distinct.symbols;
          imports = pairs_push k.imports (p, (pair_at k.symbols s).1) good.distinct.imports none;
          externals = good.distinct.externals;
          uses = good.distinct.uses;
        };
        within = record {
          symbols = good.within.symbols;
          imports = all_push (λ (q : ℕ × ℕ). (q.0 < length k.packages) × (q.1 < length k.names)) k.imports (p, (pair_at k.symbols s).1) good.within.imports (inside, at.1);
          imported = all_push (λ i. i < length k.symbols) k.imported s good.within.imported there;
          externals = good.within.externals;
          uses = good.within.uses;
        };
        as_many = length_push k.imported s ∙ ap (λ n. n + 1) good.as_many ∙ sym (length_push k.imports (p, (pair_at k.symbols s).1));
        named = λ i within. named_at i within (nat_lt i (length k.imports)) refl;
        apart = good.apart;
        few_names = good.few_names;
      }
    where
      named_at : (i : ℕ) → i < length (k.imports ++ (p, (pair_at k.symbols s).1) ∷ []) → (b : Bool) → nat_lt i (length k.imports) ≡ b → IsImportedByName (with_import k p s) i
      named_at i within true e =
          let less : i < length k.imports = grind arith in
          ap (λ (j : ℕ). (pair_at k.symbols j).1) (get_or_append_left k.imported (s ∷ []) 0 i (omega (arith, less, good.as_many)))
          ∙ good.named i less
          ∙ sym (ap (λ (q : ℕ × ℕ). q.1) (get_or_append_left k.imports ((p, (pair_at k.symbols s).1) ∷ []) (0, 0) i less))
      named_at i within false e =
          let past : length k.imports ≤ i = grind arith in
          let last : length k.imports ≡ i = omega (arith, past, within, length_push k.imports (p, (pair_at k.symbols s).1)) in
          ap (λ (j : ℕ). (pair_at k.symbols j).1) (get_or_push k.imported s 0 i (good.as_many ∙ last))
          ∙ sym (ap (λ (q : ℕ × ℕ). q.1) (get_or_push k.imports (p, (pair_at k.symbols s).1) (0, 0) i last))

  pub good_external : (p s : ℕ) → p < length k.packages → s < length k.symbols → position (pair_eq (p, s)) k.externals ≡ None → IsGood (with_external_number k p s)
  good_external p s inside there none = record {
    distinct = record {
      names = good.distinct.names;
      packages = good.distinct.packages;
      symbols = good.distinct.symbols;
      imports = good.distinct.imports;
      externals = pairs_push k.externals (p, s) good.distinct.externals none;
      uses = good.distinct.uses;
    };
    within = record {
      symbols = good.within.symbols;
      imports = good.within.imports;
      imported = good.within.imported;
      externals = all_push (λ (q : ℕ × ℕ). (q.0 < length k.packages) × (q.1 < length k.symbols)) k.externals (p, s) good.within.externals (inside, there);
      uses = good.within.uses;
    };
    as_many = good.as_many;
    named = good.named;
    apart = good.apart;
    few_names = good.few_names;
  }

  pub good_use : (p q : ℕ) → p < length k.packages → q < length k.packages → (p ≡ q → ⊥) → position (pair_eq (p, q)) k.uses ≡ None → IsGood (with_use k p q)
  good_use p q inside there differ none = record {
    distinct = record {
      names = good.distinct.names;
      packages = good.distinct.packages;
      symbols = good.distinct.symbols;
      imports = good.distinct.imports;
      externals = good.distinct.externals;
      uses = pairs_push k.uses (p, q) good.distinct.uses none;
    };
    within = record {
      symbols = good.within.symbols;
      imports = good.within.imports;
      imported = good.within.imported;
      externals = good.within.externals;
      uses = all_push (λ (u : ℕ × ℕ). (u.0 < length k.packages) × (u.1 < length k.packages)) k.uses (p, q) good.within.uses (inside, there);
    };
    as_many = good.as_many;
    named = good.named;
    apart = all_push (λ (u : ℕ × ℕ). u.0 ≡ u.1 → ⊥) k.uses (p, q) good.apart differ;
    few_names = good.few_names;
  }
