-- What is kept by numbers, read by names.
--     one_pair, same_pair      pairs of numbers
--     known      what has a number is kept
--     package_at, package_none, entry_there, number_there      what is at a name
--     entry_put, named_more, made, used      what single changes make of it
use Rattle.std.proofs.Common.{◌≡◌, ◌≢◌, ◌⊎◌, ◌<◌, ℕ, true, false, ◌&&◌, nat_eq, List, length, get_or, position, Option, None, Some, option_map, option_and_then, bytes_eq, refl, sym, ap, subst, ◌∙◌, inl, inr, arith}
use Rattle.std.proofs.lemmas.Bool.{and_parts}
use Rattle.std.proofs.lemmas.Bool.Decides.{Decides-eqb}
use Rattle.std.proofs.lemmas.List.Quantifiers.{position-Some}
use Rattle.std.specs.Option.{option_or, option_map_or}
use Rattle.std.specs.List.{IsDistinct}
use Rattle.std.specs.FinMap as finite
use Rattle.package_sets.specs.KeptSets.{Kept, import_of, pair_at, pair_eq}
use Rattle.package_sets.specs.Consistent.{IsGood, AreWithin}
use Rattle.package_table.specs.Table.{Name, name_cmp, Present, Package, entry_at, with_entry}
use Rattle.package_table.specs.Numbers.{Numbered, number_at, with_numbers, with_numbered}
use Rattle.package_table.specs.Meaning.{map_by, number_in, present_in, package_of_number, numbers_in, table_of, all_numbers_of, numbered_of}
use Rattle.package_sets.proofs.Places.{all_at}
use Rattle.package_table.proofs.Names.{same_some, none_some}
use Rattle.package_table.proofs.Mapped.{got_at, got_none, same, put}

-- ---- pairs of numbers
pub one_pair : (a b : ℕ × ℕ) → pair_eq a b ≡ true → a ≡ b
one_pair a b e =
    let h = and_parts (nat_eq a.0 b.0) (nat_eq a.1 b.1) e in
    λ i. ((Decides-eqb a.0 b.0).0 h.0 i, (Decides-eqb a.1 b.1).0 h.1 i)

pub same_pair : (a : ℕ × ℕ) → pair_eq a a ≡ true
same_pair a = λ i. (Decides-eqb a.0 a.0).1 refl i && (Decides-eqb a.1 a.1).1 refl i

pub other_pair : (a b : ℕ × ℕ) → (a.0 ≢ b.0) ⊎ (a.1 ≢ b.1) → pair_eq a b ≡ false
other_pair a b differ =
    elim (pair_eq a b) as (λ c. pair_eq a b ≡ c → c ≡ false) [
      | true ↦ λ is. absurd (let one = one_pair a b is in elim differ [ inl first ↦ first (ap (λ (p : ℕ × ℕ). p.0) one) | inr second ↦ second (ap (λ (p : ℕ × ℕ). p.1) one) ])
      | false ↦ λ _. refl
    ] refl

-- where a pair is, and that its numbers are within
pub pair_there : (n m : ℕ) (ps : List (ℕ × ℕ)) → AreWithin n m ps → (a : ℕ × ℕ) (i : ℕ) → position (pair_eq a) ps ≡ Some i → (i < length ps) × (a ≡ pair_at ps i) × (a.0 < n) × (a.1 < m)
pair_there n m ps within a i is =
    let at = position-Some (pair_eq a) ps i (0, 0) is in
    let one : a ≡ pair_at ps i = one_pair a (pair_at ps i) at.1 in
    let fits = all_at (λ (p : ℕ × ℕ). (p.0 < n) × (p.1 < m)) ps within i (0, 0) at.0 in
    (at.0, one, subst (λ (p : ℕ × ℕ). p.0 < n) (sym one) fits.0, subst (λ (p : ℕ × ℕ). p.1 < m) (sym one) fits.1)

-- ---- numbers
pub record IsKnown (k : Kept) (p j i : ℕ) : Type 0 where
  pub owner : p < length k.packages
  pub name : j < length k.names
  pub symbol : i < length k.symbols
  pub named_so : (pair_at k.symbols i).1 ≡ j

module _ (k : Kept) (good : IsGood k) where
  own_known : (p j i : ℕ) → position (pair_eq (p, j)) k.symbols ≡ Some i → IsKnown k p j i
  own_known p j i is =
      let at = pair_there (length k.packages) (length k.names) k.symbols good.within.symbols (p, j) i is in
      record { owner = at.2; name = at.3; symbol = at.0; named_so = ap (λ (q : ℕ × ℕ). q.1) (sym at.1) }

  import_known : (p j m : ℕ) → position (pair_eq (p, j)) k.imports ≡ Some m → IsKnown k p j (get_or k.imported m 0)
  import_known p j m is =
      let at = pair_there (length k.packages) (length k.names) k.imports good.within.imports (p, j) m is in
      let less : m < length k.imported = let here = at.0 in let many = good.as_many in omega (arith, here, many) in
      record {
        owner = at.2;
        name = at.3;
        symbol = all_at (λ s. s < length k.symbols) k.imported good.within.imported m 0 less;
        named_so = good.named m at.0 ∙ ap (λ (q : ℕ × ℕ). q.1) (sym at.1);
      }

  pub known : (p j i : ℕ) → number_in k p j ≡ Some i → IsKnown k p j i
  known p j i is =
      elim (position (pair_eq (p, j)) k.symbols) as (λ o. position (pair_eq (p, j)) k.symbols ≡ o → option_or o (import_of k p j) ≡ Some i → IsKnown k p j i) [
        | Some x ↦ λ there seen. own_known p j i (there ∙ seen)
        | None ↦ λ _ seen.
            elim (position (pair_eq (p, j)) k.imports) as (λ o. position (pair_eq (p, j)) k.imports ≡ o → option_map (λ m. get_or k.imported m 0) o ≡ Some i → IsKnown k p j i) [
              | None ↦ λ _ none. absurd (none_some i none)
              | Some m ↦ λ there seen. subst (λ i. IsKnown k p j i) (same_some (get_or k.imported m 0) i seen) (import_known p j m there)
            ] refl seen
      ] refl is

  pub unknown : (p j : ℕ) → ((i : ℕ) → IsKnown k p j i → ⊥) → number_in k p j ≡ None
  unknown p j none =
      elim (number_in k p j) as (λ o. number_in k p j ≡ o → o ≡ None) [
        | None ↦ λ _. refl
        | Some i ↦ λ is. absurd (none i (known p j i is))
      ] refl

  -- the numbers of a symbol's home and of its name are those of something
  both_fit : (i : ℕ) → i < length k.symbols → ((pair_at k.symbols i).0 < length k.packages) × ((pair_at k.symbols i).1 < length k.names)
  both_fit i less = all_at (λ (s : ℕ × ℕ). (s.0 < length k.packages) × (s.1 < length k.names)) k.symbols good.within.symbols i (0, 0) less

  pub home_fits : (i : ℕ) → i < length k.symbols → (pair_at k.symbols i).0 < length k.packages
  home_fits i less = (both_fit i less).0

  pub name_fits : (i : ℕ) → i < length k.symbols → (pair_at k.symbols i).1 < length k.names
  name_fits i less = (both_fit i less).1

-- ---- what is at a name
module _ (k : Kept) (good : IsGood k) (P : Name) where
  pub package_at : (p : ℕ) → position (bytes_eq P) k.packages ≡ Some p → finite.get (numbered_of k).0 P ≡ Some (package_of_number k p)
  unfolding numbered_of
  package_at p is = got_at k.packages good.distinct.packages (λ p. Some (package_of_number k p)) P p is

  pub package_none : position (bytes_eq P) k.packages ≡ None → finite.get (numbered_of k).0 P ≡ None
  unfolding numbered_of
  package_none none = got_none k.packages good.distinct.packages (λ p. Some (package_of_number k p)) P none

  pub numbers_there : (p : ℕ) → position (bytes_eq P) k.packages ≡ Some p → finite.get (numbered_of k).1 P ≡ Some (numbers_in k p)
  unfolding numbered_of
  numbers_there p is = got_at k.packages good.distinct.packages (λ p. Some (numbers_in k p)) P p is

  module _ (p : ℕ) (here : position (bytes_eq P) k.packages ≡ Some p) (N : Name) where
    pub entry_there : (j : ℕ) → position (bytes_eq N) k.names ≡ Some j → entry_at (numbered_of k).0 P N ≡ option_map (present_in k p) (number_in k p j)
    entry_there j is =
        ap (option_and_then (λ (k : Package). finite.get k.symbols N)) (package_at p here)
        ∙ got_at k.names good.distinct.names (λ j. option_map (present_in k p) (number_in k p j)) N j is

    pub entry_none : position (bytes_eq N) k.names ≡ None → entry_at (numbered_of k).0 P N ≡ None
    entry_none none =
        ap (option_and_then (λ (k : Package). finite.get k.symbols N)) (package_at p here)
        ∙ got_none k.names good.distinct.names (λ j. option_map (present_in k p) (number_in k p j)) N none

    pub number_there : (j : ℕ) → position (bytes_eq N) k.names ≡ Some j → number_at (numbered_of k).1 P N ≡ number_in k p j
    number_there j is =
        ap (option_and_then (λ (m : finite.FinMap name_cmp ℕ). finite.get m N)) (numbers_there p here)
        ∙ got_at k.names good.distinct.names (number_in k p) N j is

    pub number_none : position (bytes_eq N) k.names ≡ None → number_at (numbered_of k).1 P N ≡ None
    number_none none =
        ap (option_and_then (λ (m : finite.FinMap name_cmp ℕ). finite.get m N)) (numbers_there p here)
        ∙ got_none k.names good.distinct.names (number_in k p) N none

  -- whether a package uses another
  pub uses_there : (p q : ℕ) (Q : Name) → position (bytes_eq Q) k.packages ≡ Some q → finite.get (package_of_number k p).uses Q ≡ option_map (λ _. tt) (position (pair_eq (p, q)) k.uses)
  uses_there p q Q is = got_at k.packages good.distinct.packages (λ q. option_map (λ _. tt {0}) (position (pair_eq (p, q)) k.uses)) Q q is

  pub uses_none : (p : ℕ) (Q : Name) → position (bytes_eq Q) k.packages ≡ None → finite.get (package_of_number k p).uses Q ≡ None
  uses_none p Q none = got_none k.packages good.distinct.packages (λ q. option_map (λ _. tt {0}) (position (pair_eq (p, q)) k.uses)) Q none

-- ---- an entry
abbrev uses_by : Kept → ℕ → finite.FinMap name_cmp (Unit {0})
uses_by k q = map_by k.packages (λ r. option_map (λ _. tt) (position (pair_eq (q, r)) k.uses))

module _ (k : Kept) (names : IsDistinct bytes_eq k.names) (packages : IsDistinct bytes_eq k.packages)
    (P N : Name) (p j : ℕ) (here : position (bytes_eq P) k.packages ≡ Some p) (there : position (bytes_eq N) k.names ≡ Some j) (e : Present) (i : ℕ)
    (numbers : ℕ → ℕ → Option ℕ) (seen : ℕ → ℕ → Present)
    (entries_stay : (q m : ℕ) → (q ≢ p) ⊎ (m ≢ j) → option_map (seen q) (numbers q m) ≡ option_map (present_in k q) (number_in k q m))
    (numbers_stay : (q m : ℕ) → (q ≢ p) ⊎ (m ≢ j) → numbers q m ≡ number_in k q m)
    (entry_is : option_map (seen p) (numbers p j) ≡ Some e) (number_is : numbers p j ≡ Some i) where
  package_then : ℕ → Package
  package_then q = record { symbols = map_by k.names (λ m. option_map (seen q) (numbers q m)); uses = uses_by k q }

  pub entry_put : ◌≡◌ {A = Numbered} (
    map_by k.packages (λ q. Some (record { symbols = map_by k.names (λ m. option_map (seen q) (numbers q m)); uses = uses_by k q })),
    map_by k.packages (λ q. Some (map_by k.names (numbers q))),
  ) (with_numbered (numbered_of k) P N e i)
  unfolding numbered_of package_then
  entry_put = λ t. (tables t, all_numbers t)
    where
      symbols_stay : (q : ℕ) → q ≢ p → map_by k.names (λ m. option_map (seen q) (numbers q m)) ≡ (package_of_number k q).symbols
      symbols_stay q apart = same k.names names (λ m. option_map (present_in k q) (number_in k q m)) (λ m. option_map (seen q) (numbers q m)) (λ m _. entries_stay q m (inl apart))

      symbols_put : map_by k.names (λ m. option_map (seen p) (numbers p m)) ≡ finite.insert (package_of_number k p).symbols N e
      symbols_put = put k.names names (λ m. option_map (present_in k p) (number_in k p m)) (λ m. option_map (seen p) (numbers p m)) N j e there (λ m _ apart. entries_stay p m (inr apart)) entry_is

      tables : map_by k.packages (λ q. Some (package_then q)) ≡ with_entry (table_of k) P N e
      tables =
          put k.packages packages (λ q. Some (package_of_number k q)) (λ q. Some (package_then q)) P p (record (package_of_number k p) { symbols = finite.insert (package_of_number k p).symbols N e }) here
          (λ q _ apart t. Some (record { symbols = symbols_stay q apart t; uses = uses_by k q }))
          (λ t. Some (record { symbols = symbols_put t; uses = uses_by k p }))
          ∙ sym (ap (λ o. option_map_or (λ (h : Package). finite.insert (table_of k) P (record h { symbols = finite.insert h.symbols N e })) o (table_of k)) (got_at k.packages packages (λ q. Some (package_of_number k q)) P p here))

      all_numbers : map_by k.packages (λ q. Some (map_by k.names (numbers q))) ≡ with_numbers (all_numbers_of k) P (λ m. finite.insert m N i)
      all_numbers =
          put k.packages packages (λ q. Some (numbers_in k q)) (λ q. Some (map_by k.names (numbers q))) P p (finite.insert (numbers_in k p) N i) here
          (λ q _ apart. ap Some (same k.names names (number_in k q) (numbers q) (λ m _. numbers_stay q m (inl apart))))
          (ap Some (put k.names names (number_in k p) (numbers p) N j i there (λ m _ apart. numbers_stay p m (inr apart)) number_is))
          ∙ sym (ap (λ o. option_map_or (λ (m : finite.FinMap name_cmp ℕ). finite.insert (all_numbers_of k) P (finite.insert m N i)) o (all_numbers_of k)) (got_at k.packages packages (λ q. Some (numbers_in k q)) P p here))
