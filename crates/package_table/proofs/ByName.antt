-- Look-ups by names, from those by numbers.
--     package_some, package_absent      whether there is a package
--     present_number      what is present has a number
--     external_no_package, external_no_name, entry_some, symbol_by, number_by_symbol, used_is      look-ups
--     number_by_position, symbol_given, symbol_missing      the symbol of a number
--     numbers_always, keeps_of      each symbol has one number, which it keeps
use Rattle.std.proofs.Common.{◌≡◌, ◌<◌, ◌≤◌, ◌↔◌, ℕ, true, false, cond, is_some, length, position, Option, None, Some, option_map, option_and_then, bytes_eq, refl, sym, ap, subst, ◌∙◌, arith}
use Rattle.std.proofs.lemmas.Bool.{false≢true}
use Rattle.std.specs.Option.{option_or, option_map_or}
use Rattle.std.specs.FinMap as finite
use Rattle.package_sets.specs.KeptSets.{Kept, import_of, name_at, pair_at, pair_eq}
use Rattle.package_sets.specs.Consistent.{IsGood}
use Rattle.package_table.specs.Table.{Name, Present, Package, entry_at, IsPackage, IsPresent}
use Rattle.package_table.specs.Lookup.{external_home, is_present, is_symbol, is_used}
use Rattle.package_table.specs.Numbers.{number_at, number_of}
use Rattle.package_table.specs.Numbering.{AreSymbolsNumbered, KeepsNumbers}
use Rattle.package_table.specs.Meaning.{number_in, present_in, package_of_number, home_in, symbol_name, numbered_of}
use Rattle.package_table.specs.Adds.{Adds}
use Rattle.package_table.proofs.Names.{same_some, none_some}
use Rattle.package_sets.proofs.Growing.{pair_equiv}
use Rattle.package_table.proofs.Frames.{equal_names, equal_itself}
use Rattle.package_table.proofs.Numbered.{number_some, number_there as number_is_there, number_apart}
use Rattle.package_table.proofs.Mapped.{named, count_by}
use Rattle.package_table.proofs.Meant.{known, same_pair, pair_there, package_at, package_none, entry_there, number_there, uses_there, uses_none, home_fits, name_fits}
use Rattle.package_table.proofs.FoundBy.{nothing_by, position_in, position_of, position_some}

module _ (k : Kept) (good : IsGood k) where
  pub package_some : (P : Name) → is_some (position (bytes_eq P) k.packages) ≡ finite.contains_key (numbered_of k).0 P
  package_some P =
      elim (position (bytes_eq P) k.packages) as (λ o. position (bytes_eq P) k.packages ≡ o → is_some o ≡ finite.contains_key (numbered_of k).0 P) [
        | None ↦ λ none. sym (ap is_some (package_none k good P none))
        | Some p ↦ λ here. sym (ap is_some (package_at k good P p here))
      ] refl

  pub package_count : finite.len (numbered_of k).0 ≡ length k.packages
  unfolding numbered_of
  package_count = count_by k.packages (package_of_number k) good.distinct.packages

  pub package_absent : (P : Name) → finite.get (numbered_of k).0 P ≡ None → position (bytes_eq P) k.packages ≡ None
  package_absent P none =
      elim (position (bytes_eq P) k.packages) as (λ o. position (bytes_eq P) k.packages ≡ o → o ≡ None) [
        | None ↦ λ _. refl
        | Some p ↦ λ here. absurd (none_some (package_of_number k p) (sym none ∙ package_at k good P p here))
      ] refl

  pub package_is : (P : Name) → IsPackage (numbered_of k).0 P → (p : ℕ) × (position (bytes_eq P) k.packages ≡ Some p)
  package_is P there =
      elim (position (bytes_eq P) k.packages) as (λ o. is_some o ≡ true → (p : ℕ) × (o ≡ Some p)) [
        | None ↦ λ none. absurd (false≢true none)
        | Some p ↦ λ _. (p, refl)
      ] (package_some P ∙ there)

  pub no_package_entry : (P N : Name) → position (bytes_eq P) k.packages ≡ None → entry_at (numbered_of k).0 P N ≡ None
  no_package_entry P N none = ap (option_and_then (λ (h : Package). finite.get h.symbols N)) (package_none k good P none)

  -- ---- entries
  pub external_no_package : (P N : Name) → position (bytes_eq P) k.packages ≡ None → external_home (numbered_of k).0 P N ≡ None
  external_no_package P N none = ap (λ o. option_map_or (λ (e : Present). cond e.external (Some e.home) None) o None) (no_package_entry P N none)

  pub external_no_name : (P N : Name) → position (bytes_eq N) k.names ≡ None → external_home (numbered_of k).0 P N ≡ None
  external_no_name P N none = ap (λ o. option_map_or (λ (e : Present). cond e.external (Some e.home) None) o None) (nothing_by k good N none P)

  pub present_no_package : (P N : Name) → position (bytes_eq P) k.packages ≡ None → is_present (numbered_of k).0 P N ≡ false
  present_no_package P N none = ap is_some (no_package_entry P N none)

  pub present_no_name : (P N : Name) → position (bytes_eq N) k.names ≡ None → is_present (numbered_of k).0 P N ≡ false
  present_no_name P N none = ap is_some (nothing_by k good N none P)

  pub symbol_no_package : (P N : Name) → position (bytes_eq P) k.packages ≡ None → is_symbol (numbered_of k).0 P N ≡ false
  symbol_no_package P N none = ap (λ o. option_map_or (λ (e : Present). bytes_eq e.home P) o false) (no_package_entry P N none)

  pub symbol_no_name : (P N : Name) → position (bytes_eq N) k.names ≡ None → is_symbol (numbered_of k).0 P N ≡ false
  symbol_no_name P N none = ap (λ o. option_map_or (λ (e : Present). bytes_eq e.home P) o false) (nothing_by k good N none P)

  -- what is present has a number
  pub record HasNumber (P N h : Name) : Type 0 where
    pub p : ℕ
    pub j : ℕ
    pub i : ℕ
    pub owner : position (bytes_eq P) k.packages ≡ Some p
    pub name : position (bytes_eq N) k.names ≡ Some j
    pub number : number_in k p j ≡ Some i
    pub home : home_in k i ≡ h

  pub present_number : (P N h : Name) → IsPresent (numbered_of k).0 P N h → HasNumber P N h
  present_number P N h present =
      elim (position (bytes_eq P) k.packages) as (λ o. position (bytes_eq P) k.packages ≡ o → HasNumber P N h) [
        | None ↦ λ none. absurd (none_some h (sym (ap (option_map (λ (e : Present). e.home)) (no_package_entry P N none)) ∙ present))
        | Some p ↦ λ here.
            elim (position (bytes_eq N) k.names) as (λ o. position (bytes_eq N) k.names ≡ o → HasNumber P N h) [
              | None ↦ λ none. absurd (none_some h (sym (ap (option_map (λ (e : Present). e.home)) (nothing_by k good N none P)) ∙ present))
              | Some j ↦ λ there. numbered p here j there
            ] refl
      ] refl
    where
      numbered : (p : ℕ) → position (bytes_eq P) k.packages ≡ Some p → (j : ℕ) → position (bytes_eq N) k.names ≡ Some j → HasNumber P N h
      numbered p here j there =
          elim (number_in k p j) as (λ o. number_in k p j ≡ o → option_map (λ (e : Present). e.home) (option_map (present_in k p) o) ≡ Some h → HasNumber P N h) [
            | None ↦ λ _ none. absurd (none_some h none)
            | Some i ↦ λ is home. record { p = p; j = j; i = i; owner = here; name = there; number = is; home = same_some (home_in k i) h home }
          ] refl (sym (ap (option_map (λ (e : Present). e.home)) (entry_there k good P p here N j there)) ∙ present)

  -- the home of a symbol is the only package of its name
  pub home_position : (i : ℕ) → i < length k.symbols → position (bytes_eq (home_in k i)) k.packages ≡ Some (pair_at k.symbols i).0
  home_position i less = position_of k.packages good.distinct.packages (pair_at k.symbols i).0 (home_fits k good i less)

  module _ (P N : Name) (p j : ℕ) (here : position (bytes_eq P) k.packages ≡ Some p) (there : position (bytes_eq N) k.names ≡ Some j) where
    pub present_by_number : is_some (number_in k p j) ≡ is_present (numbered_of k).0 P N
    present_by_number =
        elim (number_in k p j) as (λ o. is_some o ≡ is_some (option_map (present_in k p) o)) [ None ↦ refl | Some i ↦ refl ]
        ∙ sym (ap is_some (entry_there k good P p here N j there))

    -- a symbol that is imported has another home
    pub other_home : (i : ℕ) → position (pair_eq (p, j)) k.symbols ≡ None → number_in k p j ≡ Some i → bytes_eq (home_in k i) P ≡ false
    other_home i none is =
        let at = known k good p j i is in
        elim (bytes_eq (home_in k i) P) as (λ b. bytes_eq (home_in k i) P ≡ b → b ≡ false) [
          | false ↦ λ _. refl
          | true ↦ λ same.
              let one : (pair_at k.symbols i).0 ≡ p = same_some (pair_at k.symbols i).0 p (sym (home_position i at.symbol) ∙ ap (λ Q. position (bytes_eq Q) k.packages) (equal_names (home_in k i) P same) ∙ here) in
              let passes : pair_eq (p, j) (pair_at k.symbols i) ≡ true = (λ t. pair_eq (sym one t, sym at.named_so t) (pair_at k.symbols i)) ∙ same_pair (pair_at k.symbols i) in
              let found = position_some (pair_eq (p, j)) k.symbols i (0, 0) at.symbol passes in
              absurd (none_some found.0 (sym none ∙ found.1))
        ] refl

    -- a symbol at home has it as its home
    pub own_home : (i : ℕ) → position (pair_eq (p, j)) k.symbols ≡ Some i → home_in k i ≡ P
    own_home i is =
        let at = pair_there (length k.packages) (length k.names) k.symbols good.within.symbols (p, j) i is in
        ap (λ (s : ℕ × ℕ). name_at k.packages s.0) (sym at.1) ∙ sym (named P k.packages p here).1

    pub symbol_by : is_some (position (pair_eq (p, j)) k.symbols) ≡ is_symbol (numbered_of k).0 P N
    symbol_by =
        elim (position (pair_eq (p, j)) k.symbols) as (λ o. position (pair_eq (p, j)) k.symbols ≡ o → is_some o ≡ option_map_or (λ (e : Present). bytes_eq e.home P) (option_map (present_in k p) (option_or o (import_of k p j))) false) [
          | Some i ↦ λ is. sym (ap (λ Q. bytes_eq Q P) (own_home i is) ∙ equal_itself P)
          | None ↦ λ none.
              elim (import_of k p j) as (λ o. import_of k p j ≡ o → false ≡ option_map_or (λ (e : Present). bytes_eq e.home P) (option_map (present_in k p) o) false) [
                | None ↦ λ _. refl
                | Some i ↦ λ is. sym (other_home i none (ap (λ o. option_or o (import_of k p j)) none ∙ is))
              ] refl
        ] refl
        ∙ sym (ap (λ o. option_map_or (λ (e : Present). bytes_eq e.home P) o false) (entry_there k good P p here N j there))

    pub number_of_symbol : position (pair_eq (p, j)) k.symbols ≡ number_of (numbered_of k) P N
    number_of_symbol =
        elim (position (pair_eq (p, j)) k.symbols) as (λ o. position (pair_eq (p, j)) k.symbols ≡ o → o ≡ cond (is_some o) (number_in k p j) None) [
          | None ↦ λ _. refl
          | Some i ↦ λ is. sym (ap (λ o. option_or o (import_of k p j)) is)
        ] refl
        ∙ (λ t. cond (symbol_by t) (sym (number_there k good P p here N j there) t) None)

  pub number_no_package : (P N : Name) → position (bytes_eq P) k.packages ≡ None → number_of (numbered_of k) P N ≡ None
  number_no_package P N none = ap (λ b. cond b (number_at (numbered_of k).1 P N) None) (symbol_no_package P N none)

  pub number_no_name : (P N : Name) → position (bytes_eq N) k.names ≡ None → number_of (numbered_of k) P N ≡ None
  number_no_name P N none = ap (λ b. cond b (number_at (numbered_of k).1 P N) None) (symbol_no_name P N none)

  -- ---- the symbol of a number
  pub number_by_position : (i : ℕ) → i < length k.symbols → number_of (numbered_of k) (home_in k i) (symbol_name k i) ≡ Some i
  number_by_position i less =
      let s : ℕ × ℕ = pair_at k.symbols i in
      sym (number_of_symbol (home_in k i) (symbol_name k i) s.0 s.1 (home_position i less) (position_of k.names good.distinct.names s.1 (name_fits k good i less)))
      ∙ position_in pair_equiv k.symbols (0, 0) good.distinct.symbols i less

  -- ---- uses
  pub used_no_package : (P Q : Name) → position (bytes_eq P) k.packages ≡ None → is_used (numbered_of k).0 P Q ≡ false
  used_no_package P Q none = ap (λ o. option_map_or (λ (h : Package). finite.contains_key h.uses Q) o false) (package_none k good P none)

  pub used_none : (P Q : Name) → position (bytes_eq Q) k.packages ≡ None → is_used (numbered_of k).0 P Q ≡ false
  used_none P Q none =
      elim (position (bytes_eq P) k.packages) as (λ o. position (bytes_eq P) k.packages ≡ o → is_used (numbered_of k).0 P Q ≡ false) [
        | None ↦ λ absent. used_no_package P Q absent
        | Some p ↦ λ here. ap (λ o. option_map_or (λ (h : Package). finite.contains_key h.uses Q) o false) (package_at k good P p here) ∙ ap is_some (uses_none k good P p Q none)
      ] refl

  pub used_is : (P Q : Name) (p q : ℕ) → position (bytes_eq P) k.packages ≡ Some p → position (bytes_eq Q) k.packages ≡ Some q → is_some (position (pair_eq (p, q)) k.uses) ≡ is_used (numbered_of k).0 P Q
  used_is P Q p q here there =
      elim (position (pair_eq (p, q)) k.uses) as (λ o. is_some o ≡ is_some (option_map (λ _. tt {0}) o)) [ None ↦ refl | Some x ↦ refl ]
      ∙ sym (ap (λ o. option_map_or (λ (h : Package). finite.contains_key h.uses Q) o false) (package_at k good P p here) ∙ ap is_some (uses_there k good P p q Q there))

  -- ---- each symbol has one number
  pub numbers_always : AreSymbolsNumbered (numbered_of k) (length k.symbols)
  numbers_always = record {
    below = λ h n present.
        let at = present_number h n h present in
        (at.i, number_there k good h at.p at.owner n at.j at.name ∙ at.number, (known k good at.p at.j at.i at.number).symbol);
    apart = λ h n g m i a b x y.
        let one = present_number h n h a in
        let two = present_number g m g b in
        let first : one.i ≡ i = same_some one.i i (sym (number_there k good h one.p one.owner n one.j one.name ∙ one.number) ∙ x) in
        let second : two.i ≡ i = same_some two.i i (sym (number_there k good g two.p two.owner m two.j two.name ∙ two.number) ∙ y) in
        let same : one.i ≡ two.i = first ∙ sym second in
        let name : one.j ≡ two.j = sym (known k good one.p one.j one.i one.number).named_so ∙ ap (λ i. (pair_at k.symbols i).1) same ∙ (known k good two.p two.j two.i two.number).named_so in
        (sym one.home ∙ ap (home_in k) same ∙ two.home, (named n k.names one.j one.name).1 ∙ ap (name_at k.names) name ∙ sym (named m k.names two.j two.name).1);
  }

-- what the symbol of a number is, and that there is none
module _ (k : Kept) (good : IsGood k) where
  number_fits : (h n : Name) (i : ℕ) → number_of (numbered_of k) h n ≡ Some i → i < length k.symbols
  number_fits h n i is =
      let some = number_some (numbered_of k) (length k.symbols) (numbers_always k good) h n (number_is_there (numbered_of k) h n i is) in
      subst (λ (j : ℕ). j < length k.symbols) (same_some some.0 i (sym some.1 ∙ is)) some.2

  only_symbol : (h n : Name) (i : ℕ) → number_of (numbered_of k) h n ≡ Some i → (home_in k i ≡ h) × (symbol_name k i ≡ n)
  only_symbol h n i is =
      number_apart (numbered_of k) (length k.symbols) (numbers_always k good) (home_in k i) (symbol_name k i) h n i
      (number_by_position k good i (number_fits h n i is)) is

  pub symbol_given : (i : ℕ) → i < length k.symbols → (home name : Name) → home ≡ home_in k i → name ≡ symbol_name k i → (h n : Name)
      → (◌≡◌ {A = Option (Name × Name)} (Some (home, name)) (Some (h, n))) ↔ (number_of (numbered_of k) h n ≡ Some i)
  symbol_given i less home name first second h n =
      let both : ◌≡◌ {A = Name × Name} (home, name) (home_in k i, symbol_name k i) = λ t. (first t, second t) in (
        λ e. ap (λ (s : Name × Name). number_of (numbered_of k) s.0 s.1) (sym (same_some (home, name) (h, n) e) ∙ both) ∙ number_by_position k good i less,
        λ is. let only = only_symbol h n i is in (λ t. Some ((first ∙ only.0) t, (second ∙ only.1) t)),
      )

  pub symbol_missing : (i : ℕ) → length k.symbols ≤ i → (h n : Name)
      → (◌≡◌ {A = Option (Name × Name)} None (Some (h, n))) ↔ (number_of (numbered_of k) h n ≡ Some i)
  symbol_missing i past h n = (λ none. absurd (none_some (h, n) none), λ is. absurd (let less = number_fits h n i is in omega (arith, less, past)))

pub keeps_of : (k u : Kept) → IsGood k → IsGood u → Adds k u → KeepsNumbers (numbered_of k) (numbered_of u)
keeps_of k u good good_then adds h n present =
    let at = present_number k good h n h present in
    number_there u good_then h at.p (adds.packages h at.p at.owner) n at.j (adds.names n at.j at.name)
    ∙ adds.numbers at.p at.j at.i at.number ∙ sym at.number ∙ sym (number_there k good h at.p at.owner n at.j at.name)
