-- Conflicts over a name, looked for by numbers.
--     all_packages, some_package      what no package has, or one, among the entries of the table
--     asked_user      what is asked of each package before an export
--     users_none      where no conflict can be
--     another_by, shown_by_numbers      what is asked of each external symbol before a package is used
use Rattle.std.proofs.Common.{◌≡◌, ◌≢◌, ◌<◌, ℕ, Bool, true, false, not, ◌&&◌, is_some, length, position, Option, None, Some, option_map, bytes_eq, refl, sym, ap, ◌∙◌, inl, inr}
use Rattle.std.proofs.lemmas.Bool.{false≢true}
use Rattle.std.specs.Option.{option_map_or}
use Rattle.std.specs.List.{list_any}
use Rattle.std.specs.FinMap as finite
use Rattle.std.specs.Cmp.{both_ways}
use Rattle.package_sets.specs.KeptSets.{Kept, name_at, pair_at, pair_eq}
use Rattle.package_sets.specs.Consistent.{IsGood}
use Rattle.package_table.specs.Table.{Name, Present, Package, Uses, Finds, IsPackage, IsPresent, IsExternal, AreUsesSound, AreSoundPackages}
use Rattle.package_table.specs.Changes.{finds_other, user_finds_other, finds_other_than_shown}
use Rattle.package_table.specs.Meaning.{number_in, is_shown_in, package_of_number, home_in, symbol_name, found_number, finds_another, shown_positions, shown_symbol, numbered_of}
use Rattle.package_table.specs.Adds.{HasFixedNumbers}
use Rattle.package_table.proofs.Names.{same_some, none_some}
use Rattle.package_table.proofs.Frames.{equal_itself, not_equal}
use Rattle.package_table.proofs.Found.{found_is}
use Rattle.package_table.proofs.Asked.{some_in, any_with, users_other, shown_other}
use Rattle.package_table.proofs.Mapped.{named}
use Rattle.package_table.proofs.Meant.{known, package_at, package_none, uses_there}
use Rattle.package_table.proofs.FoundBy.{position_of, found_by, finds_number, nothing_by, shows as shows_number, number_by, shown_by, present_by}
use Rattle.package_table.proofs.ByName.{present_number}
use Rattle.package_table.proofs.Listed.{any_in, any_of}
use Rattle.package_table.proofs.ListedBy.{Shows, shown_listed}

module _ (k : Kept) (good : IsGood k) where
  -- ---- packages
  -- what is asked of the package of the number q
  abbrev asked : (Name × Package → Bool) → ℕ → Bool
  asked test q = test (name_at k.packages q, package_of_number k q)

  pub all_packages : (test : Name × Package → Bool) → ((q : ℕ) → q < length k.packages → test (name_at k.packages q, package_of_number k q) ≡ false) → list_any test (finite.entries (numbered_of k).0) ≡ false
  all_packages test none =
      elim (list_any test (finite.entries (numbered_of k).0)) as (λ b. list_any test (finite.entries (numbered_of k).0) ≡ b → b ≡ false) [
        | false ↦ λ _. refl
        | true ↦ λ some.
            let at = some_in test (numbered_of k).0 some in
            absurd (false≢true (sym (here at.0 at.1 at.2) ∙ at.3))
      ] refl
    where
      here : (Q : Name) (h : Package) → finite.get (numbered_of k).0 Q ≡ Some h → test (Q, h) ≡ false
      here Q h there =
          elim (position (bytes_eq Q) k.packages) as (λ o. position (bytes_eq Q) k.packages ≡ o → test (Q, h) ≡ false) [
            | None ↦ λ absent. absurd (none_some h (sym (package_none k good Q absent) ∙ there))
            | Some q ↦ λ at.
                let n = named Q k.packages q at in
                (λ i. test (n.1 i, same_some h (package_of_number k q) (sym there ∙ package_at k good Q q at) i)) ∙ none q n.0
          ] refl

  pub some_package : (test : Name × Package → Bool) (q : ℕ) → q < length k.packages → test (name_at k.packages q, package_of_number k q) ≡ true → list_any test (finite.entries (numbered_of k).0) ≡ true
  some_package test q less passes =
      any_with test (numbered_of k).0 (name_at k.packages q) (package_of_number k q) (package_at k good (name_at k.packages q) q (position_of k.packages good.distinct.packages q less)) passes

  pub uses_number : (q p : ℕ) → p < length k.packages → is_some (position (pair_eq (q, p)) k.uses) ≡ finite.contains_key (package_of_number k q).uses (name_at k.packages p)
  uses_number q p less =
      elim (position (pair_eq (q, p)) k.uses) as (λ o. is_some o ≡ is_some (option_map (λ _. tt {0}) o)) [ None ↦ refl | Some x ↦ refl ]
      ∙ sym (ap is_some (uses_there k good (name_at k.packages q) q p (name_at k.packages p) (position_of k.packages good.distinct.packages p less)))

  -- whether a package uses p and finds another symbol, by numbers and by names
  pub asked_user : AreUsesSound (numbered_of k).0 → (q p j : ℕ) (H : Name) → q < length k.packages → p < length k.packages → j < length k.names
      → (is_some (position (pair_eq (q, p)) k.uses) && option_map_or (λ o. not (bytes_eq (home_in k o) H)) (found_number k q j) false)
      ≡ (finite.contains_key (package_of_number k q).uses (name_at k.packages p) && finds_other (numbered_of k).0 (name_at k.packages q) H (name_at k.names j))
  asked_user joined q p j H q_in p_in j_in = λ i. uses_number q p p_in i && finds i
    where
      finds : option_map_or (λ o. not (bytes_eq (home_in k o) H)) (found_number k q j) false ≡ finds_other (numbered_of k).0 (name_at k.packages q) H (name_at k.names j)
      finds =
          elim (found_number k q j) as (λ o. option_map_or (λ o. not (bytes_eq (home_in k o) H)) o false ≡ option_map_or (λ g. not (bytes_eq g H)) (option_map (home_in k) o) false) [ None ↦ refl | Some i ↦ refl ]
          ∙ ap (λ (o : Option Name). option_map_or (λ g. not (bytes_eq g H)) o false)
          (found_by k good (name_at k.packages q) (name_at k.names j) q j (position_of k.packages good.distinct.packages q q_in) (position_of k.names good.distinct.names j j_in) joined)

  -- no user, or no symbol by the name
  pub users_none : AreSoundPackages (numbered_of k).0 → (P H N : Name) → (position (bytes_eq P) k.packages ≡ None → user_finds_other (numbered_of k).0 P H N ≡ false) × (position (bytes_eq N) k.names ≡ None → user_finds_other (numbered_of k).0 P H N ≡ false)
  users_none sound P H N = (
    λ none. no_user (λ Q g used _. none_some true (sym (ap (λ (o : Option Package). option_map (λ (_ : Package). true) o) (package_none k good P none)) ∙ there (sound.joined.used Q P used))),
    λ none. no_user (λ Q g _ finds. no_symbol none Q g finds),
  )
    where
      there : IsPackage (numbered_of k).0 P → option_map (λ (_ : Package). true) (finite.get (numbered_of k).0 P) ≡ Some true
      there is =
          elim (finite.get (numbered_of k).0 P) as (λ o. is_some o ≡ true → option_map (λ (_ : Package). true) o ≡ Some true) [
            | None ↦ λ none. absurd (false≢true none)
            | Some h ↦ λ _. refl
          ] is

      no_symbol : position (bytes_eq N) k.names ≡ None → (Q g : Name) → Finds (numbered_of k).0 Q N g → ⊥
      no_symbol none Q g (inl present) = none_some g (sym (ap (option_map (λ (e : Present). e.home)) (nothing_by k good N none Q)) ∙ present)
      no_symbol none Q g (inr used) = none_some g (sym (ap (option_map (λ (e : Present). e.home)) (nothing_by k good N none used.0)) ∙ used.3)

      no_user : ((Q g : Name) → Uses (numbered_of k).0 Q P → Finds (numbered_of k).0 Q N g → ⊥) → user_finds_other (numbered_of k).0 P H N ≡ false
      no_user none =
          elim (user_finds_other (numbered_of k).0 P H N) as (λ b. user_finds_other (numbered_of k).0 P H N ≡ b → b ≡ false) [
            | false ↦ λ _. refl
            | true ↦ λ some. absurd (let other = (users_other (numbered_of k).0 sound P H N).0 some in none other.0 other.1 other.2 other.3)
          ] refl

  -- ---- what is external in another package
  module _ (placed : HasFixedNumbers k) (sound : AreSoundPackages (numbered_of k).0) (P Q : Name) (p q : ℕ) (here : position (bytes_eq P) k.packages ≡ Some p) (there : position (bytes_eq Q) k.packages ≡ Some q) where
    shown : Shows k good placed sound Q q there (shown_positions k q) (shown_symbol k q)
    shown = shown_listed k good placed sound Q q there

    abbrev test : ℕ → Bool
    test x = finds_another k p (shown_symbol k q x)

    from_numbers : list_any (λ x. finds_another k p (shown_symbol k q x)) (shown_positions k q) ≡ true → finds_other_than_shown (numbered_of k).0 P Q ≡ true
    from_numbers some =
        let at = any_in (λ x. finds_another k p (shown_symbol k q x)) (shown_positions k q) some in
        let i : ℕ = shown_symbol k q at.0 in
        let j : ℕ = (pair_at k.symbols (shown_symbol k q at.0)).1 in
        let inside = shown.inside at.0 at.1 in
        let named_at = position_of k.names good.distinct.names j (known k good q j i inside.0).name in
        elim (found_number k p j) as (λ o. found_number k p j ≡ o → option_map_or (λ o. not (bytes_eq (home_in k o) (home_in k i))) o false ≡ true → finds_other_than_shown (numbered_of k).0 P Q ≡ true) [
          | None ↦ λ _ none. absurd (false≢true none)
          | Some o ↦ λ is differs. (shown_other (numbered_of k).0 sound P Q).1 (
            symbol_name k i,
            home_in k o,
            home_in k i,
            finds_number k good P (symbol_name k i) p j here named_at o is,
            shown_by k good Q (symbol_name k i) q j there named_at i inside.0 inside.1,
            present_by k good Q (symbol_name k i) q j there named_at i inside.0,
            λ (same : home_in k o ≡ home_in k i). false≢true (sym (ap not (ap (λ (n : Name). bytes_eq n (home_in k i)) same ∙ equal_itself (home_in k i))) ∙ differs),
          )
        ] refl at.2

    to_numbers : finds_other_than_shown (numbered_of k).0 P Q ≡ true → list_any (λ x. finds_another k p (shown_symbol k q x)) (shown_positions k q) ≡ true
    to_numbers some =
        let other = (shown_other (numbered_of k).0 sound P Q).0 some in
        conflict other.0 other.1 other.2 other.3 other.4 other.5 other.6
      where
        conflict : (N g h : Name) → Finds (numbered_of k).0 P N g → IsExternal (numbered_of k).0 Q N → IsPresent (numbered_of k).0 Q N h → (g ≢ h) → list_any (λ x. finds_another k p (shown_symbol k q x)) (shown_positions k q) ≡ true
        conflict N g h finds external present differ =
            let at = present_number k good Q N h present in
            let same_q : at.p ≡ q = same_some at.p q (sym at.owner ∙ there) in
            let number : number_in k q at.j ≡ Some at.i = ap (λ (r : ℕ). number_in k r at.j) (sym same_q) ∙ at.number in
            let is_shown = number_by k good Q N q at.j there at.name h external present in
            let parts = shows_number k q at.j is_shown.0 is_shown.1 in
            let shown_it : is_shown_in k q at.i ≡ true = ap (is_shown_in k q) (same_some at.i is_shown.0 (sym number ∙ parts.0)) ∙ parts.1 in
            let x = shown.covers at.j at.i number shown_it in
            let found_it : option_map (home_in k) (found_number k p at.j) ≡ Some g = found_by k good P N p at.j here at.name sound.joined ∙ found_is (numbered_of k).0 N sound.joined P g finds in
            let passes : finds_another k p at.i ≡ true =
            ap (λ (m : ℕ). option_map_or (λ o. not (bytes_eq (home_in k o) (home_in k at.i))) (found_number k p m) false) (known k good q at.j at.i number).named_so
            ∙ other_home_of at.i (found_number k p at.j) found_it at.home in
            any_of (λ x. finds_another k p (shown_symbol k q x)) (shown_positions k q) x.0 x.1 (ap (finds_another k p) x.2 ∙ passes)
          where
            other_home_of : (i : ℕ) (o : Option ℕ) → option_map (home_in k) o ≡ Some g → home_in k i ≡ h → option_map_or (λ o. not (bytes_eq (home_in k o) (home_in k i))) o false ≡ true
            other_home_of i None none _ = absurd (none_some g none)
            other_home_of i (Some o) is home = (λ t. not (bytes_eq (same_some (home_in k o) g is t) (home t))) ∙ ap not (not_equal g h differ)

    pub shown_by_numbers : list_any (λ x. finds_another k p (shown_symbol k q x)) (shown_positions k q) ≡ finds_other_than_shown (numbered_of k).0 P Q
    shown_by_numbers = both_ways _ _ from_numbers to_numbers
