-- Single changes of the packages, from what is added by numbers.
--     entry_twice      an entry that is put in place of another
--     made, interned, imported, shown_present, shown_inherited, used      what each call makes of the packages by names
--     this_found, this_known      the symbol that is found
use Rattle.std.proofs.Common.{◌≡◌, ◌<◌, ℕ, Bool, true, false, cond, nat_lt, is_some, length, position, Option, None, Some, option_map, option_and_then, bytes_eq, refl, sym, ap, ◌∙◌}
use Rattle.std.proofs.lemmas.Bool.{false≢true, or_right}
use Rattle.std.specs.Option.{option_or, option_map_or}
use Rattle.std.specs.Ordering.{eq_by_cmp}
use Rattle.std.specs.FinMap as finite
use Rattle.package_sets.specs.KeptSets.{Kept, import_of, name_at, pair_at, pair_eq, positions_of}
use Rattle.package_sets.specs.Consistent.{IsGood}
use Rattle.package_sets.specs.Changes.{symbol_named, with_external_number, with_import, with_symbol}
use Rattle.package_table.specs.Table.{Name, name_cmp, Present, Package, Table, entry_at, with_entry, common_lisp, keyword, is_locked, AreUsesSound, IsPresent}
use Rattle.package_table.specs.Lookup.{home_by_name, is_external}
use Rattle.package_table.specs.Changes.{finds_this}
use Rattle.package_table.specs.Numbers.{Numbered, with_numbered}
use Rattle.package_table.specs.Meaning.{number_in, is_shown_in, present_in, home_in, found_number, first_shown, numbered_of}
use Rattle.package_table.specs.Adds.{HasFixedNumbers, Adds}
use Rattle.package_table.proofs.Names.{name_total, name_exact, same_some, none_some}
use Rattle.package_table.proofs.Frames.{equal_names, equal_itself, get_inserted}
use Rattle.package_table.proofs.Found.{found_none}
use Rattle.package_table.proofs.KeptSound.{no_entry}
use Rattle.package_table.proofs.Meant.{IsKnown, known, entry_there}
use Rattle.package_table.proofs.Added.{import_added, external_added, import_new_number, map_none, parts_none}
use Rattle.package_table.proofs.Adding.{keyword_number, locked_number, hidden_new, symbol_made, symbol_adds, import_adds, external_adds, adds_both}
use Rattle.package_table.proofs.FoundBy.{found_by, first_is, or_some, shows}
use Rattle.package_table.proofs.ByName.{own_home, symbol_by}
use Rattle.package_table.proofs.Mapped.{named}

-- ---- an entry in place of another
pub insert_twice : {X : Type 0} (m : finite.FinMap name_cmp X) (k : Name) (v w : X) → finite.insert (finite.insert m k v) k w ≡ finite.insert m k w
insert_twice m k v w = finite.same_map name_total name_exact (finite.insert (finite.insert m k v) k w) (finite.insert m k w) (λ q.
    finite.get-insert name_total (finite.insert m k v) k w q
    ∙ ap (cond (eq_by_cmp name_cmp q k) (Some w)) (finite.get-insert name_total m k v q)
    ∙ shadowed v w (eq_by_cmp name_cmp q k) (finite.get m q)
    ∙ sym (finite.get-insert name_total m k w q))
  where
    shadowed : {X : Type 0} (v w : X) (b : Bool) (o : Option X) → cond b (Some w) (cond b (Some v) o) ≡ cond b (Some w) o
    shadowed v w true o = refl
    shadowed v w false o = refl

pub entry_twice : (t : Table) (p n : Name) (e f : Present) → with_entry (with_entry t p n e) p n f ≡ with_entry t p n f
entry_twice t p n e f =
    elim (finite.get t p) as (λ o. finite.get t p ≡ o → with_entry (option_map_or (λ (h : Package). finite.insert t p (record h { symbols = finite.insert h.symbols n e })) o t) p n f ≡ option_map_or (λ (h : Package). finite.insert t p (record h { symbols = finite.insert h.symbols n f })) o t) [
      | None ↦ λ none. ap (λ o. option_map_or (λ (h : Package). finite.insert t p (record h { symbols = finite.insert h.symbols n f })) o t) none
      | Some h ↦ λ _.
          ap (λ o. option_map_or (λ (x : Package). finite.insert (finite.insert t p (record h { symbols = finite.insert h.symbols n e })) p (record x { symbols = finite.insert x.symbols n f })) o (finite.insert t p (record h { symbols = finite.insert h.symbols n e })))
          (get_inserted t p (record h { symbols = finite.insert h.symbols n e }))
          ∙ insert_twice t p (record h { symbols = finite.insert h.symbols n e }) (record h { symbols = finite.insert (finite.insert h.symbols n e) n f })
          ∙ (λ i. finite.insert t p (record h { symbols = insert_twice h.symbols n e f i }))
    ] refl

-- where nothing is found, there is no entry
pub nothing_there : (k : Kept) (P N : Name) → home_by_name (numbered_of k).0 P N ≡ None → entry_at (numbered_of k).0 P N ≡ None
nothing_there k P N none = no_entry (numbered_of k).0 P N (found_none (numbered_of k).0 N P none)

-- the number of a symbol that is present at home
pub at_home_number : (k : Kept) → IsGood k → (H N : Name) (h j : ℕ) → position (bytes_eq H) k.packages ≡ Some h → position (bytes_eq N) k.names ≡ Some j → IsPresent (numbered_of k).0 H N H
    → (i : ℕ) × (position (pair_eq (h, j)) k.symbols ≡ Some i)
at_home_number k good H N h j home there present =
    some (position (pair_eq (h, j)) k.symbols) (symbol_by k good H N h j home there ∙ at_home (entry_at (numbered_of k).0 H N) present)
  where
    at_home : (o : Option Present) → option_map (λ (e : Present). e.home) o ≡ Some H → option_map_or (λ (e : Present). bytes_eq e.home H) o false ≡ true
    at_home None none = absurd (none_some H none)
    at_home (Some e) is = ap (λ n. bytes_eq n H) (same_some e.home H is) ∙ equal_itself H

    some : (o : Option ℕ) → is_some o ≡ true → (i : ℕ) × (o ≡ Some i)
    some None none = absurd (false≢true none)
    some (Some i) _ = (i, refl)

-- two packages of different names have different numbers
pub apart_numbers : (k : Kept) (P Q : Name) (p q : ℕ) → position (bytes_eq P) k.packages ≡ Some p → position (bytes_eq Q) k.packages ≡ Some q → bytes_eq P Q ≡ false → p ≡ q → ⊥
apart_numbers k P Q p q here there differ same =
    false≢true (sym differ ∙ ap (λ n. bytes_eq n Q) ((named P k.packages p here).1 ∙ ap (name_at k.packages) same ∙ sym (named Q k.packages q there).1) ∙ equal_itself Q)

pub none_of : {A : Type 0} (o : Option A) → is_some o ≡ false → o ≡ None
none_of None none = refl
none_of (Some x) some = absurd (false≢true (sym some))

-- what is found is what is there, where something is there
pub own_of : (k : Kept) (p j i : ℕ) → found_number k p j ≡ Some i → is_some (number_in k p j) ≡ true → number_in k p j ≡ Some i
own_of k p j i is some = sym (or_some (number_in k p j) (first_shown k j (positions_of p k.uses)) some) ∙ is

-- a symbol that is found has the name
pub found_known : (k : Kept) → IsGood k → (p j i : ℕ) → found_number k p j ≡ Some i → (i < length k.symbols) × ((pair_at k.symbols i).1 ≡ j)
found_known k good p j i is =
    elim (number_in k p j) as (λ o. number_in k p j ≡ o → option_or o (first_shown k j (positions_of p k.uses)) ≡ Some i → (i < length k.symbols) × ((pair_at k.symbols i).1 ≡ j)) [
      | Some x ↦ λ own same. let at = known k good p j i (own ∙ same) in (at.symbol, at.named_so)
      | None ↦ λ _ later.
          let first = first_is k j (positions_of p k.uses) i later in
          let shown = shows k (pair_at k.uses first.0).1 j i first.2 in
          let at = known k good (pair_at k.uses first.0).1 j i shown.0 in
          (at.symbol, at.named_so)
    ] refl is

module _ (k : Kept) (good : IsGood k) (P N : Name) (p : ℕ) (here : position (bytes_eq P) k.packages ≡ Some p) where
  -- no entry, no number
  pub unnumbered : entry_at (numbered_of k).0 P N ≡ None → (j : ℕ) → position (bytes_eq N) k.names ≡ Some j → number_in k p j ≡ None
  unnumbered none j there = map_none (present_in k p) (number_in k p j) (sym (entry_there k good P p here N j there) ∙ none)

  -- ---- a new symbol
  module _ (nothing : entry_at (numbered_of k).0 P N ≡ None) where
    pub unnamed : symbol_named k p N ≡ None
    unnamed =
        elim (position (bytes_eq N) k.names) as (λ o. position (bytes_eq N) k.names ≡ o → option_and_then (λ j. position (pair_eq (p, j)) k.symbols) o ≡ None) [
          | None ↦ λ _. refl
          | Some j ↦ λ there. (parts_none (position (pair_eq (p, j)) k.symbols) _ (unnumbered nothing j there)).0
        ] refl

    -- in a package that may be locked
    pub interned_so : numbered_of (with_symbol k p N) ≡ with_numbered (numbered_of k) P N (record { home = P; external = nat_lt p 2 }) (length k.symbols)
    interned_so = symbol_made k good p N unnamed (unnumbered nothing) P here

    pub interned : HasFixedNumbers k → bytes_eq P common_lisp ≡ false → numbered_of (with_symbol k p N) ≡ with_numbered (numbered_of k) P N (record { home = P; external = bytes_eq P keyword }) (length k.symbols)
    interned placed open_to =
        interned_so
        ∙ ap (λ b. with_numbered (numbered_of k) P N (record { home = P; external = b }) (length k.symbols)) (keyword_number k placed P p here open_to)

    pub interned_adds : IsGood (with_symbol k p N) → Adds k (with_symbol k p N)
    interned_adds = symbol_adds k good p N unnamed (unnumbered nothing)

  -- ---- a symbol of another home
  module _ (H : Name) (h j i : ℕ) (home : position (bytes_eq H) k.packages ≡ Some h) (there : position (bytes_eq N) k.names ≡ Some j) (is : position (pair_eq (h, j)) k.symbols ≡ Some i) (none : entry_at (numbered_of k).0 P N ≡ None) where
    known_symbol : IsKnown k h j i
    known_symbol = known k good h j i (ap (λ o. option_or o (import_of k h j)) is)

    pub name_is : (pair_at k.symbols i).1 ≡ j
    name_is = known_symbol.named_so

    pub symbol_fits : i < length k.symbols
    symbol_fits = known_symbol.symbol

    pub unimported : number_in k p (pair_at k.symbols i).1 ≡ None
    unimported = ap (number_in k p) known_symbol.named_so ∙ unnumbered none j there

    pub imported : HasFixedNumbers k → is_locked P ≡ false → numbered_of (with_import k p i) ≡ with_numbered (numbered_of k) P N (record { home = H; external = false }) i
    imported placed open_to =
        import_added k good P N p i here known_symbol.symbol (there ∙ ap Some (sym known_symbol.named_so)) unimported
        ∙ (λ t. with_numbered (numbered_of k) P N (record { home = own_home k good H N h j home there i is t; external = hidden_new k placed p i (locked_number k placed P p here ∙ open_to) unimported t }) i)

    pub imported_adds : IsGood (with_import k p i) → Adds k (with_import k p i)
    imported_adds = import_adds k good p i unimported

  -- ---- a symbol that is found
  module _ (j : ℕ) (there : position (bytes_eq N) k.names ≡ Some j) where
    pub this_known : (i : ℕ) → found_number k p j ≡ Some i → (i < length k.symbols) × ((pair_at k.symbols i).1 ≡ j)
    this_known = found_known k good p j

    pub this_found : AreUsesSound (numbered_of k).0 → (H : Name) → finds_this (numbered_of k).0 P H N ≡ true → (i : ℕ) × (found_number k p j ≡ Some i) × (home_in k i ≡ H)
    this_found joined H finds =
        elim (found_number k p j) as (λ o. found_number k p j ≡ o → option_map_or (λ g. bytes_eq g H) (option_map (home_in k) o) false ≡ true → (i : ℕ) × (found_number k p j ≡ Some i) × (home_in k i ≡ H)) [
          | None ↦ λ _ none. absurd (false≢true none)
          | Some i ↦ λ is same. (i, is, equal_names (home_in k i) H same)
        ] refl (ap (λ o. option_map_or (λ g. bytes_eq g H) o false) (found_by k good P N p j here there joined) ∙ finds)

    pub this_home : AreUsesSound (numbered_of k).0 → (H : Name) → finds_this (numbered_of k).0 P H N ≡ true → (i : ℕ) → found_number k p j ≡ Some i → home_in k i ≡ H
    this_home joined H finds i is =
        let found_it = this_found joined H finds in
        ap (home_in k) (same_some i found_it.0 (sym is ∙ found_it.1)) ∙ found_it.2

    -- it is present in p
    pub shown_present : (i : ℕ) (H : Name) → number_in k p j ≡ Some i → home_in k i ≡ H → numbered_of (with_external_number k p i) ≡ with_numbered (numbered_of k) P N (record { home = H; external = true }) i
    shown_present i H is home = external_added k good P N p j i here there is ∙ ap (λ h. with_numbered (numbered_of k) P N (record { home = h; external = true }) i) home

    -- it is not, and becomes so
    module _ (i : ℕ) (less : i < length k.symbols) (name : (pair_at k.symbols i).1 ≡ j) (none : number_in k p j ≡ None) (good_then : IsGood (with_import k p i)) where
      then_none : number_in k p (pair_at k.symbols i).1 ≡ None
      then_none = ap (number_in k p) name ∙ none

      then_number : number_in (with_import k p i) p (pair_at k.symbols i).1 ≡ Some i
      then_number = import_new_number k good P N p i here less (there ∙ ap Some (sym name)) then_none

      pub shown_inherited : (H : Name) → home_in k i ≡ H → (numbered_of (with_external_number (with_import k p i) p i)).0 ≡ with_entry (numbered_of k).0 P N (record { home = H; external = true })
      shown_inherited H home =
          ap (λ (s : Numbered). s.0) (external_added (with_import k p i) good_then P N p (pair_at k.symbols i).1 i here (there ∙ ap Some (sym name)) then_number)
          ∙ ap (λ (s : Numbered). with_entry s.0 P N (record { home = home_in k i; external = true })) (import_added k good P N p i here less (there ∙ ap Some (sym name)) then_none)
          ∙ entry_twice (numbered_of k).0 P N (present_in k p i) (record { home = home_in k i; external = true })
          ∙ ap (λ h. with_entry (numbered_of k).0 P N (record { home = h; external = true })) home

      pub inherited_adds : IsGood (with_external_number (with_import k p i) p i) → Adds k (with_external_number (with_import k p i) p i)
      inherited_adds good_after = adds_both k (with_import k p i) (with_external_number (with_import k p i) p i) (import_adds k good p i then_none good_then) (external_adds (with_import k p i) good_then p (pair_at k.symbols i).1 i then_number good_after)

-- what is not external is not kept as external
pub not_external : (k : Kept) → IsGood k → (P N : Name) (p j i : ℕ) → position (bytes_eq P) k.packages ≡ Some p → position (bytes_eq N) k.names ≡ Some j → number_in k p j ≡ Some i
    → is_external (numbered_of k).0 P N ≡ false → position (pair_eq (p, i)) k.externals ≡ None
not_external k good P N p j i here there is hidden =
    elim (position (pair_eq (p, i)) k.externals) as (λ o. position (pair_eq (p, i)) k.externals ≡ o → o ≡ None) [
      | None ↦ λ _. refl
      | Some x ↦ λ at. absurd (false≢true (sym hidden ∙ ap is_some (ap (λ o. option_map_or (λ (e : Present). cond e.external (Some e.home) None) o None) (entry_there k good P p here N j there ∙ ap (option_map (present_in k p)) is)) ∙ shown x at))
    ] refl
  where
    shown : (x : ℕ) → position (pair_eq (p, i)) k.externals ≡ Some x → is_some (cond (is_shown_in k p i) (Some (home_in k i)) None) ≡ true
    shown x at = ap (λ b. is_some (cond b (Some (home_in k i)) None)) (or_right (nat_lt p 2) (is_some (position (pair_eq (p, i)) k.externals)) (ap is_some at))
