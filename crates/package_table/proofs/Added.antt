-- What each thing that is added to the kept lists makes of the packages by names.
--     name_added, symbol_added      a name of symbols, and a symbol
--     import_added, external_added      an import, and a symbol that becomes external
--     use_added, package_added      a package that is used, and a new one
use Rattle.std.proofs.Common.{◌≡◌, ◌≢◌, ◌⊎◌, ◌<◌, ◌≤◌, ℕ, Bool, true, false, cond, ◌||◌, nat_lt, is_some, List, [], ◌∷◌, ◌++◌, length, get_or, position, Option, None, Some, option_map, bytes_eq, refl, sym, ap, ◌∙◌, inl, inr, arith}
use Rattle.std.proofs.lemmas.List.{get_or_append_left, get_or_push}
use Rattle.std.specs.Option.{option_or, option_map_or}
use Rattle.std.specs.List.{IsDistinct}
use Rattle.std.specs.FinMap as finite
use Rattle.package_sets.specs.KeptSets.{Kept, import_of, name_at, pair_at, pair_eq}
use Rattle.package_sets.specs.Consistent.{IsGood}
use Rattle.package_sets.specs.Changes.{with_external_number, with_import, with_package, with_use}
use Rattle.package_table.specs.Table.{Name, Present, Package, empty_package}
use Rattle.package_table.specs.Numbers.{with_numbered, with_used_package as with_used_number, with_package_made}
use Rattle.package_table.specs.Meaning.{map_by, number_in, is_shown_in, present_in, package_of_number, numbers_in, table_of, all_numbers_of, numbered_of}
use Rattle.package_table.proofs.Names.{none_some}
use Rattle.package_table.proofs.Mapped.{position_push, named, got_at, put, more, more_put, none_by}
use Rattle.package_table.proofs.Meant.{IsKnown, known, unknown, same_pair, other_pair, pair_there, entry_put, home_fits}

-- a list of pairs with one more: at another pair it has what it had
pub other_push : (ps : List (ℕ × ℕ)) (a b : ℕ × ℕ) → pair_eq a b ≡ false → position (pair_eq a) (ps ++ b ∷ []) ≡ position (pair_eq a) ps
other_push ps a b differ =
    position_push (pair_eq a) ps b
    ∙ ap (λ c. option_or (position (pair_eq a) ps) (cond c (Some (length ps)) None)) differ
    ∙ or_none (position (pair_eq a) ps)
  where
    or_none : (o : Option ℕ) → option_or o None ≡ o
    or_none None = refl
    or_none (Some i) = refl

new_push : (ps : List (ℕ × ℕ)) (a : ℕ × ℕ) → position (pair_eq a) ps ≡ None → position (pair_eq a) (ps ++ a ∷ []) ≡ Some (length ps)
new_push ps a none = position_push (pair_eq a) ps a ∙ (λ i. option_or (none i) (cond (same_pair a i) (Some (length ps)) None))

-- neither at home nor imported
pub parts_none : (o q : Option ℕ) → option_or o q ≡ None → (o ≡ None) × (q ≡ None)
parts_none None q none = (refl, none)
parts_none (Some x) q none = absurd (none_some x (sym none))

pub map_none : {A B : Type 0} (f : A → B) (o : Option A) → option_map f o ≡ None → o ≡ None
map_none f None none = refl
map_none f (Some x) none = absurd (none_some (f x) (sym none))

-- what is seen alike of each number that is kept
seen_alike : (k : Kept) (good : IsGood k) (q m : ℕ) (f g : ℕ → Present) → ((x : ℕ) → IsKnown k q m x → f x ≡ g x) → option_map f (number_in k q m) ≡ option_map g (number_in k q m)
seen_alike k good q m f g alike =
    elim (number_in k q m) as (λ o. number_in k q m ≡ o → option_map f o ≡ option_map g o) [
      | None ↦ λ _. refl
      | Some x ↦ λ is. ap Some (alike x (known k good q m x is))
    ] refl

-- ---- a name
module _ (k : Kept) (good : IsGood k) (N : Name) (new : position (bytes_eq N) k.names ≡ None) where
  pub no_number : (p : ℕ) → number_in k p (length k.names) ≡ None
  no_number p = unknown k good p (length k.names) (λ i is. (let less : length k.names < length k.names = is.name in absurd (omega (arith, less))))

  pub name_added : numbered_of (record k { names = k.names ++ N ∷ [] }) ≡ numbered_of k
  unfolding numbered_of
  name_added = λ t. (
    map_by k.packages (λ p. Some (record { symbols = symbols_same p t; uses = (package_of_number k p).uses })),
    map_by k.packages (λ p. Some (numbers_same p t)),
  )
    where
      symbols_same : (p : ℕ) → map_by (k.names ++ N ∷ []) (λ j. option_map (present_in k p) (number_in k p j)) ≡ map_by k.names (λ j. option_map (present_in k p) (number_in k p j))
      symbols_same p = more k.names good.distinct.names N new (λ j. option_map (present_in k p) (number_in k p j)) (ap (option_map (present_in k p)) (no_number p))

      numbers_same : (p : ℕ) → map_by (k.names ++ N ∷ []) (number_in k p) ≡ map_by k.names (number_in k p)
      numbers_same p = more k.names good.distinct.names N new (number_in k p) (no_number p)

-- ---- a symbol, whose name is kept: c is k, or k with the name
module _ (k : Kept) (good : IsGood k) (ns : List Name) (distinct : IsDistinct bytes_eq ns) (P N : Name) (p j : ℕ)
    (here : position (bytes_eq P) k.packages ≡ Some p) (there : position (bytes_eq N) ns ≡ Some j) (none : number_in k p j ≡ None) where
  abbrev named_so : Kept
  named_so = record k { names = ns }

  abbrev with_it : Kept
  with_it = record k { names = ns; symbols = k.symbols ++ (p, j) ∷ [] }

  own_none : position (pair_eq (p, j)) k.symbols ≡ None
  own_none = (parts_none (position (pair_eq (p, j)) k.symbols) (import_of k p j) none).0

  numbers_stay : (q m : ℕ) → (q ≢ p) ⊎ (m ≢ j) → number_in with_it q m ≡ number_in k q m
  numbers_stay q m apart = ap (λ o. option_or o (import_of k q m)) (other_push k.symbols (q, m) (p, j) (other_pair (q, m) (p, j) apart))

  number_new : number_in with_it p j ≡ Some (length k.symbols)
  number_new = ap (λ o. option_or o (import_of k p j)) (new_push k.symbols (p, j) own_none)

  present_stays : (q x : ℕ) → x < length k.symbols → present_in with_it q x ≡ present_in k q x
  present_stays q x less = ap (λ (s : ℕ × ℕ). record { home = name_at k.packages s.0; external = is_shown_in k q x }) (get_or_append_left k.symbols ((p, j) ∷ []) (0, 0) x less)

  not_shown : position (pair_eq (p, length k.symbols)) k.externals ≡ None
  not_shown =
      elim (position (pair_eq (p, length k.symbols)) k.externals) as (λ o. position (pair_eq (p, length k.symbols)) k.externals ≡ o → o ≡ None) [
        | None ↦ λ _. refl
        | Some x ↦ λ is.
            let less : length k.symbols < length k.symbols = (pair_there (length k.packages) (length k.symbols) k.externals good.within.externals (p, length k.symbols) x is).3 in
            absurd (omega (arith, less))
      ] refl

  or_false : (b : Bool) → (b || false) ≡ b
  or_false true = refl
  or_false false = refl

  present_new : present_in with_it p (length k.symbols) ≡ record { home = P; external = nat_lt p 2 }
  present_new = λ t. record { home = home t; external = external t }
    where
      home : name_at k.packages (pair_at (k.symbols ++ (p, j) ∷ []) (length k.symbols)).0 ≡ P
      home = ap (λ (s : ℕ × ℕ). name_at k.packages s.0) (get_or_push k.symbols (p, j) (0, 0) (length k.symbols) refl) ∙ sym (named P k.packages p here).1

      external : is_shown_in k p (length k.symbols) ≡ nat_lt p 2
      external = ap (λ o. nat_lt p 2 || is_some o) not_shown ∙ or_false (nat_lt p 2)

  pub symbol_added : numbered_of (record k { names = ns; symbols = k.symbols ++ (p, j) ∷ [] }) ≡ with_numbered (numbered_of (record k { names = ns })) P N (record { home = P; external = nat_lt p 2 }) (length k.symbols)
  unfolding numbered_of
  symbol_added = entry_put named_so distinct good.distinct.packages P N p j here there (record { home = P; external = nat_lt p 2 }) (length k.symbols)
      (number_in with_it) (present_in with_it)
      (λ q m apart. ap (option_map (present_in with_it q)) (numbers_stay q m apart) ∙ seen_alike k good q m (present_in with_it q) (present_in k q) (λ x is. present_stays q x is.symbol))
      numbers_stay
      (ap (option_map (present_in with_it p)) number_new ∙ ap Some present_new)
      number_new

-- ---- an import
module _ (k : Kept) (good : IsGood k) (p i : ℕ) where
  import_stays : (q m : ℕ) → (q ≢ p) ⊎ (m ≢ (pair_at k.symbols i).1) → import_of (with_import k p i) q m ≡ import_of k q m
  import_stays q m apart =
      ap (option_map (λ x. get_or (k.imported ++ i ∷ []) x 0)) (other_push k.imports (q, m) (p, (pair_at k.symbols i).1) (other_pair (q, m) (p, (pair_at k.symbols i).1) apart))
      ∙ elim (position (pair_eq (q, m)) k.imports) as (λ o. position (pair_eq (q, m)) k.imports ≡ o → option_map (λ x. get_or (k.imported ++ i ∷ []) x 0) o ≡ option_map (λ x. get_or k.imported x 0) o) [
        | None ↦ λ _. refl
        | Some x ↦ λ is.
            let fits : x < length k.imports = (pair_there (length k.packages) (length k.names) k.imports good.within.imports (q, m) x is).0 in
            let many = good.as_many in
            ap Some (get_or_append_left k.imported (i ∷ []) 0 x (omega (arith, fits, many)))
      ] refl

  pub import_stays_number : (q m : ℕ) → (q ≢ p) ⊎ (m ≢ (pair_at k.symbols i).1) → number_in (with_import k p i) q m ≡ number_in k q m
  import_stays_number q m apart = ap (option_or (position (pair_eq (q, m)) k.symbols)) (import_stays q m apart)

module _ (k : Kept) (good : IsGood k) (P N : Name) (p i : ℕ) (here : position (bytes_eq P) k.packages ≡ Some p) (less : i < length k.symbols)
    (there : position (bytes_eq N) k.names ≡ Some (pair_at k.symbols i).1) (none : number_in k p (pair_at k.symbols i).1 ≡ None) where
  pub import_new_number : number_in (with_import k p i) p (pair_at k.symbols i).1 ≡ Some i
  import_new_number =
      let parts = parts_none (position (pair_eq (p, (pair_at k.symbols i).1)) k.symbols) (import_of k p (pair_at k.symbols i).1) none in
      let absent : position (pair_eq (p, (pair_at k.symbols i).1)) k.imports ≡ None = map_none (λ m. get_or k.imported m 0) (position (pair_eq (p, (pair_at k.symbols i).1)) k.imports) parts.1 in
      ap (λ o. option_or o (import_of (with_import k p i) p (pair_at k.symbols i).1)) parts.0
      ∙ ap (option_map (λ x. get_or (k.imported ++ i ∷ []) x 0)) (new_push k.imports (p, (pair_at k.symbols i).1) absent)
      ∙ ap Some (get_or_push k.imported i 0 (length k.imports) good.as_many)

  pub import_added : numbered_of (with_import k p i) ≡ with_numbered (numbered_of k) P N (present_in k p i) i
  unfolding numbered_of
  import_added = entry_put k good.distinct.names good.distinct.packages P N p (pair_at k.symbols i).1 here there (present_in k p i) i
      (number_in (with_import k p i)) (present_in (with_import k p i))
      (λ q m apart. ap (option_map (present_in k q)) (import_stays_number k good p i q m apart))
      (import_stays_number k good p i)
      (ap (option_map (present_in k p)) import_new_number)
      import_new_number

-- ---- a symbol that becomes external
module _ (k : Kept) (good : IsGood k) (P N : Name) (p j i : ℕ) (here : position (bytes_eq P) k.packages ≡ Some p)
    (there : position (bytes_eq N) k.names ≡ Some j) (is : number_in k p j ≡ Some i) where
  or_true : (b : Bool) → (b || true) ≡ true
  or_true true = refl
  or_true false = refl

  shown_push : (ps : List (ℕ × ℕ)) (a : ℕ × ℕ) → is_some (position (pair_eq a) (ps ++ a ∷ [])) ≡ true
  shown_push ps a =
      ap is_some (position_push (pair_eq a) ps a)
      ∙ elim (position (pair_eq a) ps) as (λ o. is_some (option_or o (cond (pair_eq a a) (Some (length ps)) None)) ≡ true) [
        | Some x ↦ refl
        | None ↦ ap (λ b. is_some (cond b (Some (length ps)) None)) (same_pair a)
      ]

  others_shown : (q x : ℕ) → (q ≢ p) ⊎ (x ≢ i) → present_in (with_external_number k p i) q x ≡ present_in k q x
  others_shown q x apart = ap (λ o. record { home = name_at k.packages (pair_at k.symbols x).0; external = nat_lt q 2 || is_some o }) (other_push k.externals (q, x) (p, i) (other_pair (q, x) (p, i) apart))

  pub external_added : numbered_of (with_external_number k p i) ≡ with_numbered (numbered_of k) P N (record { home = name_at k.packages (pair_at k.symbols i).0; external = true }) i
  unfolding numbered_of
  external_added = entry_put k good.distinct.names good.distinct.packages P N p j here there (record { home = name_at k.packages (pair_at k.symbols i).0; external = true }) i
      (number_in k) (present_in (with_external_number k p i))
      (λ q m apart. seen_alike k good q m (present_in (with_external_number k p i) q) (present_in k q) (λ x is_x. others_shown q x (elsewhere q m x apart is_x)))
      (λ q m apart. refl)
      (ap (option_map (present_in (with_external_number k p i) p)) is ∙ ap Some (λ t. record { home = name_at k.packages (pair_at k.symbols i).0; external = now_shown t }))
      is
    where
      now_shown : is_shown_in (with_external_number k p i) p i ≡ true
      now_shown = ap (λ b. nat_lt p 2 || b) (shown_push k.externals (p, i)) ∙ or_true (nat_lt p 2)

      elsewhere : (q m x : ℕ) → (q ≢ p) ⊎ (m ≢ j) → IsKnown k q m x → (q ≢ p) ⊎ (x ≢ i)
      elsewhere q m x (inl apart) is_x = inl apart
      elsewhere q m x (inr apart) is_x = inr (λ (one : x ≡ i). apart (sym is_x.named_so ∙ ap (λ y. (pair_at k.symbols y).1) one ∙ (known k good p j i is).named_so))

-- ---- a package that is used
module _ (k : Kept) (good : IsGood k) (P Q : Name) (p q : ℕ) (here : position (bytes_eq P) k.packages ≡ Some p) (there : position (bytes_eq Q) k.packages ≡ Some q)
    (unused : position (pair_eq (p, q)) k.uses ≡ None) where
  use_stays : (a b : ℕ) → (a ≢ p) ⊎ (b ≢ q) → ◌≡◌ {A = Option (Unit {0})} (option_map (λ _. tt) (position (pair_eq (a, b)) (k.uses ++ (p, q) ∷ []))) (option_map (λ _. tt) (position (pair_eq (a, b)) k.uses))
  use_stays a b apart = ap (option_map (λ _. tt {0})) (other_push k.uses (a, b) (p, q) (other_pair (a, b) (p, q) apart))

  uses_same : (a : ℕ) → a ≢ p → (package_of_number (with_use k p q) a).uses ≡ (package_of_number k a).uses
  uses_same a apart = λ t. map_by k.packages (λ b. use_stays a b (inl apart) t)

  uses_more : (package_of_number (with_use k p q) p).uses ≡ finite.insert (package_of_number k p).uses Q tt
  uses_more = put k.packages good.distinct.packages (λ b. option_map (λ _. tt {0}) (position (pair_eq (p, b)) k.uses)) (λ b. option_map (λ _. tt {0}) (position (pair_eq (p, b)) (k.uses ++ (p, q) ∷ []))) Q q tt there
      (λ b _ apart. use_stays p b (inr apart))
      (ap (option_map (λ _. tt {0})) (new_push k.uses (p, q) unused))

  pub use_added : numbered_of (with_use k p q) ≡ with_used_number (numbered_of k) P Q
  unfolding numbered_of
  use_added = λ t. (tables t, all_numbers_of k)
    where
      tables : table_of (with_use k p q) ≡ option_map_or (λ (h : Package). finite.insert (table_of k) P (record h { uses = finite.insert h.uses Q tt })) (finite.get (table_of k) P) (table_of k)
      tables =
          put k.packages good.distinct.packages (λ a. Some (package_of_number k a)) (λ a. Some (package_of_number (with_use k p q) a)) P p (record (package_of_number k p) { uses = finite.insert (package_of_number k p).uses Q tt }) here
          (λ a _ apart t. Some (record { symbols = (package_of_number k a).symbols; uses = uses_same a apart t }))
          (λ t. Some (record { symbols = (package_of_number k p).symbols; uses = uses_more t }))
          ∙ sym (ap (λ o. option_map_or (λ (h : Package). finite.insert (table_of k) P (record h { uses = finite.insert h.uses Q tt })) o (table_of k)) (got_at k.packages good.distinct.packages (λ a. Some (package_of_number k a)) P p here))

-- ---- a package
module _ (k : Kept) (good : IsGood k) (P : Name) (new : position (bytes_eq P) k.packages ≡ None) where
  count : ℕ
  count = length k.packages

  home_stays : (p x : ℕ) → x < length k.symbols → present_in (with_package k P) p x ≡ present_in k p x
  home_stays p x less = ap (λ n. record { home = n; external = is_shown_in k p x }) (get_or_append_left k.packages (P ∷ []) [] (pair_at k.symbols x).0 (home_fits k good x less))

  abbrev used : ℕ → ℕ → Option (Unit {0})
  used p q = option_map (λ _. tt) (position (pair_eq (p, q)) k.uses)

  no_use : (p q : ℕ) → (length k.packages ≤ p) ⊎ (length k.packages ≤ q) → used p q ≡ None
  no_use p q past =
      elim (position (pair_eq (p, q)) k.uses) as (λ o. position (pair_eq (p, q)) k.uses ≡ o → ◌≡◌ {A = Option (Unit {0})} (option_map (λ _. tt) o) None) [
        | None ↦ λ _. refl
        | Some x ↦ λ is.
            let fits = pair_there (length k.packages) (length k.packages) k.uses good.within.uses (p, q) x is in
            let first : p < length k.packages = fits.2 in
            let second : q < length k.packages = fits.3 in
            absurd (elim past [ inl low ↦ omega (arith, low, first) | inr low ↦ omega (arith, low, second) ])
      ] refl

  no_number_new : (j : ℕ) → number_in k count j ≡ None
  unfolding count
  no_number_new j = unknown k good (length k.packages) j (λ i is. (let less : length k.packages < length k.packages = is.owner in absurd (omega (arith, less))))

  package_stays : (p : ℕ) → package_of_number (with_package k P) p ≡ package_of_number k p
  package_stays p = λ t. record {
    symbols = map_by k.names (λ j. seen_alike k good p j (present_in (with_package k P) p) (present_in k p) (λ x is. home_stays p x is.symbol) t);
    uses = more k.packages good.distinct.packages P new (used p) (no_use p (length k.packages) (inr (omega arith))) t;
  }

  package_new : package_of_number (with_package k P) count ≡ empty_package
  unfolding count
  package_new = λ t. record { symbols = symbols t; uses = uses t }
    where
      symbols : (package_of_number (with_package k P) (length k.packages)).symbols ≡ finite.empty
      symbols = (λ t. map_by k.names (λ j. option_map (present_in (with_package k P) (length k.packages)) (no_number_new j t))) ∙ none_by k.names

      uses : map_by (k.packages ++ P ∷ []) (used (length k.packages)) ≡ finite.empty
      uses = (λ t. map_by (k.packages ++ P ∷ []) (λ q. no_use (length k.packages) q (inl (omega arith)) t)) ∙ none_by (k.packages ++ P ∷ [])

  numbers_new : numbers_in k count ≡ finite.empty
  numbers_new = (λ t. map_by k.names (λ j. no_number_new j t)) ∙ none_by k.names

  pub package_added : numbered_of (with_package k P) ≡ with_package_made (numbered_of k) P
  unfolding numbered_of count
  package_added = λ t. (tables t, all_numbers t)
    where
      tables : table_of (with_package k P) ≡ finite.insert (table_of k) P empty_package
      tables =
          more_put k.packages good.distinct.packages P new (λ p. Some (package_of_number (with_package k P) p)) empty_package (ap Some package_new)
          ∙ ap (λ m. finite.insert m P empty_package) (λ t. map_by k.packages (λ p. Some (package_stays p t)))

      all_numbers : all_numbers_of (with_package k P) ≡ finite.insert (all_numbers_of k) P finite.empty
      all_numbers = more_put k.packages good.distinct.packages P new (λ p. Some (numbers_in k p)) finite.empty (ap Some numbers_new)
