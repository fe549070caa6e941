-- How many symbols a table has after a change of one package.
--     weight, weight-put, weight-insert      a sum over the entries of a map, after an insert
--     symbols_new      one more, after an entry with a new symbol
--     symbols_from_elsewhere, symbols_again      as many, after an entry with a symbol at home elsewhere, and with the one that was there
--     symbols_with_used, symbols_with_new      as many, after a used package and after a new package
--     len_with_package, len_with_new      how many packages
use Rattle.std.proofs.Common.{◌≡◌, ◌≢◌, ℕ, ◌+◌, ◌&&◌, Bool, true, false, cond, T, List, [], ◌∷◌, Option, None, Some, sum_by, filter, length, is_some, bytes_eq, refl, sym, ap, ◌∙◌, arith}
use Rattle.std.proofs.lemmas.List.Sums.{sum_by-cons, length-filter}
use Rattle.std.specs.declared.cmp.Ordering.TheVariants.{Less, Equal, Greater}
use Rattle.std.specs.Option.{option_map_or, option_and_then}
use Rattle.std.specs.Ordering.{is_eq, is_lt}
use Rattle.std.specs.FinMap as finite
use Rattle.std.specs.FinMap.Entries.{find, put, is_sorted, below_all, by_order}
use Rattle.std.proofs.lemmas.List.{nil_from_length}
use Rattle.package_table.specs.Table.{Name, name_cmp, Present, Package, Table, entry_at, IsPackage, with_changed_package, with_entry, with_used, empty_package, symbol_count, own_count, with_new_package}
use Rattle.package_table.proofs.Names.{name_total, name_exact}
use Rattle.package_table.proofs.Frames.{equal_itself, not_equal, package_there}

pub first_of_both : (a b : Bool) → T (a && b) → T a
first_of_both true b t = tt
first_of_both false b t = t

pub second_of_both : (a b : Bool) → T (a && b) → T b
second_of_both true b t = t
second_of_both false b t = absurd t

pub below : (x y : Name) → T (is_lt (name_cmp x y)) → name_cmp x y ≡ Less
below x y t = elim (name_cmp x y) as (λ o. T (is_lt o) → o ≡ Less) [ Less ↦ λ t. refl | Equal ↦ λ t. absurd t | Greater ↦ λ t. absurd t ] t

module _ {X : Type 0} (w : Name → X → ℕ) where
  abbrev pub weight : List (Name × X) → ℕ
  weight es = sum_by (λ e. w e.0 e.1) es

  abbrev pub weight_of : Name → Option X → ℕ
  weight_of k o = option_map_or (w k) o 0

  -- a name below each of the names is none of them
  absent : (k x : Name) (es : List (Name × X)) → name_cmp k x ≡ Less → T (below_all name_cmp x es) → find name_cmp k es ≡ None
  absent k x [] less sorted = refl
  absent k x (e ∷ es) less sorted =
      let before : name_cmp k e.0 ≡ Less = name_total.trans k x e.0 less (below x e.0 (first_of_both _ _ sorted)) in
      ap (λ o. cond (is_eq o) (Some e.1) (find name_cmp k es)) before ∙ absent k x es less (second_of_both _ _ sorted)

  pub weight-put : (k : Name) (v : X) (es : List (Name × X)) → T (is_sorted name_cmp es) → weight (put name_cmp k v es) + weight_of k (find name_cmp k es) ≡ weight es + w k v
  weight-put k v [] sorted = omega arith
  weight-put k v (e ∷ es) sorted =
      elim (name_cmp k e.0) as (λ o. name_cmp k e.0 ≡ o → weight (by_order o ((k, v) ∷ e ∷ es) ((e.0, v) ∷ es) (e ∷ put name_cmp k v es)) + weight_of k (cond (is_eq o) (Some e.1) (find name_cmp k es)) ≡ weight (e ∷ es) + w k v) [
        | Less ↦ λ less.
            let none : find name_cmp k es ≡ None = absent k e.0 es less (first_of_both _ _ sorted) in
            let nothing : weight_of k (find name_cmp k es) ≡ 0 = ap (weight_of k) none in
            let more : weight ((k, v) ∷ e ∷ es) ≡ w k v + weight (e ∷ es) = sum_by-cons (λ (e : Name × X). w e.0 e.1) (k, v) (e ∷ es) in
            omega (arith, nothing, more)
        | Equal ↦ λ same.
            let key : k ≡ e.0 = name_exact k e.0 same in
            let here : weight ((e.0, v) ∷ es) ≡ w e.0 v + weight es = sum_by-cons (λ (e : Name × X). w e.0 e.1) (e.0, v) es in
            let was : weight (e ∷ es) ≡ w e.0 e.1 + weight es = sum_by-cons (λ (e : Name × X). w e.0 e.1) e es in
            let left : w k v ≡ w e.0 v = ap (λ x. w x v) key in
            let right : w k e.1 ≡ w e.0 e.1 = ap (λ x. w x e.1) key in
            omega (arith, here, was, left, right)
        | Greater ↦ λ more.
            let here : weight (e ∷ put name_cmp k v es) ≡ w e.0 e.1 + weight (put name_cmp k v es) = sum_by-cons (λ (e : Name × X). w e.0 e.1) e (put name_cmp k v es) in
            let was : weight (e ∷ es) ≡ w e.0 e.1 + weight es = sum_by-cons (λ (e : Name × X). w e.0 e.1) e es in
            let rest : weight (put name_cmp k v es) + weight_of k (find name_cmp k es) ≡ weight es + w k v = weight-put k v es (second_of_both (below_all name_cmp e.0 es) (is_sorted name_cmp es) sorted) in
            omega (arith, here, was, rest)
      ] refl

  pub weight-insert : (m : finite.FinMap name_cmp X) (k : Name) (v : X) → weight (finite.entries (finite.insert m k v)) + weight_of k (finite.get m k) ≡ weight (finite.entries m) + w k v
  weight-insert m k v =
      (λ i. weight (finite.entries-insert name_total m k v i) + weight_of k (finite.get-entries m k i)) ∙ weight-put k v (finite.entries m) (finite.entries_sorted m)

-- 1 for an entry at home in p
abbrev pub at_home : Name → Present → ℕ
at_home p e = cond (bytes_eq e.home p) 1 0

-- how many are at home in p, as a sum
own_as_sum : (p : Name) (es : List (Name × Present)) → length (filter (λ s. bytes_eq s.1.home p) es) ≡ weight (λ _ e. at_home p e) es
own_as_sum p es = length-filter (λ (s : Name × Present). bytes_eq s.1.home p) es

-- after a change of a package that is there
symbols-change : (t : Table) (p : Name) (f : Package → Package) (k : Package) → finite.get t p ≡ Some k → symbol_count (with_changed_package t p f) + own_count p k ≡ symbol_count t + own_count p (f k)
symbols-change t p f k e =
    let inserted : with_changed_package t p f ≡ finite.insert t p (f k) = ap (λ (o : Option Package). option_map_or (λ k. finite.insert t p (f k)) o t) e in
    let sums : weight own_count (finite.entries (finite.insert t p (f k))) + weight_of own_count p (finite.get t p) ≡ weight own_count (finite.entries t) + own_count p (f k) = weight-insert own_count t p (f k) in
    let was : weight_of own_count p (finite.get t p) ≡ own_count p k = ap (weight_of own_count p) e in
    let is : symbol_count (with_changed_package t p f) ≡ symbol_count (finite.insert t p (f k)) = ap symbol_count inserted in
    omega (arith, sums, was, is)

module _ (t : Table) (p n : Name) (e : Present) (there : IsPackage t p) where
  symbols-entry : symbol_count (with_entry t p n e) + option_map_or (at_home p) (entry_at t p n) 0 ≡ symbol_count t + at_home p e
  symbols-entry =
      let k : Package = (package_there t p there).0 in
      let is : finite.get t p ≡ Some k = (package_there t p there).1 in
      let later : Package = record k { symbols = finite.insert k.symbols n e } in
      let outer : symbol_count (with_entry t p n e) + own_count p k ≡ symbol_count t + own_count p later = symbols-change t p (λ k. record k { symbols = finite.insert k.symbols n e }) k is in
      let inner = weight-insert (λ _ e. at_home p e) k.symbols n e in
      let here : option_map_or (at_home p) (entry_at t p n) 0 ≡ option_map_or (at_home p) (finite.get k.symbols n) 0 = ap (λ (o : Option Package). option_map_or (at_home p) (option_and_then (λ (k : Package). finite.get k.symbols n) o) 0) is in
      let now = own_as_sum p (finite.entries later.symbols) in
      let was = own_as_sum p (finite.entries k.symbols) in
      omega (arith, outer, inner, here, now, was)

  -- a new symbol
  pub symbols_new : entry_at t p n ≡ None → e.home ≡ p → symbol_count (with_entry t p n e) ≡ symbol_count t + 1
  symbols_new none same =
      let sums = symbols-entry in
      let was : option_map_or (at_home p) (entry_at t p n) 0 ≡ 0 = ap (λ (o : Option Present). option_map_or (at_home p) o 0) none in
      let is : at_home p e ≡ 1 = ap (λ (h : Name). cond (bytes_eq h p) 1 0) same ∙ ap (λ b. cond b 1 0) (equal_itself p) in
      omega (arith, sums, was, is)

  -- a symbol from elsewhere at a place where there was none
  pub symbols_from_elsewhere : entry_at t p n ≡ None → e.home ≢ p → symbol_count (with_entry t p n e) ≡ symbol_count t
  symbols_from_elsewhere none apart =
      let sums = symbols-entry in
      let was : option_map_or (at_home p) (entry_at t p n) 0 ≡ 0 = ap (λ (o : Option Present). option_map_or (at_home p) o 0) none in
      let is : at_home p e ≡ 0 = ap (λ b. cond b 1 0) (not_equal e.home p apart) in
      omega (arith, sums, was, is)

  -- the symbol that was there
  pub symbols_again : (old : Present) → entry_at t p n ≡ Some old → old.home ≡ e.home → symbol_count (with_entry t p n e) ≡ symbol_count t
  symbols_again old there_was same =
      let sums = symbols-entry in
      let was : option_map_or (at_home p) (entry_at t p n) 0 ≡ at_home p e = ap (λ (o : Option Present). option_map_or (at_home p) o 0) there_was ∙ ap (λ h. cond (bytes_eq h p) 1 0) same in
      omega (arith, sums, was)

pub symbols_with_used : (t : Table) (p q : Name) → IsPackage t p → symbol_count (with_used t p q) ≡ symbol_count t
symbols_with_used t p q there =
    let k = package_there t p there in
    let sums = symbols-change t p (λ k. record k { uses = finite.insert k.uses q tt }) k.0 k.1 in
    omega (arith, sums)

pub symbols_with_new : (t : Table) (p : Name) → finite.get t p ≡ None → symbol_count (with_new_package t p) ≡ symbol_count t
symbols_with_new t p absent =
    let sums : symbol_count (with_new_package t p) + weight_of own_count p (finite.get t p) ≡ symbol_count t + own_count p empty_package = weight-insert own_count t p empty_package in
    let was : weight_of own_count p (finite.get t p) ≡ 0 = ap (weight_of own_count p) absent in
    let no_symbols : finite.entries empty_package.symbols ≡ [] = nil_from_length (finite.entries empty_package.symbols) (sym (finite.len-entries empty_package.symbols) ∙ finite.len-empty name_cmp Present) in
    let none : own_count p empty_package ≡ 0 = ap (λ (es : List (Name × Present)). length (filter (λ s. bytes_eq s.1.home p) es)) no_symbols in
    omega (arith, sums, was, none)

pub len_with_package : (t : Table) (p : Name) (f : Package → Package) → finite.len (with_changed_package t p f) ≡ finite.len t
len_with_package t p f =
    elim (finite.get t p) as (λ o. finite.get t p ≡ o → finite.len (option_map_or (λ k. finite.insert t p (f k)) o t) ≡ finite.len t) [
      | None ↦ λ e. refl
      | Some k ↦ λ e. finite.len-insert name_total t p (f k) ∙ ap (λ (o : Option Package). cond (is_some o) (finite.len t) (finite.len t + 1)) e
    ] refl

pub len_with_new : (t : Table) (p : Name) → finite.get t p ≡ None → finite.len (with_new_package t p) ≡ finite.len t + 1
len_with_new t p absent =
    finite.len-insert name_total t p empty_package ∙ ap (λ (o : Option Package). cond (is_some o) (finite.len t) (finite.len t + 1)) absent
