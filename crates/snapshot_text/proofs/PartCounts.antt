-- Packages that are a part of others are no more, and have no more symbols; so there is room for each that the others have.
--     len_part, symbols_part      the two counts
--     room_for_package, room_for_symbol      for what is not there yet
use Rattle.std.proofs.Common.{◌≡◌, ◌≢◌, ℕ, ◌+◌, ◌≤◌, ◌<◌, true, false, cond, T, List, [], ◌∷◌, None, Some, length, is_some, bytes_eq, refl, sym, ap, ◌∙◌, inl, inr, ◌⊎◌, arith}
use Rattle.std.proofs.lemmas.List.Sums.{sum_by-cons, length-filter}
use Rattle.std.proofs.lemmas.Bool.{false≢true}
use Rattle.std.specs.declared.cmp.Ordering.TheVariants.{Less, Equal, Greater}
use Rattle.std.specs.Option.{option_and_then}
use Rattle.std.specs.Ordering.{is_eq, eq_by_cmp}
use Rattle.std.specs.FinMap as finite
use Rattle.std.specs.FinMap.Entries.{find, is_sorted, below_all}
use Rattle.package_table.specs.Limits.{most_packages, most_symbols}
use Rattle.package_table.specs.Table.{Name, name_cmp, Present, Package, Table, entry_at, IsPackage, IsPresent, IsWithin, symbol_count, own_count, with_entry, with_new_package}
use Rattle.package_table.proofs.Names.{name_total, name_exact, tied_same, same_tied, same_some, none_some}
use Rattle.package_table.proofs.Frames.{not_same, package_there}
use Rattle.package_table.proofs.Counting.{first_of_both, second_of_both, below, weight, at_home, symbols_new, len_with_new}
use Rattle.snapshot_text.specs.Part.{IsPartOf}
use Rattle.snapshot_text.proofs.PartFinds.{present_entry}
use Rattle.snapshot_text.proofs.PartOrder.{part_with_new, part_with_entry}

-- ---- sums over lists in order

less_apart : (a k : Name) → name_cmp a k ≡ Less → k ≢ a
less_apart a k less = λ (same : k ≡ a). false≢true (sym (ap is_eq less) ∙ ap (λ x. is_eq (name_cmp a x)) same ∙ same_tied a)

-- what is found after a name is above it
above : {X : Type 0} (a k : Name) (x : X) (es : List (Name × X)) → T (below_all name_cmp a es) → find name_cmp k es ≡ Some x → name_cmp a k ≡ Less
above a k x [] under there = absurd (none_some x there)
above a k x (e ∷ es) under there =
    elim (eq_by_cmp name_cmp k e.0) as (λ b. eq_by_cmp name_cmp k e.0 ≡ b → cond b (Some e.1) (find name_cmp k es) ≡ Some x → name_cmp a k ≡ Less) [
      | true ↦ λ same _. ap (name_cmp a) (tied_same k e.0 same) ∙ below a e.0 (first_of_both _ _ under)
      | false ↦ λ _ later. above a k x es (second_of_both _ _ under) later
    ] refl there

at_front : {X : Type 0} (e : Name × X) (es : List (Name × X)) → find name_cmp e.0 (e ∷ es) ≡ Some e.1
at_front e es = ap (λ b. cond b (Some e.1) (find name_cmp e.0 es)) (same_tied e.0)

past_front : {X : Type 0} (k : Name) (e : Name × X) (es : List (Name × X)) → k ≢ e.0 → find name_cmp k (e ∷ es) ≡ find name_cmp k es
past_front k e es differ = ap (λ b. cond b (Some e.1) (find name_cmp k es)) (not_same k e.0 differ)

-- what is found is the first, or above it
first_or_above : {X : Type 0} (e : Name × X) (es : List (Name × X)) (k : Name) (x : X) → T (is_sorted name_cmp (e ∷ es)) → find name_cmp k (e ∷ es) ≡ Some x → (k ≡ e.0) ⊎ (name_cmp e.0 k ≡ Less)
first_or_above e es k x sorted there =
    elim (eq_by_cmp name_cmp k e.0) as (λ b. eq_by_cmp name_cmp k e.0 ≡ b → cond b (Some e.1) (find name_cmp k es) ≡ Some x → (k ≡ e.0) ⊎ (name_cmp e.0 k ≡ Less)) [
      | true ↦ λ same _. inl (tied_same k e.0 same)
      | false ↦ λ _ later. inr (above e.0 k x es (first_of_both _ _ sorted) later)
    ] refl there

module _ {X Y : Type 0} (w : Name → X → ℕ) (v : Name → Y → ℕ) where
  -- each is there too, with no less weight
  abbrev AreWithin : List (Name × X) → List (Name × Y) → Type 0
  AreWithin es fs = (k : Name) (x : X) → find name_cmp k es ≡ Some x → (y : Y) × (find name_cmp k fs ≡ Some y) × (w k x ≤ v k y)

  no_more : (fs : List (Name × Y)) (es : List (Name × X)) → T (is_sorted name_cmp fs) → T (is_sorted name_cmp es) → AreWithin es fs → weight w es ≤ weight v fs
  no_more [] [] sf se are = omega arith
  no_more [] (e ∷ es) sf se are = let y = are e.0 e.1 (at_front e es) in absurd (none_some y.0 y.1)
  no_more (f ∷ fs) [] sf se are = omega arith
  no_more (f ∷ fs) (e ∷ es) sf se are =
      let head = are e.0 e.1 (at_front e es) in
      let ws : weight w (e ∷ es) ≡ w e.0 e.1 + weight w es = sum_by-cons (λ (e : Name × X). w e.0 e.1) e es in
      let vs : weight v (f ∷ fs) ≡ v f.0 f.1 + weight v fs = sum_by-cons (λ (f : Name × Y). v f.0 f.1) f fs in
      elim (name_cmp e.0 f.0) as (λ o. name_cmp e.0 f.0 ≡ o → weight w (e ∷ es) ≤ weight v (f ∷ fs)) [
        | Less ↦ λ less.
            elim (first_or_above f fs e.0 head.0 sf head.1) [
              | inl same ↦ absurd (less_apart e.0 f.0 less (sym same))
              | inr more ↦ absurd (less_apart e.0 e.0 (name_total.trans e.0 f.0 e.0 less more) refl)
            ]
        | Equal ↦ λ tied.
            let key : e.0 ≡ f.0 = name_exact e.0 f.0 tied in
            let value : f.1 ≡ head.0 = same_some f.1 head.0 (sym (ap (λ k. find name_cmp k (f ∷ fs)) key ∙ at_front f fs) ∙ head.1) in
            let same : v e.0 head.0 ≡ v f.0 f.1 = λ i. v (key i) (sym value i) in
            let heavier : w e.0 e.1 ≤ v e.0 head.0 = head.2 in
            let later : weight w es ≤ weight v fs =
            no_more fs es (second_of_both (below_all name_cmp f.0 fs) (is_sorted name_cmp fs) sf) (second_of_both (below_all name_cmp e.0 es) (is_sorted name_cmp es) se) (λ k x there.
            let over : k ≢ e.0 = less_apart e.0 k (above e.0 k x es (first_of_both _ _ se) there) in
            let y = are k x (past_front k e es over ∙ there) in
            (y.0, sym (past_front k f fs (λ (is : k ≡ f.0). over (is ∙ sym key))) ∙ y.1, y.2)) in
            omega (arith, ws, vs, same, heavier, later)
        | Greater ↦ λ greater.
            let later : weight w (e ∷ es) ≤ weight v fs =
            no_more fs (e ∷ es) (second_of_both (below_all name_cmp f.0 fs) (is_sorted name_cmp fs) sf) se (λ k x there.
            let y = are k x there in
            let over : k ≢ f.0 = λ (is : k ≡ f.0).
            elim (first_or_above e es k x se there) [
              | inl same ↦ false≢true (sym (ap is_eq greater) ∙ ap (λ z. is_eq (name_cmp e.0 z)) (sym is ∙ same) ∙ same_tied e.0)
              | inr less ↦ let both : Less ≡ Greater = sym less ∙ ap (name_cmp e.0) is ∙ greater in cc
            ] in
            (y.0, sym (past_front k f fs over) ∙ y.1, y.2)) in
            omega (arith, vs, later)
      ] refl

  no_more_in : (m : finite.FinMap name_cmp X) (n : finite.FinMap name_cmp Y) → ((k : Name) (x : X) → finite.get m k ≡ Some x → (y : Y) × (finite.get n k ≡ Some y) × (w k x ≤ v k y))
      → weight w (finite.entries m) ≤ weight v (finite.entries n)
  no_more_in m n are =
      no_more (finite.entries n) (finite.entries m) (finite.entries_sorted n) (finite.entries_sorted m) (λ k x there.
      let y = are k x (finite.get-entries m k ∙ there) in
      (y.0, sym (finite.get-entries n k) ∙ y.1, y.2))

-- ---- packages and symbols

length_as_sum : {X : Type 0} (es : List (Name × X)) → length es ≡ weight (λ _ _. 1) es
length_as_sum [] = refl
length_as_sum (e ∷ es) = let later = length_as_sum es in let all = sum_by-cons (λ (_ : Name × _). 1) e es in omega (arith, later, all)

len_as_sum : (t : Table) → finite.len t ≡ weight (λ _ _. 1) (finite.entries t)
len_as_sum t = finite.len-entries t ∙ length_as_sum (finite.entries t)

own_as_sum : (p : Name) (k : Package) → own_count p k ≡ weight (λ _ e. at_home p e) (finite.entries k.symbols)
own_as_sum p k = length-filter (λ (s : Name × Present). bytes_eq s.1.home p) (finite.entries k.symbols)

module _ (t s : Table) (part : IsPartOf t s) where
  package_too : (p : Name) (k : Package) → finite.get t p ≡ Some k → (l : Package) × (finite.get s p ≡ Some l)
  package_too p k there = package_there s p (part.packages p (ap is_some there))

  pub len_part : finite.len t ≤ finite.len s
  len_part =
      let sums = no_more_in (λ _ _. 1) (λ _ _. 1) t s (λ p k there. let l = package_too p k there in (l.0, l.1, omega arith)) in
      omega (arith, sums, len_as_sum t, len_as_sum s)

  own_part : (p : Name) (k l : Package) → finite.get t p ≡ Some k → finite.get s p ≡ Some l → own_count p k ≤ own_count p l
  own_part p k l here there =
      let sums = no_more_in (λ _ e. at_home p e) (λ _ e. at_home p e) k.symbols l.symbols (λ n e is.
      let f = part.symbols p n e (ap (option_and_then (λ (k : Package). finite.get k.symbols n)) here ∙ is) in
      let same : at_home p e ≡ at_home p f.0 = ap (λ h. cond (bytes_eq h p) 1 0) f.2.home in
      (f.0, sym (ap (option_and_then (λ (k : Package). finite.get k.symbols n)) there) ∙ f.1, omega (arith, same))) in
      omega (arith, sums, own_as_sum p k, own_as_sum p l)

  pub symbols_part : symbol_count t ≤ symbol_count s
  symbols_part = no_more_in own_count own_count t s (λ p k here. let l = package_too p k here in (l.0, l.1, own_part p k l.0 here l.1))

-- a package, or a symbol at home in a package, that is there and not here
module _ (t s : Table) (part : IsPartOf t s) (within : IsWithin s) where
  pub room_for_package : (p : Name) → finite.get t p ≡ None → IsPackage s p → finite.len t < most_packages
  room_for_package p absent there =
      let more = len_with_new t p absent in
      let fewer = len_part (with_new_package t p) s (part_with_new t s part p absent there) in
      let few = within.packages in
      omega (arith, more, fewer, few)

  pub room_for_symbol : (p n : Name) → IsPackage t p → entry_at t p n ≡ None → IsPresent s p n p → symbol_count t < most_symbols
  room_for_symbol p n here absent there =
      let f = present_entry s p n p there in
      let e : Present = record { home = p; external = false } in
      let after = part_with_entry t s part p n e f.0 here f.1 (record { home = sym f.2; external = λ shown. absurd (false≢true shown) }) in
      let more = symbols_new t p n e here absent refl in
      let fewer = symbols_part (with_entry t p n e) s after in
      let few = within.symbols in
      omega (arith, more, fewer, few)
