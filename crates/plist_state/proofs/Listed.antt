-- The property lists of the symbols, from those of their numbers.
--     lists_get, lists_at, lists_none      what a symbol has
--     lists_keys      the symbols that have a list
--     lists_put      a list that is put at the number of a symbol
--     lists_grown      packages in which no symbol is lost and each keeps its number
--     lists_empty      no lists
--     owned_put, owned_grown, owned_empty      each number that has a list or is an indicator is that of a symbol
use Rattle.std.proofs.Common.{◌≡◌, ℕ, true, false, cond, Option, None, Some, IsTrue, is_some, unwrap_or, [], All, map, filter, refl, sym, ap, subst, ◌∙◌}
use Rattle.std.specs.Option.{option_map, option_and_then}
use Rattle.std.specs.Ordering.{nat_cmp, eq_by_cmp}
use Rattle.std.proofs.lemmas.Bool.{false≢true}
use Rattle.std.proofs.lemmas.List.Elements.{All-nil, All-weaker}
use Rattle.std.specs.FinMap as finite
use Rattle.std.specs.FinMap.{get-empty, get-from_entries, same_map}
use Rattle.std.specs.List.{list_any}
use Rattle.lisp_object.specs.Object.{Object}
use Rattle.lisp_object.proofs.TreeEntries.{entries_in_order}
use Rattle.package_table.specs.Lookup.{is_symbol}
use Rattle.package_table.specs.Numbers.{Numbered, number_at, number_of}
use Rattle.package_table.specs.Numbering.{AreSymbolsNumbered, KeepsNumbers}
use Rattle.package_table.specs.Growth.{Grows}
use Rattle.package_table.proofs.Numbered.{number_there, number_apart, number_kept}
use Rattle.plist_state.specs.Properties.{Symbol, Plist, symbol_cmp, list_at, with_list}
use Rattle.plist_state.specs.Lists.{NumberedPlist, NumberedLists, plist_of_number, with_row, symbols, numbered_symbol, IsNumber, named_plist, property_list_of, lists, AreListsOfSymbols}
use Rattle.plist_state.proofs.Orders.{symbol_total, symbol_exact, one_symbol, symbol_tied}
use Rattle.plist_state.proofs.Lists.{kept, unwrap_kept, get-with_list}
use Rattle.plist_state.proofs.AllSymbols.{listed, symbol_among, found_listed, keys_listed, symbols_rise, listed_rise}
use Rattle.plist_state.proofs.ListRows.{one_number, number_tied, get-with_row}
use Rattle.plist_state.proofs.Named.{number_is, number_grown, number_stays, named_grown, kept_named}

pub lists_get : (s : Numbered) (m : NumberedLists) (x : Symbol) → finite.get (lists s m) x ≡ property_list_of s m x
lists_get s m x =
    get-from_entries symbol_total (listed (property_list_of s m) (symbols s.0)) x ∙ found_listed (property_list_of s m) x (symbols s.0)
    ∙ elim (list_any (eq_by_cmp symbol_cmp x) (symbols s.0)) as (λ b. list_any (eq_by_cmp symbol_cmp x) (symbols s.0) ≡ b → cond b (property_list_of s m x) None ≡ property_list_of s m x) [
      | true ↦ λ _. refl
      | false ↦ λ absent.
          elim (is_symbol s.0 x.0 x.1) as (λ b. is_symbol s.0 x.0 x.1 ≡ b → ◌≡◌ {A = Option Plist} None (option_map (named_plist s) (option_and_then (finite.get m) (cond b (number_at s.1 x.0 x.1) None)))) [
            | true ↦ λ there. absurd (false≢true (sym absent ∙ symbol_among s.0 x there))
            | false ↦ λ _. refl
          ] refl
    ] refl

-- the symbols that have a list, in their order
pub lists_keys : (s : Numbered) (m : NumberedLists) → finite.keys (lists s m) ≡ filter (λ x. is_some (property_list_of s m x)) (symbols s.0)
lists_keys s m =
    let es = listed (property_list_of s m) (symbols s.0) in
    ap (map (λ (e : Symbol × Plist). e.0)) (entries_in_order (λ (x : Symbol). x) symbol_cmp symbol_total symbol_exact es (listed_rise (property_list_of s m) (symbols s.0) (symbols_rise s.0)))
    ∙ keys_listed (property_list_of s m) (symbols s.0)

pub lists_at : (s : Numbered) (m : NumberedLists) (x : Symbol) (i : ℕ) → number_of s x.0 x.1 ≡ Some i → list_at (lists s m) x ≡ named_plist s (plist_of_number m i)
lists_at s m x i is =
    ap (λ o. unwrap_or o []) (lists_get s m x ∙ ap (λ o. option_map (named_plist s) (option_and_then (finite.get m) o)) is)
    ∙ elim (finite.get m i) as (λ o. unwrap_or (option_map (named_plist s) o) [] ≡ named_plist s (unwrap_or o [])) [ None ↦ refl | Some ps ↦ refl ]

pub lists_none : (s : Numbered) (m : NumberedLists) (x : Symbol) → number_of s x.0 x.1 ≡ None → list_at (lists s m) x ≡ []
lists_none s m x is = ap (λ o. unwrap_or o []) (lists_get s m x ∙ ap (λ o. option_map (named_plist s) (option_and_then (finite.get m) o)) is)

-- a number is that of one symbol alone
apart : (s : Numbered) (count : ℕ) → AreSymbolsNumbered s count → (m : NumberedLists) (x q : Symbol) (i : ℕ) (ps : NumberedPlist) → number_of s x.0 x.1 ≡ Some i
    → eq_by_cmp symbol_cmp q x ≡ false → property_list_of s (with_row m i ps) q ≡ property_list_of s m q
apart s count numbered m x q i ps is other =
    elim (number_of s q.0 q.1) as (λ o. number_of s q.0 q.1 ≡ o → option_map (named_plist s) (option_and_then (finite.get (with_row m i ps)) o) ≡ option_map (named_plist s) (option_and_then (finite.get m) o)) [
      | None ↦ λ _. refl
      | Some j ↦ λ at. ap (option_map (named_plist s)) (
          get-with_row m i ps j
          ∙ elim (eq_by_cmp nat_cmp j i) as (λ b. eq_by_cmp nat_cmp j i ≡ b → cond b (kept ps) (finite.get m j) ≡ finite.get m j) [
            | false ↦ λ _. refl
            | true ↦ λ t.
                let one : (q.0 ≡ x.0) × (q.1 ≡ x.1) = number_apart s count numbered q.0 q.1 x.0 x.1 i (at ∙ ap Some (one_number j i t)) is in
                let same : q ≡ x = λ k. (one.0 k, one.1 k) in
                absurd (false≢true (sym other ∙ ap (λ y. eq_by_cmp symbol_cmp y x) same ∙ symbol_tied x))
          ] refl)
    ] refl

pub lists_put : (s : Numbered) (count : ℕ) → AreSymbolsNumbered s count → (m : NumberedLists) (x : Symbol) (i : ℕ) (ps : NumberedPlist) → number_of s x.0 x.1 ≡ Some i
    → lists s (with_row m i ps) ≡ with_list (lists s m) x (named_plist s ps)
lists_put s count numbered m x i ps is = same_map symbol_total symbol_exact _ _ (λ q.
    lists_get s (with_row m i ps) q
    ∙ elim (eq_by_cmp symbol_cmp q x) as (λ b. eq_by_cmp symbol_cmp q x ≡ b → property_list_of s (with_row m i ps) q ≡ cond b (kept (named_plist s ps)) (finite.get (lists s m) q)) [
      | true ↦ λ t.
          ap (property_list_of s (with_row m i ps)) (one_symbol q x t) ∙ ap (λ o. option_map (named_plist s) (option_and_then (finite.get (with_row m i ps)) o)) is
          ∙ ap (option_map (named_plist s)) (get-with_row m i ps i ∙ ap (λ b. cond b (kept ps) (finite.get m i)) (number_tied i)) ∙ kept_named s ps
      | false ↦ λ other. apart s count numbered m x q i ps is other ∙ sym (lists_get s m q)
    ] refl
    ∙ sym (get-with_list (lists s m) x (named_plist s ps) q))

-- ---- packages in which no symbol is lost and each keeps its number
module _ (s u : Numbered) (count : ℕ) (numbered : AreSymbolsNumbered u count) (grows : Grows s.0 u.0) (keeps : KeepsNumbers s u) (m : NumberedLists) (owned : AreListsOfSymbols s m) where
  -- the list of a number, by the symbols of its indicators
  same_list : (j : ℕ) → option_map (named_plist u) (finite.get m j) ≡ option_map (named_plist s) (finite.get m j)
  same_list j =
      elim (finite.get m j) as (λ o. finite.get m j ≡ o → option_map (named_plist u) o ≡ option_map (named_plist s) o) [
        | None ↦ λ _. refl
        | Some ps ↦ λ has.
            let all : All (λ p. IsNumber s p.0) ps = subst (λ (o : Option NumberedPlist). All (λ p. IsNumber s p.0) (unwrap_or o [])) has (owned.indicators j) in
            ap Some (named_grown s u count numbered grows keeps ps all)
      ] refl

  -- a new symbol has no list
  no_list : (q : Symbol) (j : ℕ) → number_of s q.0 q.1 ≡ None → number_of u q.0 q.1 ≡ Some j → finite.get m j ≡ None
  no_list q j none at =
      elim (finite.get m j) as (λ o. finite.get m j ≡ o → o ≡ None) [
        | None ↦ λ _. refl
        | Some ps ↦ λ has.
            let is : IsNumber s j = owned.owners j (ap is_some has) in
            let x : Symbol = numbered_symbol s j in
            let one : (x.0 ≡ q.0) × (x.1 ≡ q.1) = number_apart u count numbered x.0 x.1 q.0 q.1 j (number_grown s u count numbered grows keeps j is) at in
            absurd (false≢true (ap is_some (sym none ∙ (λ k. number_of s (sym one.0 k) (sym one.1 k)) ∙ is)))
      ] refl

  -- a number of s that has a list is, in u, that of the same symbol
  pub lists_grown : lists u m ≡ lists s m
  lists_grown = same_map symbol_total symbol_exact _ _ (λ q.
      lists_get u m q
      ∙ elim (number_of s q.0 q.1) as (λ o. number_of s q.0 q.1 ≡ o → property_list_of u m q ≡ option_map (named_plist s) (option_and_then (finite.get m) o)) [
        | Some j ↦ λ at.
            ap (λ o. option_map (named_plist u) (option_and_then (finite.get m) o)) (later q j at) ∙ same_list j
        | None ↦ λ none.
            elim (number_of u q.0 q.1) as (λ o. number_of u q.0 q.1 ≡ o → option_map (named_plist u) (option_and_then (finite.get m) o) ≡ None) [
              | None ↦ λ _. refl
              | Some j ↦ λ at. ap (option_map (named_plist u)) (no_list q j none at)
            ] refl
      ] refl
      ∙ sym (lists_get s m q))
    where
      later : (q : Symbol) (j : ℕ) → number_of s q.0 q.1 ≡ Some j → number_of u q.0 q.1 ≡ Some j
      later q j at =
          let there = number_there s q.0 q.1 j at in
          number_kept s u keeps q.0 q.1 there (grows.homes q.0 q.1 q.0 there) ∙ at

  pub owned_grown : AreListsOfSymbols u m
  owned_grown = record {
    owners = λ i has. number_stays s u count numbered grows keeps i (owned.owners i has);
    indicators = λ i.
        All-weaker (λ (p : ℕ × Object). IsNumber s p.0) (λ p. IsNumber u p.0) (λ p is. number_stays s u count numbered grows keeps p.0 is) (plist_of_number m i) (owned.indicators i);
  }

pub lists_empty : (s : Numbered) → lists s finite.empty ≡ finite.empty
lists_empty s = same_map symbol_total symbol_exact _ _ (λ q.
    lists_get s finite.empty q
    ∙ elim (number_of s q.0 q.1) as (λ o. option_map (named_plist s) (option_and_then (finite.get {R = nat_cmp} (finite.empty {X = NumberedPlist})) o) ≡ None) [
      | None ↦ refl
      | Some j ↦ ap (option_map (named_plist s)) (get-empty nat_cmp j)
    ]
    ∙ sym (get-empty symbol_cmp q))

pub owned_put : (s : Numbered) (count : ℕ) → AreSymbolsNumbered s count → (m : NumberedLists) (x : Symbol) (i : ℕ) (ps : NumberedPlist) → number_of s x.0 x.1 ≡ Some i
    → All (λ p. IsNumber s p.0) ps → AreListsOfSymbols s m → AreListsOfSymbols s (with_row m i ps)
owned_put s count numbered m x i ps is all owned = record {
  owners = λ j there.
      elim (eq_by_cmp nat_cmp j i) as (λ b. eq_by_cmp nat_cmp j i ≡ b → IsTrue (is_some (cond b (kept ps) (finite.get m j))) → IsNumber s j) [
        | true ↦ λ t _. subst (IsNumber s) (sym (one_number j i t)) (number_is s count numbered x i is)
        | false ↦ λ _ has. owned.owners j has
      ] refl (subst (λ (o : Option NumberedPlist). IsTrue (is_some o)) (get-with_row m i ps j) there);
  indicators = λ j. subst (λ (o : Option NumberedPlist). All (λ p. IsNumber s p.0) (unwrap_or o [])) (sym (get-with_row m i ps j))
      (elim (eq_by_cmp nat_cmp j i) as (λ b. All (λ (p : ℕ × Object). IsNumber s p.0) (unwrap_or (cond b (kept ps) (finite.get m j)) [])) [
        | true ↦ subst (λ (qs : NumberedPlist). All (λ p. IsNumber s p.0) qs) (sym (unwrap_kept ps)) all
        | false ↦ owned.indicators j
      ]);
}

pub owned_empty : (s : Numbered) → AreListsOfSymbols s finite.empty
owned_empty s = record {
  owners = λ i has. absurd (false≢true (sym (ap is_some (get-empty {X = NumberedPlist} nat_cmp i)) ∙ has));
  indicators = λ i. subst (λ (o : Option NumberedPlist). All (λ p. IsNumber s p.0) (unwrap_or o [])) (sym (get-empty nat_cmp i)) (All-nil (λ (p : ℕ × Object). IsNumber s p.0));
}
