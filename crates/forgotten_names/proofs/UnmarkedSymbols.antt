-- The symbols that are neither external nor marked are those that are not needed.
--     all_found, own_there      names of a list, and names at home in a package, are there
--     all_symbols      all symbols of a table are there
--     same_needed      what is external or marked is needed
--     unneeded_same      where imports, property lists and held symbols are marked
use Rattle.std.proofs.Common.{◌≡◌, Bool, true, false, cond, not, ◌||◌, Option, None, Some, List, [], ◌∷◌, ◌++◌, All, map, filter, refl, sym, ap, subst, ◌∙◌, Less, Equal, Greater}
use Rattle.std.specs.Prelude.{bytes_eq}
use Rattle.std.specs.List.{flat_map, list_any}
use Rattle.std.specs.Option.{option_map_or, option_and_then}
use Rattle.std.specs.Ordering.{eq_by_cmp, is_eq, is_lt}
use Rattle.std.specs.Cmp.{eq_by_cmp_equiv}
use Rattle.std.specs.FinMap as finite
use Rattle.std.specs.FinMap.{find, is_sorted, entries_sorted, get-entries}
use Rattle.std.specs.FinMap.Entries.{below_all}
use Rattle.std.proofs.lemmas.Bool.{false≢true, and_parts}
use Rattle.std.proofs.lemmas.List.Elements.{All-nil, All-cons, All-head, All-tail, All-append, All-map, All-weaker}
use Rattle.std.proofs.lemmas.List.Folds.{list_any-append}
use Rattle.package_table.specs.Table.{Name, name_cmp, Present, Package, Table}
use Rattle.package_table.specs.Lookup.{is_external, is_symbol}
use Rattle.package_table.specs.Numbers.{Numbered}
use Rattle.package_table.specs.Readers.{package_names, own_names, own_among}
use Rattle.package_table.proofs.Names.{name_total, same_tied}
use Rattle.plist_state.specs.Lists.{symbols}
use Rattle.plist_state.specs.Properties.{Symbol, same_symbol}
use Rattle.plist_state.specs.State.{WorldState}
use Rattle.plist_state.proofs.Soundness.{symbol_is}
use Rattle.world_text.proofs.Ascii.{from_truth}
use Rattle.forgotten_names.specs.WorldsWithoutNames.{forgettable}
use Rattle.forgotten_names.specs.Marks.{AreMarksOfNeeded, is_marked}
use Rattle.forgotten_names.specs.NeededSymbols.{stands_among, property_symbols, is_imported, is_needed}
use Rattle.forgotten_names.proofs.Filtered.{filter_alike}
use Rattle.forgotten_names.proofs.Imports.{among_imports}

-- ---- all symbols are there

below_apart : (a b : Name) → is_lt (name_cmp a b) ≡ true → eq_by_cmp name_cmp b a ≡ false
below_apart a b less =
    (eq_by_cmp_equiv name_total).symm b a
    ∙ elim (name_cmp a b) as (λ o. is_lt o ≡ true → is_eq o ≡ false) [
      | Less ↦ λ _. refl
      | Equal ↦ λ wrong. absurd (false≢true wrong)
      | Greater ↦ λ _. refl
    ] less

abbrev pub Found : List (Name × Present) → Name × Present → Type 0
Found es s = find name_cmp s.0 es ≡ Some s.1

found_past : (e : Name × Present) (es fs : List (Name × Present)) → below_all name_cmp e.0 fs ≡ true → All (Found es) fs → All (Found (e ∷ es)) fs
found_past e es [] below all = All-nil (Found (e ∷ es))
found_past e es (f ∷ fs) below all =
    let parts = and_parts (is_lt (name_cmp e.0 f.0)) (below_all name_cmp e.0 fs) below in
    All-cons (Found (e ∷ es)) f fs
    (ap (λ b. cond b (Some e.1) (find name_cmp f.0 es)) (below_apart e.0 f.0 parts.0) ∙ All-head (Found es) f fs all)
    (found_past e es fs parts.1 (All-tail (Found es) f fs all))

pub all_found : (es : List (Name × Present)) → is_sorted name_cmp es ≡ true → All (Found es) es
all_found [] sorted = All-nil (Found [])
all_found (e ∷ es) sorted =
    let both = and_parts (below_all name_cmp e.0 es) (is_sorted name_cmp es) sorted in
    All-cons (Found (e ∷ es)) e es
    (ap (λ b. cond b (Some e.1) (find name_cmp e.0 es)) (same_tied e.0))
    (found_past e es es both.0 (all_found es both.1))

module _ (p : Name) (es : List (Name × Present)) where
  abbrev IsOwn : Name × Present → Type 0
  IsOwn s = option_map_or (λ (e : Present). bytes_eq e.home p) (find name_cmp s.0 es) false ≡ true

  own_found : (fs : List (Name × Present)) → All (Found es) fs → All IsOwn (filter (λ s. bytes_eq s.1.home p) fs)
  own_found [] all = All-nil IsOwn
  own_found (f ∷ fs) all =
      let later = own_found fs (All-tail (Found es) f fs all) in
      elim (bytes_eq f.1.home p) as (λ b. bytes_eq f.1.home p ≡ b → All IsOwn (cond b (f ∷ filter (λ s. bytes_eq s.1.home p) fs) (filter (λ s. bytes_eq s.1.home p) fs))) [
        | true ↦ λ own. All-cons IsOwn f (filter (λ s. bytes_eq s.1.home p) fs) (ap (λ o. option_map_or (λ (e : Present). bytes_eq e.home p) o false) (All-head (Found es) f fs all) ∙ own) later
        | false ↦ λ _. later
      ] refl

abbrev IsThere : Table → Symbol → Type 0
IsThere t x = is_symbol t x.0 x.1 ≡ true

pub own_there : (t : Table) (p : Name) → All (λ n. is_symbol t p n ≡ true) (own_names t p)
own_there t p =
    elim (finite.get t p) as (λ o. All (λ n. option_map_or (λ (e : Present). bytes_eq e.home p) (option_and_then (λ (k : Package). finite.get k.symbols n) o) false ≡ true) (own_among p (option_map_or (λ (k : Package). finite.entries k.symbols) o []))) [
      | None ↦ All-nil (λ (n : Name). ◌≡◌ {A = Bool} false true)
      | Some k ↦
          let es = finite.entries k.symbols in
          let found = own_found p es es (all_found es (from_truth (is_sorted name_cmp es) (entries_sorted k.symbols))) in
          All-map (λ n. option_map_or (λ (e : Present). bytes_eq e.home p) (finite.get k.symbols n) false ≡ true) (λ (s : Name × Present). s.0) (filter (λ s. bytes_eq s.1.home p) es)
          (All-weaker (IsOwn p es) (λ (s : Name × Present). option_map_or (λ (e : Present). bytes_eq e.home p) (finite.get k.symbols s.0) false ≡ true)
          (λ s is. ap (λ o. option_map_or (λ (e : Present). bytes_eq e.home p) o false) (get-entries k.symbols s.0) ∙ is)
          (filter (λ s. bytes_eq s.1.home p) es) found)
    ]

each_there : (t : Table) (ps : List Name) → All (IsThere t) (flat_map (λ p. map (λ n. (p, n)) (own_names t p)) ps)
each_there t [] = All-nil (IsThere t)
each_there t (p ∷ ps) =
    All-append (IsThere t) (map (λ n. (p, n)) (own_names t p)) (flat_map (λ p. map (λ n. (p, n)) (own_names t p)) ps)
    (All-map (IsThere t) (λ (n : Name). (p, n)) (own_names t p) (own_there t p))
    (each_there t ps)

pub all_symbols : (t : Table) → All (IsThere t) (symbols t)
all_symbols t = each_there t (package_names t)

-- ---- what is left of them

same_truth : (a b c d : Bool) → (a || (b || (c || (d || false)))) ≡ (a || (b || (d || c)))
same_truth true b c d = refl
same_truth false true c d = refl
same_truth false false true true = refl
same_truth false false true false = refl
same_truth false false false true = refl
same_truth false false false false = refl

module _ (held : List Symbol) (s : WorldState) (n : Numbered) (marks : List Bool) where
  needed_is : AreMarksOfNeeded held s n marks → (x : Symbol) → IsThere n.0 x → (is_external n.0 x.0 x.1 || is_marked n marks x) ≡ is_needed held (record s { packages = n.0 }) x
  unfolding is_needed
  needed_is marked x there =
      ap (λ m. is_external n.0 x.0 x.1 || m) (marked.marked x (symbol_is n.0 x.0 x.1 there))
      ∙ ap (λ m. is_external n.0 x.0 x.1 || (m || (stands_among x (property_symbols s.properties) || (stands_among x held || false)))) (among_imports n.0 x)
      ∙ same_truth (is_external n.0 x.0 x.1) (is_imported n.0 x) (stands_among x (property_symbols s.properties)) (stands_among x held)
      ∙ ap (λ m. is_external n.0 x.0 x.1 || (is_imported n.0 x || m)) (sym (list_any-append (same_symbol x) held (property_symbols s.properties)))

  pub unneeded_same : n.0 ≡ s.packages → AreMarksOfNeeded held s n marks → filter (λ x. not (is_external n.0 x.0 x.1 || is_marked n marks x)) (symbols n.0) ≡ forgettable held s
  unneeded_same same marked =
      filter_alike (λ x. not (is_external n.0 x.0 x.1 || is_marked n marks x)) (λ x. not (is_needed held (record s { packages = n.0 }) x)) (symbols n.0)
      (All-weaker (IsThere n.0) (λ x. not (is_external n.0 x.0 x.1 || is_marked n marks x) ≡ not (is_needed held (record s { packages = n.0 }) x))
      (λ x there. ap not (needed_is marked x there)) (symbols n.0) (all_symbols n.0))
      ∙ (λ i. forgettable held (record s { packages = same i }))

  -- the same of the state that these are the packages of
  pub same_needed : n.0 ≡ s.packages → AreMarksOfNeeded held s n marks → (x : Symbol) → IsThere s.packages x → (is_external n.0 x.0 x.1 || is_marked n marks x) ≡ is_needed held s x
  same_needed same marked x there =
      needed_is marked x (subst (λ (t : Table). IsThere t x) (sym same) there) ∙ (λ i. is_needed held (record s { packages = same i }) x)
