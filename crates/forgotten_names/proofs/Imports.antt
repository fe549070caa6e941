-- The lists of what packages import say which symbols are imported.
--     among_imports      a symbol is among them
use Rattle.std.proofs.Common.{◌≡◌, Bool, true, false, cond, not, ◌&&◌, ◌||◌, Option, None, Some, List, [], ◌∷◌, ◌++◌, map, filter, refl, sym, ap, subst, ◌∙◌}
use Rattle.std.specs.Prelude.{bytes_eq, if◌then◌else◌, option_and_then}
use Rattle.std.specs.List.{list_any, flat_map}
use Rattle.std.specs.Option.{option_map_or}
use Rattle.std.specs.Cmp.{both_ways}
use Rattle.std.specs.Ordering.{eq_by_cmp}
use Rattle.std.specs.FinMap as finite
use Rattle.std.specs.FinMap.{find, is_sorted, entries_sorted, get-entries}
use Rattle.std.specs.FinMap.Entries.{below_all}
use Rattle.std.proofs.lemmas.Bool.{false≢true, false_from_ne_true, and_parts, and_right, and_from}
use Rattle.std.proofs.lemmas.List.Folds.{list_any-append}
use Rattle.package_table.specs.Table.{Name, name_cmp, Present, Package, Table, entry_at}
use Rattle.package_table.specs.Readers.{imports, imported_among, package_names}
use Rattle.package_table.proofs.Frames.{equal_itself, equal_names, not_equal, unequal_names}
use Rattle.package_table.proofs.Names.{tied_same, same_tied}
use Rattle.plist_state.specs.Properties.{Symbol, same_symbol}
use Rattle.plist_state.proofs.Orders.{one_symbol, symbol_tied}
use Rattle.world_text.proofs.Ascii.{below_none, from_truth}
use Rattle.forgotten_names.specs.NeededSymbols.{stands_among, has_symbol, is_imported}

abbrev turned : Name × Name → Symbol
turned r = (r.1, r.0)

module _ (p : Name) (x : Symbol) where
  -- what an entry says of the symbol, if it is at its name
  abbrev says : Option Present → Bool
  says o = not (bytes_eq p x.0) && option_map_or (λ (e : Present). bytes_eq e.home x.0) o false

  says_none : says None ≡ false
  says_none = and_right (not (bytes_eq p x.0)) false refl

  missing : (e : Name × Present) (es : List (Name × Present)) → below_all name_cmp e.0 es ≡ true → eq_by_cmp name_cmp x.1 e.0 ≡ true → find name_cmp x.1 es ≡ None
  missing e es below same = ap (λ (k : Name). find name_cmp k es) (tied_same x.1 e.0 same) ∙ below_none e.0 es below

  -- an entry of the package's own says nothing
  says_own : (e : Present) → bytes_eq e.home p ≡ true → says (Some e) ≡ false
  says_own e own =
      ap (λ (h : Name). not (bytes_eq p x.0) && bytes_eq h x.0) (equal_names e.home p own)
      ∙ elim (bytes_eq p x.0) as (λ b. (not b && b) ≡ false) [ true ↦ refl | false ↦ refl ]

  -- one from elsewhere, at the name of the symbol
  says_other : (e : Present) (n : Name) → bytes_eq e.home p ≡ false → x.1 ≡ n → same_symbol x (e.home, n) ≡ says (Some e)
  says_other e n other name = both_ways (same_symbol x (e.home, n)) (says (Some e)) there here
    where
      apart : not (bytes_eq p e.home) ≡ true
      apart = ap not (not_equal p e.home (λ (same : p ≡ e.home). unequal_names e.home p other (sym same)))

      there : same_symbol x (e.home, n) ≡ true → says (Some e) ≡ true
      there same =
          let home : x.0 ≡ e.home = ap (λ (y : Symbol). y.0) (one_symbol x (e.home, n) same) in
          and_from (not (bytes_eq p x.0)) (bytes_eq e.home x.0)
          (ap (λ (h : Name). not (bytes_eq p h)) home ∙ apart)
          (ap (λ (h : Name). bytes_eq h x.0) (sym home) ∙ equal_itself x.0)

      here : says (Some e) ≡ true → same_symbol x (e.home, n) ≡ true
      here is =
          let home : e.home ≡ x.0 = equal_names e.home x.0 (and_parts (not (bytes_eq p x.0)) (bytes_eq e.home x.0) is).1 in
          subst (λ (h : Name). same_symbol x (h, n) ≡ true) (sym home) (subst (λ (m : Name). same_symbol x (x.0, m) ≡ true) name (symbol_tied x))

  -- and at another name
  other_name : (h n : Name) → eq_by_cmp name_cmp x.1 n ≡ false → same_symbol x (h, n) ≡ false
  other_name h n other = false_from_ne_true (same_symbol x (h, n)) (λ same.
      false≢true (sym other ∙ ap (λ (m : Name). eq_by_cmp name_cmp m n) (ap (λ (y : Symbol). y.1) (one_symbol x (h, n) same)) ∙ same_tied n))

  rows_say : (es : List (Name × Present)) → is_sorted name_cmp es ≡ true → stands_among x (map turned (imported_among p es)) ≡ says (find name_cmp x.1 es)
  rows_say [] sorted = sym says_none
  rows_say (e ∷ es) sorted =
      let both = and_parts (below_all name_cmp e.0 es) (is_sorted name_cmp es) sorted in
      let later = rows_say es both.1 in
      elim (bytes_eq e.1.home p) as (λ b. bytes_eq e.1.home p ≡ b
      → stands_among x (map turned (map (λ s. (s.0, s.1.home)) (if not b then e ∷ filter (λ s. not (bytes_eq s.1.home p)) es else filter (λ s. not (bytes_eq s.1.home p)) es)))
      ≡ says (cond (eq_by_cmp name_cmp x.1 e.0) (Some e.1) (find name_cmp x.1 es))) [
        | true ↦ λ own. elim (eq_by_cmp name_cmp x.1 e.0) as (λ c. eq_by_cmp name_cmp x.1 e.0 ≡ c → stands_among x (map turned (imported_among p es)) ≡ says (cond c (Some e.1) (find name_cmp x.1 es))) [
          | true ↦ λ same. later ∙ ap says (missing e es both.0 same) ∙ says_none ∙ sym (says_own e.1 own)
          | false ↦ λ _. later
        ] refl
        | false ↦ λ other. elim (eq_by_cmp name_cmp x.1 e.0) as (λ c. eq_by_cmp name_cmp x.1 e.0 ≡ c → (same_symbol x (e.1.home, e.0) || stands_among x (map turned (imported_among p es))) ≡ says (cond c (Some e.1) (find name_cmp x.1 es))) [
          | true ↦ λ same.
              ap (λ b. same_symbol x (e.1.home, e.0) || b) (later ∙ ap says (missing e es both.0 same) ∙ says_none)
              ∙ or_false (same_symbol x (e.1.home, e.0))
              ∙ says_other e.1 e.0 other (tied_same x.1 e.0 same)
          | false ↦ λ differ. ap (λ b. b || stands_among x (map turned (imported_among p es))) (other_name e.1.home e.0 differ) ∙ later
        ] refl
      ] refl
    where
      or_false : (b : Bool) → (b || false) ≡ b
      or_false true = refl
      or_false false = refl

-- of one package
imports_say : (t : Table) (x : Symbol) (p : Name) → stands_among x (map turned (imports t p)) ≡ (not (bytes_eq p x.0) && has_symbol t x p)
imports_say t x p =
    elim (finite.get t p) as (λ o. stands_among x (map turned (imported_among p (option_map_or (λ (k : Package). finite.entries k.symbols) o []))) ≡ says p x (option_and_then (λ (k : Package). finite.get k.symbols x.1) o)) [
      | None ↦ sym (says_none p x)
      | Some k ↦ rows_say p x (finite.entries k.symbols) (from_truth (is_sorted name_cmp (finite.entries k.symbols)) (entries_sorted k.symbols)) ∙ ap (says p x) (sym (get-entries k.symbols x.1))
    ]

-- of packages
among_each : (t : Table) (x : Symbol) (ps : List Name) → stands_among x (flat_map (λ p. map turned (imports t p)) ps) ≡ list_any (λ p. not (bytes_eq p x.0) && has_symbol t x p) ps
among_each t x [] = refl
among_each t x (p ∷ ps) =
    list_any-append (same_symbol x) (map turned (imports t p)) (flat_map (λ p. map turned (imports t p)) ps)
    ∙ (λ i. imports_say t x p i || among_each t x ps i)

pub among_imports : (t : Table) (x : Symbol) → stands_among x (flat_map (λ p. map turned (imports t p)) (package_names t)) ≡ is_imported t x
among_imports t x = among_each t x (package_names t)
