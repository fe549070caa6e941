-- The symbols of packages, counted in their homes, and those that are left of them.
--     symbols_counted      there are as many as are counted
--     symbols_left         those that are needed are left
--     symbols_gone         and all others went
use Rattle.std.proofs.Common.{◌≡◌, ◌+◌, Bool, true, not, eqb, List, [], ◌∷◌, ◌++◌, map, filter, length, refl, sym, ap, ◌∙◌}
use Rattle.std.specs.Prelude.{bytes_eq, Some}
use Rattle.std.specs.List.{flat_map, list_all, sum_by}
use Rattle.std.specs.Option.{option_map_or}
use Rattle.std.specs.FinMap as finite
use Rattle.std.proofs.lemmas.Bool.{and_parts, eqb-true, eq-eqb}
use Rattle.std.proofs.lemmas.List.{length-map}
use Rattle.std.proofs.lemmas.List.Concat.{length-flat_map}
use Rattle.std.proofs.lemmas.List.Elements.{filter-append}
use Rattle.std.proofs.lemmas.List.Filters.{length-filter_both}
use Rattle.std.proofs.lemmas.List.Sums.{sum_by-cons}
use Rattle.package_table.specs.Readers.{package_names, own_names, own_among}
use Rattle.package_table.specs.Table.{Name, Present, Package, Table, own_count, symbol_count}
use Rattle.plist_state.specs.Lists.{symbols}
use Rattle.plist_state.specs.Properties.{Symbol}
use Rattle.plist_state.specs.State.{WorldState}
use Rattle.world_text.proofs.Ascii.{entries_pass}
use Rattle.world_text.proofs.RowsWritten.{filter_images}
use Rattle.forgotten_names.specs.WorldsWithoutNames.{forgettable, without_unneeded_symbols, is_kept}
use Rattle.forgotten_names.specs.NeededSymbols.{is_needed}
use Rattle.forgetting_laws.proofs.Left.{own_left, packages_left}

-- the symbols at home in a package
abbrev own_symbols : Table → Name → List Symbol
own_symbols t p = map (λ (n : Name). (p, n)) (own_names t p)

module _ (t : Table) where
  own_is : (p : Name) (k : Package) → finite.get t p ≡ Some k → length (own_names t p) ≡ own_count p k
  own_is p k there =
      ap (λ o. length (own_among p (option_map_or (λ (k : Package). finite.entries k.symbols) o []))) there
      ∙ length-map (filter (λ (s : Name × Present). bytes_eq s.1.home p) (finite.entries k.symbols)) (λ (s : Name × Present). s.0)

  abbrev is_counted : Name × Package → Bool
  is_counted e = eqb (length (own_names t e.0)) (own_count e.0 e.1)

  counted_in : (es : List (Name × Package)) → list_all is_counted es ≡ true
      → sum_by (λ (e : Name × Package). own_count e.0 e.1) es ≡ sum_by (λ (p : Name). length (own_names t p)) (map (λ (e : Name × Package). e.0) es)
  counted_in [] all = refl
  counted_in (e ∷ es) all =
      let both = and_parts (is_counted e) (list_all is_counted es) all in
      let head : length (own_names t e.0) ≡ own_count e.0 e.1 = eqb-true (length (own_names t e.0)) (own_count e.0 e.1) both.0 in
      let later = counted_in es both.1 in
      sum_by-cons (λ (e : Name × Package). own_count e.0 e.1) e es
      ∙ (λ i. sym head i + later i)
      ∙ sym (sum_by-cons (λ (p : Name). length (own_names t p)) e.0 (map (λ (e : Name × Package). e.0) es))

  pub symbols_counted : symbol_count t ≡ length (symbols t)
  symbols_counted =
      counted_in (finite.entries t) (entries_pass t is_counted (λ p k there. eq-eqb (length (own_names t p)) (own_count p k) (own_is p k there)))
      ∙ (λ i. sum_by (λ (p : Name). sym (length-map {B = Symbol} (own_names t p) (λ (n : Name). (p, n))) i) (package_names t))
      ∙ sym (length-flat_map (own_symbols t) (package_names t))

module _ (held : List Symbol) (s : WorldState) where
  abbrev left : Table
  left = (without_unneeded_symbols held s).packages

  home_left : (p : Name) → own_symbols left p ≡ filter (is_needed held s) (own_symbols s.packages p)
  home_left p = ap (map (λ (n : Name). (p, n))) (own_left held s p) ∙ filter_images (is_needed held s) (λ (n : Name). (p, n)) (own_names s.packages p)

  left_of : (ps : List Name) → flat_map (own_symbols left) ps ≡ filter (is_needed held s) (flat_map (own_symbols s.packages) ps)
  left_of [] = refl
  left_of (p ∷ ps) =
      (λ i. home_left p i ++ left_of ps i)
      ∙ sym (filter-append (is_needed held s) (own_symbols s.packages p) (flat_map (own_symbols s.packages) ps))

  pub symbols_left : symbols left ≡ filter (is_needed held s) (symbols s.packages)
  symbols_left = ap (flat_map (own_symbols left)) (packages_left (is_kept held s) s.packages) ∙ left_of (package_names s.packages)

  pub symbols_gone : symbol_count left + length (forgettable held s) ≡ symbol_count s.packages
  symbols_gone =
      let now = symbols_counted left ∙ ap (λ (xs : List Symbol). length xs) symbols_left in
      let was = symbols_counted s.packages in
      let both = length-filter_both (is_needed held s) (λ (x : Symbol). not (is_needed held s x)) (λ x. refl) (symbols s.packages) in
      ap (λ n. n + length (forgettable held s)) now ∙ both ∙ sym was
