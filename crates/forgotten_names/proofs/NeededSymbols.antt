-- The symbols that a world needs, and what its packages keep.
--     needed_external, needed_imported, needed_among, needed_cases      when a symbol is needed
--     needed_owner, in_list      symbols that have properties, and those in a list
--     kept_needed, kept_external, kept_imported      what is kept; kept_is_needed      and what of it is needed
use Rattle.std.proofs.Common.{◌≡◌, ◌⊎◌, true, false, not, ◌||◌, None, Some, List, ◌∷◌, ◌++◌, is_some, refl, sym, ap, ◌∙◌, inl, inr}
use Rattle.std.specs.Prelude.{bytes_eq, IsTrue}
use Rattle.std.specs.Option.{option_map_or}
use Rattle.std.specs.FinMap as finite
use Rattle.std.proofs.lemmas.Bool.{false≢true, or_left, or_right, or_cases, not-true}
use Rattle.package_table.specs.Table.{Name, Present, IsPresent, IsExternal}
use Rattle.package_table.specs.Lookup.{is_external, is_symbol}
use Rattle.package_table.proofs.Found.{external_shows}
use Rattle.package_table.proofs.Frames.{not_equal}
use Rattle.plist_state.specs.Properties.{Symbol, Plist}
use Rattle.plist_state.specs.State.{WorldState}
use Rattle.plist_state.proofs.Soundness.{symbol_from}
use Rattle.snapshot_text.proofs.PartFinds.{present_entry}
use Rattle.forgotten_names.specs.NeededSymbols.{stands_among, plist_symbols, property_symbols, is_imported, is_needed}
use Rattle.forgotten_names.specs.WorldsWithoutNames.{is_kept}
use Rattle.forgotten_names.proofs.Members.{among_itself, among_right, among_properties, imported_from}

module _ (held : List Symbol) (s : WorldState) where
  pub needed_external : (x : Symbol) → is_external s.packages x.0 x.1 ≡ true → is_needed held s x ≡ true
  unfolding is_needed
  needed_external x is = or_left (is_external s.packages x.0 x.1) (is_imported s.packages x || stands_among x (held ++ property_symbols s.properties)) is

  pub needed_imported : (x : Symbol) → is_imported s.packages x ≡ true → is_needed held s x ≡ true
  unfolding is_needed
  needed_imported x is =
      or_right (is_external s.packages x.0 x.1) (is_imported s.packages x || stands_among x (held ++ property_symbols s.properties))
      (or_left (is_imported s.packages x) (stands_among x (held ++ property_symbols s.properties)) is)

  pub needed_among : (x : Symbol) → stands_among x (held ++ property_symbols s.properties) ≡ true → is_needed held s x ≡ true
  unfolding is_needed
  needed_among x is =
      or_right (is_external s.packages x.0 x.1) (is_imported s.packages x || stands_among x (held ++ property_symbols s.properties))
      (or_right (is_imported s.packages x) (stands_among x (held ++ property_symbols s.properties)) is)

  pub needed_cases : (x : Symbol) → is_needed held s x ≡ true
      → (is_external s.packages x.0 x.1 ≡ true) ⊎ ((is_imported s.packages x ≡ true) ⊎ (stands_among x (held ++ property_symbols s.properties) ≡ true))
  unfolding is_needed
  needed_cases x is =
      elim (or_cases (is_external s.packages x.0 x.1) (is_imported s.packages x || stands_among x (held ++ property_symbols s.properties)) is) [
        | inl external ↦ inl external
        | inr other ↦ inr (or_cases (is_imported s.packages x) (stands_among x (held ++ property_symbols s.properties)) other)
      ]

  pub in_list : (q : Symbol) (ps : Plist) → finite.get s.properties q ≡ Some ps → (x : Symbol) → stands_among x (q ∷ plist_symbols ps) ≡ true → is_needed held s x ≡ true
  in_list q ps is x among = needed_among x (among_right x held (property_symbols s.properties) (among_properties s.properties q ps is x among))

  pub needed_owner : (x : Symbol) → IsTrue (finite.contains_key s.properties x) → is_needed held s x ≡ true
  needed_owner x there =
      elim (finite.get s.properties x) as (λ o. finite.get s.properties x ≡ o → is_some o ≡ true → is_needed held s x ≡ true) [
        | None ↦ λ _ other. absurd (false≢true other)
        | Some ps ↦ λ is _. in_list x ps is x (among_itself x (plist_symbols ps))
      ] refl there

  pub kept_needed : (p n : Name) → is_needed held s (p, n) ≡ true → is_kept held s p n ≡ true
  kept_needed p n is = or_right (not (is_symbol s.packages p n)) (is_needed held s (p, n)) is

  pub kept_external : (p n : Name) → IsExternal s.packages p n → is_kept held s p n ≡ true
  kept_external p n here = kept_needed p n (needed_external (p, n) (external_shows s.packages p n here))

  pub kept_imported : (p n h : Name) → IsPresent s.packages p n h → (h ≡ p → ⊥) → (is_kept held s p n ≡ true) × (is_kept held s h n ≡ true)
  kept_imported p n h here differ =
      let e = present_entry s.packages p n h here in
      let other : is_symbol s.packages p n ≡ false =
      ap (λ o. option_map_or (λ (e : Present). bytes_eq e.home p) o false) e.1 ∙ ap (λ h. bytes_eq h p) e.2 ∙ not_equal h p differ in (
        or_left (not (is_symbol s.packages p n)) (is_needed held s (p, n)) (ap not other),
        kept_needed h n (needed_imported (h, n) (imported_from s.packages p n h here differ)),
      )

  pub kept_is_needed : (p n : Name) → IsPresent s.packages p n p → is_kept held s p n ≡ true → is_needed held s (p, n) ≡ true
  kept_is_needed p n here kept =
      elim (or_cases (not (is_symbol s.packages p n)) (is_needed held s (p, n)) kept) [
        | inl other ↦ absurd (false≢true (sym (not-true (is_symbol s.packages p n) other) ∙ symbol_from s.packages p n here))
        | inr needed ↦ needed
      ]
