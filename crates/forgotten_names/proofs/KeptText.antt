-- The text of a world with the names that it needs is that of the world without the others.
--     kept_text
use Rattle.std.proofs.Common.{◌≡◌, ℕ, Bool, true, not, ◌||◌, List, [], ◌∷◌, ◌++◌, All, map, filter, refl, sym, ap, ◌∙◌}
use Rattle.std.specs.Prelude.{bytes_eq, if◌then◌else◌}
use Rattle.std.proofs.lemmas.List.Elements.{All-weaker}
use Rattle.lisp_object.specs.Object.{text, list_of}
use Rattle.package_table.specs.Table as packages
use Rattle.package_table.specs.Table.{Name, Table, common_lisp, keyword, initial}
use Rattle.package_table.specs.Lookup.{is_present, is_symbol}
use Rattle.package_table.specs.Readers.{package_names, own_names}
use Rattle.plist_state.specs.Properties.{Symbol}
use Rattle.plist_state.specs.Sound.{IsSoundWorldState}
use Rattle.plist_state.specs.State.{WorldState}
use Rattle.world_text.specs.KeptNames.{kept_names, kept_snapshot}
use Rattle.world_text.specs.Snapshot.{texts, made_names, shown_names, imported_name, package_with, packages_with, packages_object, properties_object, tables_object, snapshot_line, snapshot}
use Rattle.world_text.proofs.PlainLines.{plain_packages, plain_third}
use Rattle.world_text.proofs.PlainObjects.{plain_printed}
use Rattle.forgotten_names.specs.NeededSymbols.{is_needed}
use Rattle.forgotten_names.specs.WorldsWithoutNames.{is_kept, without_unneeded_symbols}
use Rattle.forgotten_names.proofs.Filtered.{filter_alike, filter_swap}
use Rattle.forgotten_names.proofs.ForgottenSound.{forgotten_sound}
use Rattle.forgotten_names.proofs.KeptLists.{packages_kept, used_kept, own_kept, external_kept, imports_kept}
use Rattle.forgotten_names.proofs.NeededObjects.{printed_alike, properties_needed}
use Rattle.forgotten_names.proofs.NeededSymbols.{kept_external, kept_imported}
use Rattle.forgotten_names.proofs.UnmarkedSymbols.{own_there}

module _ (held : List Symbol) (s : WorldState) where
  abbrev t : Table
  t = s.packages

  abbrev left : Table
  left = (without_unneeded_symbols held s).packages

  -- ---- a test that agrees with what is needed on the symbols that are there

  module _ (keeps : Name → Name → Bool) (agree : (x : Symbol) → is_symbol s.packages x.0 x.1 ≡ true → keeps x.0 x.1 ≡ is_needed held s x) where
    agrees : (p n : Name) → is_symbol t p n ≡ true → keeps p n ≡ is_kept held s p n
    agrees p n there = agree (p, n) there ∙ ap (λ b. not b || is_needed held s (p, n)) (sym there)

    made_same : (p : Name) → kept_names keeps t p ≡ made_names left p
    made_same p =
        filter_swap (keeps p) (λ n. not (is_present initial p n)) (own_names t p)
        ∙ ap (filter (λ n. not (is_present initial p n)))
        (filter_alike (keeps p) (is_kept held s p) (own_names t p)
        (All-weaker (λ n. is_symbol t p n ≡ true) (λ n. keeps p n ≡ is_kept held s p n) (agrees p) (own_names t p) (own_there t p))
        ∙ sym (own_kept (is_kept held s) t p))

    package_same : (p : Name) → package_with t p (kept_names keeps t p) ≡ package_with left p (made_names left p)
    package_same p =
        let used = sym (used_kept (is_kept held s) t p) in
        let shown = ap (λ (names : List Name). if bytes_eq p keyword then [] else names) (sym (external_kept (is_kept held s) t p (kept_external held s p))) in
        let others = sym (imports_kept (is_kept held s) t p (λ n h here other. (kept_imported held s p n h here other).0)) in
        λ i. list_of (text p ∷ texts (used i) ∷ texts (made_same p i) ∷ texts (shown i) ∷ list_of (map imported_name (others i)) ∷ [])

    packages_same : packages_with t (kept_names keeps t) ≡ packages_object left
    packages_same = λ i. list_of (map (λ p. package_same p i) (filter (λ p. not (bytes_eq p common_lisp)) (sym (packages_kept (is_kept held s) t) i)))

    pub kept_text : IsSoundWorldState s → kept_snapshot keeps s ≡ snapshot (without_unneeded_symbols held s)
    kept_text sound =
        let here = sound.packages in
        let there = (forgotten_sound held s sound).packages in
        let first : snapshot_line t (packages_with t (kept_names keeps t)) ≡ snapshot_line left (packages_object left) =
        ap (snapshot_line t) packages_same ∙ ap (λ b. b ++ 10 ∷ []) (plain_printed t left here there (packages_object left) (plain_packages left there)) in
        let second : snapshot_line t (properties_object s) ≡ snapshot_line left (properties_object s) =
        ap (λ b. b ++ 10 ∷ []) (sym (printed_alike held s sound (properties_object s) (properties_needed held s here))) in
        let third : snapshot_line t (tables_object s) ≡ snapshot_line left (tables_object s) =
        ap (λ b. b ++ 10 ∷ []) (plain_printed t left here there (tables_object s) (plain_third s sound 2 (tables_object s) refl)) in
        λ i. first i ++ second i ++ third i
