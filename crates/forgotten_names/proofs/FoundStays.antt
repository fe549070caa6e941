-- What a package finds by a name it finds where nothing unneeded is left, if the symbol is needed; and nothing else.
use Rattle.std.proofs.Common.{◌≡◌, true, List, Some, subst, ◌∙◌, inl, inr}
use Rattle.package_table.specs.Table.{Name, Table, Finds}
use Rattle.package_table.specs.Lookup.{home_by_name}
use Rattle.package_table.proofs.Found.{found_finds, found_is}
use Rattle.package_table.proofs.Frames.{name_cases}
use Rattle.package_table.proofs.Keeping.{present_at_home}
use Rattle.plist_state.specs.Properties.{Symbol}
use Rattle.plist_state.specs.State.{WorldState}
use Rattle.plist_state.specs.Sound.{IsSoundWorldState}
use Rattle.snapshot_text.proofs.PartFinds.{finds_more}
use Rattle.forgotten_names.specs.NeededSymbols.{is_needed}
use Rattle.forgotten_names.specs.WorldsWithoutNames.{is_kept, without_unneeded_symbols}
use Rattle.forgotten_names.proofs.NeededSymbols.{kept_needed, kept_external, kept_imported}
use Rattle.forgotten_names.proofs.KeptPackages.{uses_kept, kept_part}
use Rattle.forgotten_names.proofs.KeptSound.{present_stays, external_stays}
use Rattle.forgotten_names.proofs.ForgottenSound.{forgotten_sound, symbol_was}

module _ (held : List Symbol) (s : WorldState) (sound : IsSoundWorldState s) where
  abbrev left : Table
  left = (without_unneeded_symbols held s).packages

  finds_still : (p n h : Name) → is_needed held s (h, n) ≡ true → Finds s.packages p n h → Finds left p n h
  finds_still p n h needed (inl here) =
      elim (name_cases h p) [
        | inl same ↦ inl (present_stays (is_kept held s) s.packages (kept_external held s) (kept_imported held s) p n h (kept_needed held s p n (subst (λ (x : Name). is_needed held s (x, n) ≡ true) same needed)) here)
        | inr differ ↦ inl (present_stays (is_kept held s) s.packages (kept_external held s) (kept_imported held s) p n h (kept_imported held s p n h here differ).0 here)
      ]
  finds_still p n h needed (inr used) = inr (
    used.0,
    uses_kept (is_kept held s) s.packages p used.0 ∙ used.1,
    external_stays (is_kept held s) s.packages (kept_external held s) (kept_imported held s) used.0 n used.2,
    present_stays (is_kept held s) s.packages (kept_external held s) (kept_imported held s) used.0 n h (kept_external held s used.0 n used.2) used.3,
  )

  pub found_still : (p n h : Name) → home_by_name s.packages p n ≡ Some h → is_needed held s (h, n) ≡ true → home_by_name left p n ≡ Some h
  found_still p n h is needed = found_is left n (forgotten_sound held s sound).packages.joined p h (finds_still p n h needed (found_finds s.packages n p h is))

  pub found_before : (p n h : Name) → home_by_name left p n ≡ Some h → (home_by_name s.packages p n ≡ Some h) × (is_needed held s (h, n) ≡ true)
  found_before p n h is =
      let finds = found_finds left n p h is in (
        found_is s.packages n sound.packages.joined p h (finds_more left s.packages (kept_part (is_kept held s) s.packages) p n h finds),
        (symbol_was held s (h, n) (present_at_home left p n h (forgotten_sound held s sound).packages.joined finds)).1,
      )
