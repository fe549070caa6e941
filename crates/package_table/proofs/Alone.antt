-- That interning a symbol changes what one name finds, and no other.
--     Interned      what `intern` leaves, where it is not refused
--     interned_found, interned_new      where the symbol was there, and where it is new
use Rattle.std.proofs.Common.{◌≡◌, ◌≢◌, ◌⊎◌, Bool, true, false, cond, Option, None, Some, is_some, bytes_eq, refl, sym, ap, subst, ◌∙◌, inl, inr}
use Rattle.std.specs.Option.{option_map, option_map_or}
use Rattle.package_table.specs.Table.{Name, Present, Table, keyword, IsPackage, IsExternal, Uses, Finds, FindsNone, AreSoundPackages, with_entry}
use Rattle.package_table.specs.Lookup.{home_by_name}
use Rattle.package_table.specs.Growth.{Grows, IsSameBut}
use Rattle.package_table.proofs.Names.{none_some}
use Rattle.package_table.proofs.Frames.{equal_names, entry_new, entry_other, package_with_entry}
use Rattle.package_table.proofs.Keeping.{present_either, external_either, uses_kept}
use Rattle.package_table.proofs.KeptSound.{no_entry}
use Rattle.package_table.proofs.Found.{found_finds, found_is, found_none, finds_none, present_found}
use Rattle.package_table.proofs.Growing.{Kept, grows_same, grows_with_entry, differs_entry, finds_grown}

pub record Interned (t u : Table) (p n h : Name) (changes : Bool) : Type 0 where
  pub kept : Kept t u changes
  pub others : IsSameBut t u p n
  pub finds : home_by_name u p n ≡ Some h

pub interned_found : (t : Table) (p n h : Name) → AreSoundPackages t → home_by_name t p n ≡ Some h → Interned t t p n h false
interned_found t p n h sound is = record {
  kept = record { sound = sound; grows = grows_same t; told = refl };
  others = record { packages = λ _. refl; finds = λ _ _ _. refl; externals = λ _ _ _. refl };
  finds = is;
}

module _ (t : Table) (p n : Name) (sound : AreSoundPackages t) (there : IsPackage t p) (none : FindsNone t p n) where
  abbrev e : Present
  e = record { home = p; external = bytes_eq p keyword }

  abbrev u : Table
  u = with_entry t p n e

  none_external : IsExternal t p n → ⊥
  none_external shown = none_some true (sym (ap (option_map (λ (e : Present). e.external)) (no_entry t p n none)) ∙ shown)

  none_there : (r m : Name) → r ≡ p → m ≡ n → IsExternal t r m → ⊥
  none_there r m same alike shown = none_external (subst (λ (x : Name). IsExternal t p x) alike (subst (λ (x : Name). IsExternal t x m) same shown))

  not_both : (q m : Name) → (q ≢ p) ⊎ (m ≢ n) → q ≡ p → m ≡ n → ⊥
  not_both q m (inl apart) same alike = apart same
  not_both q m (inr apart) same alike = apart alike

  found_before : (q m h : Name) → (q ≢ p) ⊎ (m ≢ n) → Finds u q m h → Finds t q m h
  found_before q m h differ (inl here) =
      elim (present_either t p n e there q m h here) [
        | inl (same, alike, _) ↦ absurd (not_both q m differ same alike)
        | inr old ↦ inl old
      ]
  found_before q m h differ (inr (r, used, external, here)) =
      let used_before : Uses t q r = uses_kept t p n e there q r used in
      elim (external_either t p n e there r m external) [
        | inl (same, _, shown) ↦ absurd (sound.first.unused q (subst (λ (x : Name). Uses t q x) (same ∙ equal_names p keyword shown) used_before))
        | inr old ↦
            elim (present_either t p n e there r m h here) [
              | inl (same, alike, _) ↦ absurd (none_there r m same alike old)
              | inr present ↦ inr (r, used_before, old, present)
            ]
      ]

  grows : Grows t u
  grows = grows_with_entry t p n e there (λ g found. absurd (none g found)) (λ shown. absurd (none_external shown))

  others : AreSoundPackages u → IsSameBut t u p n
  others sound_then = record {
    packages = package_with_entry t p n e;
    finds = λ q m differ.
        elim (home_by_name t q m) as (λ o. home_by_name t q m ≡ o → home_by_name u q m ≡ o) [
          | None ↦ λ is. finds_none u m q (λ h finds. found_none t m q is h (found_before q m h differ finds))
          | Some h ↦ λ is. found_is u m sound_then.joined q h (finds_grown t u grows q m h (found_finds t m q h is))
        ] refl;
    externals = λ q m differ. ap (λ (o : Option Present). option_map_or (λ (e : Present). cond e.external (Some e.home) None) o None) (entry_other t p n e q m differ);
  }

  pub interned_new : AreSoundPackages u → Interned t u p n p true
  interned_new sound_then = record {
    kept = record {
      sound = sound_then;
      grows = grows;
      told = differs_entry t p n e there (ap is_some (no_entry t p n none));
    };
    others = others sound_then;
    finds = present_found u n p p (ap (option_map (λ (e : Present). e.home)) (entry_new t p n e there));
  }
