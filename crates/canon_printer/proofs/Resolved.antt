-- What is written for a symbol that is present in its home is resolved to this symbol again.
use Rattle.std.proofs.Common.{◌≡◌, true, Option, None, Some, Ok, IsTrue, is_some, refl, sym, ap, subst, inl, ◌∙◌}
use Rattle.std.specs.Prelude.{option_map, option_and_then}
use Rattle.std.specs.Str.{bytes_eq}
use Rattle.std.specs.FinMap as finite
use Rattle.std.proofs.lemmas.Slice.Eq.{bytes_eq-Decides}
use Rattle.package_table.specs.Table.{Name, Table, Present, Package, AreSoundPackages, IsPresent, IsPackage, keyword, full_name, entry_at}
use Rattle.package_table.specs.Lookup.{home_by_name, external_home, is_external}
use Rattle.package_table.specs.Resolving.{found_at, resolution, external_resolution, internal_resolution}
pub use Rattle.package_table.proofs.FirstNames.{nil_present}
use Rattle.package_table.proofs.Names.{same_some}
use Rattle.package_table.proofs.Found.{found_is, external_entry}
use Rattle.canon_printer.specs.Printed.{has_home, is_accessible}

-- a symbol that was found with this home
pub is_home : (o : Option Name) (home : Name) → has_home o home ≡ true → o ≡ Some home
is_home None home e = absurd (cc)
is_home (Some h) home e = ap (λ (n : Name). Some n) ((bytes_eq-Decides h home).0 e)

pub accessible_resolved : (t : Table) (current home own : Name) → is_accessible t current home own ≡ true → resolution t current own ≡ Ok (found_at home)
accessible_resolved t current home own e = rw (is_home (home_by_name t current own) home e) refl

-- what is present somewhere is in a package
in_package : (k : Option Package) (own h : Name) → option_map (λ (e : Present). e.home) (option_and_then (λ (k : Package). finite.get k.symbols own) k) ≡ Some h
    → IsTrue (is_some k)
in_package None own h e = absurd (cc)
in_package (Some k) own h e = refl

module _ (t : Table) (home own : Name) (sound : AreSoundPackages t) (present : IsPresent t home own home) where
  pub home_there : IsPackage t home
  home_there = in_package (finite.get t home) own home present

  full : full_name home ≡ home
  full = (sound.within.package_names home home_there).full

  pub found_home : home_by_name t home own ≡ Some home
  found_home = found_is t own sound.joined home home (inl present)

  external_there : is_external t home own ≡ true → external_home t home own ≡ Some home
  external_there e =
      let shown : (h : Name) × (entry_at t home own ≡ Some (record { home = h; external = true })) = external_entry t home own e in
      let same : shown.0 ≡ home = same_some shown.0 home (sym (ap (λ o. option_map (λ (e : Present). e.home) o) shown.1) ∙ present) in
      rw (shown.1, same) refl

  pub keyword_resolved : bytes_eq home keyword ≡ true → resolution t keyword own ≡ Ok (found_at home)
  keyword_resolved e =
      let same : home ≡ keyword = (bytes_eq-Decides home keyword).0 e in
      let there : home_by_name t keyword own ≡ Some home = subst (λ (p : Name). home_by_name t p own ≡ Some home) same found_home in
      rw there refl

  pub external_resolved : is_external t home own ≡ true → external_resolution t home own ≡ Ok home
  external_resolved e =
      let here : finite.contains_key t home ≡ true = home_there in
      let is : external_home t home own ≡ Some home = external_there e in
      rw (full, here, is) refl

  pub internal_resolved : internal_resolution t home own ≡ Ok (found_at home)
  internal_resolved =
      let here : finite.contains_key t home ≡ true = home_there in
      rw (full, here, found_home) refl
