-- What holds of all packages but COMMON-LISP holds of all of them, since COMMON-LISP is the same in all sound packages.
--     lisp_symbols, lisp_externals, lisp_uses, lisp_own      what is in COMMON-LISP
--     everywhere      of all packages
--     row_at      the row of a package, one after the other
--     same_packages      where all is made, the packages are the same
use Rattle.std.proofs.Common.{◌≡◌, ◌≢◌, ℕ, ◌<◌, List, [], true, Some, length, get_or, is_some, sym, ap, subst, ◌∙◌, inl, inr, arith}
use Rattle.std.specs.Prelude.{All, option_map, option_and_then}
use Rattle.std.specs.FinMap as finite
use Rattle.package_table.specs.Table.{Name, Present, Package, Table, common_lisp, IsPackage, IsPresent, AreSoundPackages}
use Rattle.package_table.proofs.Frames.{name_cases}
use Rattle.package_table.proofs.KeptSound.{used_is_package}
use Rattle.package_table.proofs.Names.{same_some}
use Rattle.snapshot_text.specs.declared.package_parts.PackageParts.{PackageParts}
use Rattle.snapshot_text.specs.Phases.{HasOwn, HasSymbols, HasExternals, HasUses, HasItsPackages, IsRowOf, AreRowsOf, InEachPackage, other_packages}
use Rattle.snapshot_text.proofs.PackageLists.{others_are, other_among}
use Rattle.snapshot_text.proofs.PartFinds.{present_entry, present_package}
use Rattle.snapshot_text.proofs.PartSame.{same_parts}

module _ (t s : Table) (sound_t : AreSoundPackages t) (sound_s : AreSoundPackages s) where
  same_lisp : finite.get s common_lisp ≡ finite.get t common_lisp
  same_lisp = sound_s.first.fixed ∙ sym sound_t.first.fixed

  lisp_symbols : HasSymbols t s common_lisp
  lisp_symbols = record { names = λ n h there. ap (λ o. option_map (λ (e : Present). e.home) (option_and_then (λ (k : Package). finite.get k.symbols n) o)) (sym same_lisp) ∙ there }

  lisp_externals : HasExternals t s common_lisp
  lisp_externals = record { names = λ n there. ap (λ o. option_map (λ (e : Present). e.external) (option_and_then (λ (k : Package). finite.get k.symbols n) o)) (sym same_lisp) ∙ there }

  lisp_uses : HasUses t s common_lisp
  lisp_uses = record { names = λ q there. ap (λ o. option_map (λ (k : Package). finite.contains_key k.uses q) o) (sym same_lisp) ∙ there }

  lisp_own : HasOwn t s common_lisp
  lisp_own = record { there = ap is_some sound_t.first.fixed; names = λ n there. lisp_symbols.names n common_lisp there }

pub everywhere : (s : Table) (P : Name → Type 0) → P common_lisp → All P (other_packages s) → InEachPackage s P
everywhere s P lisp all = λ p there.
    elim (name_cases p common_lisp) [
      | inl same ↦ subst P (sym same) lisp
      | inr differ ↦ other_among s P all p there differ
    ]

module _ (t s : Table) (sound_t : AreSoundPackages t) (sound_s : AreSoundPackages s) where
  pub own_everywhere : All (HasOwn t s) (other_packages s) → InEachPackage s (HasOwn t s)
  own_everywhere all = everywhere s (HasOwn t s) (lisp_own t s sound_t sound_s) all

  pub symbols_everywhere : All (HasSymbols t s) (other_packages s) → InEachPackage s (HasSymbols t s)
  symbols_everywhere all = everywhere s (HasSymbols t s) (lisp_symbols t s sound_t sound_s) all

  pub externals_everywhere : All (HasExternals t s) (other_packages s) → InEachPackage s (HasExternals t s)
  externals_everywhere all = everywhere s (HasExternals t s) (lisp_externals t s sound_t sound_s) all

  pub uses_everywhere : All (HasUses t s) (other_packages s) → InEachPackage s (HasUses t s)
  uses_everywhere all = everywhere s (HasUses t s) (lisp_uses t s sound_t sound_s) all

-- ---- the row at an index

-- what is known of it: its package
pub record IsRowAt (s : Table) (i : ℕ) (row : PackageParts) : Type 0 where
  pub within : i < length (other_packages s)
  pub is : IsRowOf s (get_or (other_packages s) i []) row
  pub there : IsPackage s (get_or (other_packages s) i [])
  pub other : get_or (other_packages s) i [] ≢ common_lisp

pub row_at : (s : Table) (rows : List PackageParts) (i : ℕ) (row : PackageParts) → AreRowsOf s rows → i < length rows → row ≡ get_or rows i row → IsRowAt s i row
row_at s rows i row are lt at =
    let long = are.long in
    let within : i < length (other_packages s) = omega arith in
    let other = others_are s i [] within in
    record {
      within = within;
      is = subst (λ (x : PackageParts). IsRowOf s (get_or (other_packages s) i []) x) (sym at) (are.each i row lt);
      there = other.0;
      other = other.1;
    }

-- ---- at the end

pub same_packages : (t s : Table) → HasItsPackages t s → InEachPackage s (HasSymbols t s) → InEachPackage s (HasExternals t s) → InEachPackage s (HasUses t s) → t ≡ s
same_packages t s begun symbols externals uses = same_parts t s begun.part (record {
  packages = λ p there. (begun.own p there).there;
  symbols = λ p n e at.
      let here : IsPresent s p n e.home = ap (option_map (λ (e : Present). e.home)) at in
      let owner = present_package s p n e.home here in
      let f = present_entry t p n e.home ((symbols p owner).names n e.home here) in (
        f.0,
        f.1,
        record {
          home = sym f.2;
          external = λ shown.
              same_some f.0.external true (sym (ap (option_map (λ (e : Present). e.external)) f.1) ∙ (externals p owner).names n (ap (option_map (λ (e : Present). e.external)) at ∙ ap (λ b. Some b) shown));
        },
      );
  uses = λ p q used. (uses p (used_is_package s p q used)).names q used;
})
