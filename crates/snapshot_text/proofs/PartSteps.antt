-- What IMPORT, EXPORT and USE-PACKAGE make of packages that are a part of others, where they add what is there: they refuse
-- nothing, and what they leave is a part again, with what they add.
--     import_goes, import_part, import_there      an import
--     export_goes, export_part, export_there      an export
--     use_goes, use_part, use_there      a use
use Rattle.std.proofs.Common.{◌≡◌, ◌≢◌, true, false, not, ◌||◌, None, Some, refl, sym, ap, subst, ◌∙◌, inl}
use Rattle.std.specs.Prelude.{Result, Ok, Err, is_some, option_map, if◌then◌else◌, bytes_eq}
use Rattle.std.specs.Option.{option_map_or}
use Rattle.std.specs.FinMap as finite
use Rattle.std.proofs.lemmas.Bool.{false≢true}
use Rattle.package_table.specs.declared.error.PackageError.{PackageError}
use Rattle.package_table.specs.declared.error.PackageError.TheVariants.{NoSuchPackage, PackageIsLocked, NameConflict, NotAccessible}
use Rattle.package_table.specs.Table.{Name, Present, Package, Table, entry_at, common_lisp, keyword, is_locked, IsPackage, IsPresent, IsExternal, Uses, AreSoundPackages, with_entry, with_used}
use Rattle.package_table.specs.Lookup.{is_present, is_used}
use Rattle.package_table.specs.Changes.{finds_this, finds_other_than_shown, with_present, with_external, after_import, after_export, after_use}
use Rattle.package_table.proofs.Names.{same_some}
use Rattle.package_table.proofs.Frames.{equal_itself, not_equal, entry_new, uses_new}
use Rattle.package_table.proofs.Found.{present_found}
use Rattle.package_table.proofs.Keeping.{present_once, new_home}
use Rattle.snapshot_text.specs.Part.{IsPartOf}
use Rattle.snapshot_text.proofs.PartFinds.{present_entry, present_more, none_other, no_user_other, no_shown_other}
use Rattle.snapshot_text.proofs.PartOrder.{part_with_entry, part_with_used}

pub entry_present : (t : Table) (p n : Name) (e : Present) → entry_at t p n ≡ Some e → IsPresent t p n e.home
entry_present t p n e at = ap (option_map (λ (e : Present). e.home)) at

used_uses : (t : Table) (p q : Name) → is_used t p q ≡ true → Uses t p q
used_uses t p q e =
    elim (finite.get t p) as (λ o. option_map_or (λ (k : Package). finite.contains_key k.uses q) o false ≡ true → option_map (λ (k : Package). finite.contains_key k.uses q) o ≡ Some true) [
      | None ↦ λ e. absurd (false≢true e)
      | Some k ↦ λ e. ap (λ b. Some b) e
    ] e

pub not_locked : (p : Name) → p ≢ common_lisp → p ≢ keyword → is_locked p ≡ false
not_locked p lisp key = λ i. if not_equal p common_lisp lisp i then true else not_equal p keyword key i

module _ (t s : Table) (part : IsPartOf t s) (sound : AreSoundPackages s) where
  module _ (p n h : Name) (there : IsPackage t p) (got : IsPresent s p n h) where
    -- ---- IMPORT

    pub import_goes : is_locked p ≡ false → after_import t p h n ≡ Ok (with_present t p h n)
    import_goes locked =
        let other = none_other t s part sound.joined p h n (inl got) in
        λ i. if not (there i) then Err NoSuchPackage
        else (if locked i then Err PackageIsLocked
        else (if other i then Err NameConflict
        else Ok (with_present t p h n)))

    pub import_part : IsPartOf (with_present t p h n) s
    import_part =
        let old = present_entry s p n h got in
        elim (is_present t p n) as (λ b. IsPartOf (if b then t else with_entry t p n (record { home = h; external = false })) s) [
          | true ↦ part
          | false ↦ part_with_entry t s part p n (record { home = h; external = false }) old.0 there old.1 (record { home = sym old.2; external = λ no. absurd (false≢true no) })
        ]

    pub import_there : IsPresent (with_present t p h n) p n h
    import_there =
        elim (entry_at t p n) as (λ o. entry_at t p n ≡ o → IsPresent (if is_some o then t else with_entry t p n (record { home = h; external = false })) p n h) [
          | None ↦ λ _. new_home t p n (record { home = h; external = false }) there
          | Some x ↦ λ at.
              let here = entry_present t p n x at in
              subst (λ (g : Name). IsPresent t p n g) (present_once s p n x.home h (present_more t s part p n x.home here) got) here
        ] refl

    -- ---- EXPORT

    module _ (shown : IsExternal s p n) (sound_t : AreSoundPackages t) (here : IsPresent t p n h) where
      pub export_goes : is_locked p ≡ false → after_export t p h n ≡ Ok (with_external t p h n)
      export_goes locked =
          let finds : finds_this t p h n ≡ true = ap (λ o. option_map_or (λ g. bytes_eq g h) o false) (present_found t n p h here) ∙ equal_itself h in
          let other = no_user_other t s part sound.joined sound_t p h n shown got in
          λ i. if not (there i) then Err NoSuchPackage
          else (if locked i then Err PackageIsLocked
          else (if not (finds i) then Err NotAccessible
          else (if other i then Err NameConflict
          else Ok (with_external t p h n))))

      pub export_part : IsPartOf (with_external t p h n) s
      export_part =
          let old = present_entry s p n h got in
          let far : old.0.external ≡ true = same_some old.0.external true (sym (ap (option_map (λ (e : Present). e.external)) old.1) ∙ shown) in
          part_with_entry t s part p n (record { home = h; external = true }) old.0 there old.1 (record { home = sym old.2; external = λ _. far })

      pub export_there : IsExternal (with_external t p h n) p n
      export_there = ap (option_map (λ (e : Present). e.external)) (entry_new t p n (record { home = h; external = true }) there)

  -- ---- USE-PACKAGE

  module _ (p q : Name) (there : IsPackage t p) (that : IsPackage t q) (uses : Uses s p q) (sound_t : AreSoundPackages t) where
    abbrev pub after_used : Table
    after_used = if is_used t p q then t else with_used t p q

    pub use_goes : is_locked p ≡ false → after_use t p q ≡ Ok after_used
    use_goes locked =
        let apart = not_equal p q (λ same. sound.joined.apart p (subst (λ (x : Name). Uses s p x) (sym same) uses)) in
        let unlocked = not_equal q keyword (λ same. sound.first.unused p (subst (λ (x : Name). Uses s p x) same uses)) in
        let other = no_shown_other t s part sound.joined sound_t p q uses in
        elim (is_used t p q) as (λ b. ◌≡◌ {A = Result Table PackageError} (if not (finite.contains_key t p) || not (finite.contains_key t q) then Err NoSuchPackage
        else (if is_locked p || bytes_eq q keyword then Err PackageIsLocked
        else (if bytes_eq p q || b then Ok t
        else (if finds_other_than_shown t p q then Err NameConflict
        else Ok (with_used t p q))))) (Ok (if b then t else with_used t p q))) [
          | true ↦ λ i. if not (there i) || not (that i) then Err NoSuchPackage
              else (if locked i || unlocked i then Err PackageIsLocked
              else (if apart i || true then Ok t
              else (if finds_other_than_shown t p q then Err NameConflict
              else Ok (with_used t p q))))
          | false ↦ λ i. if not (there i) || not (that i) then Err NoSuchPackage
              else (if locked i || unlocked i then Err PackageIsLocked
              else (if apart i || false then Ok t
              else (if other i then Err NameConflict
              else Ok (with_used t p q))))
        ]

    pub use_part : IsPartOf after_used s
    use_part = elim (is_used t p q) as (λ b. IsPartOf (if b then t else with_used t p q) s) [ true ↦ part | false ↦ part_with_used t s part p q uses ]

    pub use_there : Uses after_used p q
    use_there =
        elim (is_used t p q) as (λ b. is_used t p q ≡ b → Uses (if b then t else with_used t p q) p q) [
          | true ↦ λ is. used_uses t p q is
          | false ↦ λ _. uses_new t p q there
        ] refl
