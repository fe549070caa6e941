-- The symbol of an external name, which is present before it is made external.
use Rattle.std.proofs.Common.{◌≡◌, ◌≢◌, not, sym, ap, subst, ◌∙◌}
use Rattle.std.specs.Prelude.{Ok, Err, if◌then◌else◌, bytes_eq, option_map, ◌||◌, nat_lt, nat_le, length}
use Rattle.std.specs.Option.{option_map_or}
use Rattle.package_table.specs.declared.error.PackageError.TheVariants.{NoSuchPackage, PackageIsLocked, Limit}
use Rattle.package_table.specs.Limits.{most_symbols, longest_symbol_name}
use Rattle.package_table.specs.Table.{Name, Table, Present, common_lisp, keyword, IsPackage, IsPresent, IsExternal, AreSoundPackages, symbol_count}
use Rattle.package_table.specs.Changes.{after_intern, after_export, with_external, with_new_symbol}
use Rattle.package_table.proofs.Found.{present_found}
use Rattle.snapshot_text.specs.Part.{IsPartOf}
use Rattle.snapshot_text.specs.Phases.{HasSymbols, HasItsPackages}
use Rattle.snapshot_text.proofs.Gave.{same_ok}
use Rattle.snapshot_text.proofs.PartFinds.{external_entry, present_package}
use Rattle.snapshot_text.proofs.PartSteps.{not_locked, export_goes, export_part, export_there}

pub intern_goes : (t : Table) (p n h : Name) → IsPackage t p → IsPresent t p n h → after_intern t p n ≡ Ok (h, t)
intern_goes t p n h there here = λ i.
    if not (there i) then Err NoSuchPackage
    else option_map_or (λ h. Ok (h, t)) (present_found t n p h here i)
    (if bytes_eq p common_lisp then Err PackageIsLocked
    else (if nat_lt longest_symbol_name (length n) || nat_le most_symbols (symbol_count t) then Err Limit
    else Ok (p, with_new_symbol t p n)))

module _ (t s : Table) (p n : Name) (begun : HasItsPackages t s) (has : HasSymbols t s p) (shown : IsExternal s p n) where
  abbrev pub home : Name
  home = (external_entry s p n shown).0.home

  got : IsPresent s p n home
  got = ap (option_map (λ (e : Present). e.home)) (external_entry s p n shown).1

  there : IsPackage t p
  there = (begun.own p (present_package s p n home got)).there

  here : IsPresent t p n home
  here = has.names n home got

  pub interns : after_intern t p n ≡ Ok (home, t)
  interns = intern_goes t p n home there here

  -- it is found, and nothing is made
  pub interned : (g : Name) (u : Table) → after_intern t p n ≡ Ok (g, u) → (g ≡ home) × (u ≡ t)
  interned g u e =
      let both = same_ok (g, u) (home, t) (sym e ∙ interns) in
      (ap (λ (r : Name × Table). r.0) both, ap (λ (r : Name × Table). r.1) both)

  module _ (lisp : p ≢ common_lisp) (key : p ≢ keyword) (sound : AreSoundPackages t) where
    pub exports : after_export t p home n ≡ Ok (with_external t p home n)
    exports = export_goes t s begun.part begun.sound p n home there got shown sound here (not_locked p lisp key)

    pub exported : (u : Table) → after_export t p home n ≡ Ok u → IsPartOf u s × IsExternal u p n
    exported u e =
        let is = same_ok (with_external t p home n) u (sym exports ∙ e) in
        (subst (λ (x : Table). IsPartOf x s) is (export_part t s begun.part begun.sound p n home there got shown sound here), subst (λ (x : Table). IsExternal x p n) is (export_there t s begun.part begun.sound p n home there got shown sound here))
