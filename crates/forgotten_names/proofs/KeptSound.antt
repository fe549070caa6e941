-- Sound packages stay sound where each keeps some of its names: those that are external, and those that a package imports, there and in
-- their homes.
--     first_external      what COMMON-LISP has
--     present_stays, external_stays, present_was      what is there
--     kept_sound      they are sound
use Rattle.std.proofs.Common.{◌≡◌, Bool, true, false, cond, None, Some, sym, ap, subst, ◌∙◌, arith, inl, inr}
use Rattle.std.specs.Prelude.{option_map, option_and_then}
use Rattle.std.specs.List.{list_any}
use Rattle.std.specs.Ordering.{eq_by_cmp}
use Rattle.std.specs.FinMap as finite
use Rattle.package_table.specs.Table.{Name, name_cmp, Present, Package, Table, entry_at, IsPresent, IsExternal, AreUsesSound, HasFirst, IsWithin, AreSoundPackages, common_lisp, common_lisp_user, keyword, common_lisp_package, common_lisp_names}
use Rattle.package_table.proofs.Names.{same_some, none_some}
use Rattle.package_table.proofs.Frames.{name_cases}
use Rattle.package_table.proofs.First.{at_home, symbol_first}
use Rattle.snapshot_text.proofs.PartFinds.{present_entry, finds_more}
use Rattle.snapshot_text.proofs.PartCounts.{len_part, symbols_part}
use Rattle.forgotten_names.specs.WorldsWithoutNames.{kept_package, kept_packages}
use Rattle.forgotten_names.proofs.KeptPackages.{whole_package, package_kept, uses_kept, there_kept, entry_stays, entry_was, kept_part}

-- each symbol of COMMON-LISP is external
lisp_external : (n : Name) (e : Present) → finite.get common_lisp_package.symbols n ≡ Some e → e.external ≡ true
unfolding common_lisp_package
lisp_external n e is = shown_in (list_any (eq_by_cmp name_cmp n) common_lisp_names) (sym (symbol_first common_lisp common_lisp_names n) ∙ is)
  where
    shown_in : (b : Bool) → cond b (Some (at_home common_lisp)) None ≡ Some e → e.external ≡ true
    shown_in true here = ap (λ (e : Present). e.external) (sym (same_some (at_home common_lisp) e here))
    shown_in false none = absurd (none_some e none)

pub first_external : (t : Table) → HasFirst t → (n : Name) (e : Present) → entry_at t common_lisp n ≡ Some e → IsExternal t common_lisp n
first_external t first n e here =
    let is = sym (ap (option_and_then (λ (k : Package). finite.get k.symbols n)) first.fixed) ∙ here in
    ap (option_map (λ (e : Present). e.external)) here ∙ ap (λ b. Some b) (lisp_external n e is)

module _ (keep : Name → Name → Bool) (t : Table)
    (shown : (p n : Name) → IsExternal t p n → keep p n ≡ true)
    (imported : (p n h : Name) → IsPresent t p n h → (h ≡ p → ⊥) → (keep p n ≡ true) × (keep h n ≡ true)) where
  abbrev kept : Table
  kept = kept_packages keep t

  pub present_stays : (p n h : Name) → keep p n ≡ true → IsPresent t p n h → IsPresent kept p n h
  present_stays p n h keeps here = ap (option_map (λ (e : Present). e.home)) (entry_stays keep t p n keeps) ∙ here

  pub external_stays : (p n : Name) → IsExternal t p n → IsExternal kept p n
  external_stays p n here = ap (option_map (λ (e : Present). e.external)) (entry_stays keep t p n (shown p n here)) ∙ here

  pub present_was : (p n h : Name) → IsPresent kept p n h → IsPresent t p n h × (keep p n ≡ true)
  present_was p n h here =
      let e = present_entry kept p n h here in
      let was = entry_was keep t p n e.0 e.1 in
      (ap (option_map (λ (e : Present). e.home)) was.0 ∙ ap (λ h. Some h) e.2, was.1)

  kept_joined : AreUsesSound t → AreUsesSound kept
  kept_joined is = record {
    homes = λ p n h here.
        elim (name_cases h p) [
          | inl same ↦ subst (λ (x : Name). IsPresent kept x n h) (sym same) here
          | inr differ ↦
              let was = (present_was p n h here).0 in
              present_stays h n h (imported p n h was differ).1 (is.homes p n h was)
        ];
    used = λ p q used. there_kept keep t q ∙ is.used p q (sym (uses_kept keep t p q) ∙ used);
    apart = λ p used. is.apart p (sym (uses_kept keep t p p) ∙ used);
    one = λ p n g h a b. is.one p n g h (finds_more kept t (kept_part keep t) p n g a) (finds_more kept t (kept_part keep t) p n h b);
  }

  kept_lisp : HasFirst t → finite.get kept common_lisp ≡ Some common_lisp_package
  kept_lisp first =
      package_kept keep t common_lisp
      ∙ ap (option_map (kept_package keep common_lisp)) first.fixed
      ∙ ap (λ k. Some k) (whole_package keep common_lisp common_lisp_package (λ n e is. shown common_lisp n
      (first_external t first n e (ap (option_and_then (λ (k : Package). finite.get k.symbols n)) first.fixed ∙ is))))

  kept_first : HasFirst t → HasFirst kept
  kept_first first = record {
    fixed = kept_lisp first;
    user = uses_kept keep t common_lisp_user common_lisp ∙ first.user;
    keywords = λ n among.
        let here = first.keywords n among in
        present_stays keyword n keyword (shown keyword n (first.shown n keyword here)) here;
    own = λ n h here. first.own n h (present_was keyword n h here).0;
    shown = λ n h here. external_stays keyword n (first.shown n h (present_was keyword n h here).0);
    unusing = λ q used. first.unusing q (sym (uses_kept keep t keyword q) ∙ used);
    unused = λ p used. first.unused p (sym (uses_kept keep t p keyword) ∙ used);
  }

  kept_within : IsWithin t → IsWithin kept
  kept_within within = record {
    package_names = λ p here. within.package_names p (sym (there_kept keep t p) ∙ here);
    symbol_names = λ p n h here. within.symbol_names p n h (present_was p n h here).0;
    packages = let fewer = len_part kept t (kept_part keep t) in let few = within.packages in omega (arith, fewer, few);
    symbols = let fewer = symbols_part kept t (kept_part keep t) in let few = within.symbols in omega (arith, fewer, few);
  }

  pub kept_sound : AreSoundPackages t → AreSoundPackages kept
  kept_sound sound = record { joined = kept_joined sound.joined; first = kept_first sound.first; within = kept_within sound.within }
