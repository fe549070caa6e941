-- The lines of the packages, read one after the other, make the packages.
--     packages_made      after a newline, from the first packages on
use Rattle.std.proofs.Common.{◌≡◌, ◌≢◌, ℕ, Bool, true, false, ◌||◌, ◌&&◌, List, [], ◌∷◌, ◌++◌, bytes_eq, codes, Some, inl, inr, refl, sym, ap, append_assoc, subst, ◌∙◌, arith}
use Rattle.std.specs.Prelude.{All, if◌then◌else◌, is_some, option_map, option_and_then}
use Rattle.std.specs.Option.{option_map_or}
use Rattle.std.specs.List.{flat_map}
use Rattle.std.specs.FinMap as finite
use Rattle.std.specs.FinMap.{get-empty}
use Rattle.std.proofs.lemmas.Bool.{and_parts, false≢true}
use Rattle.lisp_object.specs.Object.{text}
use Rattle.package_table.specs.Changes.{finds_this, with_external, with_present}
use Rattle.package_table.specs.Growth.{Grows}
use Rattle.package_table.specs.Readers.{external_names, imports, package_names, used_names}
use Rattle.package_table.specs.Table.{Name, Package, Present, Table, IsExternal, IsPackage, IsPresent, AreSoundPackages, Uses, common_lisp, common_lisp_package, common_lisp_user, initial, is_locked, keyword, name_cmp}
use Rattle.package_table.proofs.Names.{same_some}
use Rattle.package_table.proofs.Found.{present_found}
use Rattle.package_table.proofs.First.{sound as first_sound}
use Rattle.package_table.proofs.Frames.{equal_itself, equal_names, name_cases, not_equal, unequal_names}
use Rattle.package_table.proofs.Growing.{grows_both}
use Rattle.package_table.proofs.KeptChanges.{kept_export, kept_import, kept_use}
use Rattle.plist_state.specs.State.{WorldState}
use Rattle.user_macros.specs.Functions.{Functions}
use Rattle.snapshot_text.specs.Phases.{InEachPackage, HasExternals, HasOwn, HasSymbols, HasUses}
use Rattle.snapshot_text.proofs.AllPackages.{same_packages}
use Rattle.snapshot_text.proofs.Begins.{externals_grown, own_grown, symbols_grown, uses_grown}
use Rattle.snapshot_text.proofs.KeysSoFar.{keys_apart}
use Rattle.snapshot_text.proofs.PackageLists.{external_among, externals_are, import_among, imports_are, package_among, packages_are, use_among, uses_are}
use Rattle.snapshot_text.proofs.PartFinds.{external_entry, present_package}
use Rattle.snapshot_text.proofs.PartSame.{first_part}
use Rattle.snapshot_text.proofs.PartSteps.{after_used, export_goes, export_part, export_there, import_goes, import_part, import_there, not_locked, use_goes, use_part, use_there}
use Rattle.world_forms.specs.Packages.{change_line, export_form_line, import_line, own_lines, package_line, package_lines, shown_lines, use_line, use_package_lines}
use Rattle.world_forms.specs.NameTokens.{call_text, world_form_line}
use Rattle.text_laws.specs.Objects.{call}
use Rattle.export_laws.specs.ExportedTexts.{ReadsAsExported}
use Rattle.export_laws.proofs.OnTheWay.{Goes, IsOnTheWay, Made, at, every_line, nothing_more, one_line}
use Rattle.export_laws.proofs.PackageForms.{argument, export_leaves, import_leaves, use_leaves}
use Rattle.export_laws.proofs.PackageText.{call_is_form, change_argument, change_is_form, change_text}
use Rattle.export_laws.proofs.NewPackages.{HasPackages, first_new, is_export, is_import, is_use, keyword_there, make_lines, own_stage, package_name_short, packages_last, two_ascii, two_short}

-- COMMON-LISP uses nothing
lisp_uses_none : (q : Name) → option_map (λ (k : Package). finite.contains_key k.uses q) (Some common_lisp_package) ≡ Some true → ⊥
unfolding common_lisp_package
lisp_uses_none q e = false≢true (sym (ap is_some (get-empty name_cmp q)) ∙ same_some _ true e)

module _ (functions : Functions) (first : WorldState) (whole : List ℕ) (base : WorldState) (as_exported : ReadsAsExported base) (s : Table) (sound : AreSoundPackages s) where
  abbrev Reached : (Table → Type 0) → Table → List ℕ → Type 0
  Reached = Goes functions first whole base as_exported s

  abbrev Before : Table → List ℕ → Type 0
  Before = Made functions first whole base as_exported s

  abbrev Way : Table → Type 0
  Way = IsOnTheWay s

  abbrev HasPackagesIn : Table → Type 0
  HasPackagesIn = HasPackages functions first whole base as_exported s sound

  still_packages : (t u : Table) → Grows t u → HasPackagesIn t → HasPackagesIn u
  still_packages = packages_last functions first whole base as_exported s sound

  -- ---- IMPORT and EXPORT

  abbrev HasOwnNames : Table → Type 0
  HasOwnNames t = InEachPackage s (HasOwn t s)

  own_last : (t u : Table) → Grows t u → HasOwnNames t → HasOwnNames u
  own_last t u grows all = λ p there. own_grown t u s p (all p there) grows

  module _ (p : Name) (there : IsPackage s p) (lisp : p ≢ common_lisp) (key : p ≢ keyword) where
    open_so : is_locked p ≡ false
    open_so = not_locked p lisp key

    import_step : (r : Name × Name) (t : Table) (more : List ℕ) → IsPresent s p r.0 r.1 × (r.1 ≢ p) → HasOwnNames t → Way t
        → Before t (import_line p r ++ more) → Reached (λ u. IsPresent u p r.0 r.1) t more
    unfolding change_line
    import_step r t more is all way made =
        let n = r.0 in
        let h = r.1 in
        let at_home : IsPresent s h n h = sound.joined.homes p n h is.0 in
        let owner = all h (present_package s h n h at_home) in
        let present : IsPresent t h n h = owner.names n at_home in
        let here = (all p there).there in
        let name = sound.within.symbol_names p n h is.0 in
        let u = with_present t p h n in
        let goes = import_goes t s way.part sound p n h here is.0 open_so in
        let kept = (kept_import t p n way.sound h u present goes).0 in
        let finds = present_found t n h h present in
        one_line functions first whole base as_exported s (λ u. IsPresent u p n h) t u (change_text (codes "IMPORT") h n p) (call (codes "IMPORT") (change_argument h n h ∷ text p ∷ [])) more made
        (change_is_form t way.sound h n h owner.there finds name.ascii name.short (codes "IMPORT") is_import p (sound.within.package_names p there).ascii (package_name_short s sound p there))
        (import_leaves functions.names (at functions first whole base as_exported s t) way.sound p h n u here open_so (change_argument h n h)
        (argument functions.names (at functions first whole base as_exported s t) way.sound h n h owner.there finds present) goes)
        (record { part = import_part t s way.part sound p n h here is.0; sound = kept.sound }) kept.grows
        (import_there t s way.part sound p n h here is.0)

    -- with what is present in p
    abbrev HasPresent : Table → Type 0
    HasPresent t = HasOwnNames t × HasSymbols t s p

    present_last : (t u : Table) → Grows t u → HasPresent t → HasPresent u
    present_last t u grows all = (own_last t u grows all.0, symbols_grown t u s p all.1 grows)

    export_step : (n : Name) (t : Table) (more : List ℕ) → IsExternal s p n → HasPresent t → Way t
        → Before t (export_form_line p n ++ more) → Reached (λ u. IsExternal u p n) t more
    unfolding change_line
    export_step n t more shown all way made =
        let e = external_entry s p n shown in
        let h = e.0.home in
        let got : IsPresent s p n h = ap (option_map (λ (e : Present). e.home)) e.1 in
        let here : IsPresent t p n h = all.1.names n h got in
        let present : IsPresent t h n h = way.sound.joined.homes p n h here in
        let its_package = (all.0 p there).there in
        let name = sound.within.symbol_names p n h got in
        let u = with_external t p h n in
        let goes = export_goes t s way.part sound p n h its_package got shown way.sound here open_so in
        let kept = (kept_export t p n way.sound h u goes).0 in
        let finds = present_found t n p h here in
        let this : finds_this t p h n ≡ true = ap (λ o. option_map_or (λ g. bytes_eq g h) o false) finds ∙ equal_itself h in
        one_line functions first whole base as_exported s (λ u. IsExternal u p n) t u (change_text (codes "EXPORT") p n p) (call (codes "EXPORT") (change_argument p n h ∷ text p ∷ [])) more made
        (change_is_form t way.sound p n h its_package finds name.ascii name.short (codes "EXPORT") is_export p (sound.within.package_names p there).ascii (package_name_short s sound p there))
        (export_leaves functions.names (at functions first whole base as_exported s t) way.sound p h n u its_package open_so (change_argument p n h)
        (argument functions.names (at functions first whole base as_exported s t) way.sound p n h its_package finds present) this goes)
        (record { part = export_part t s way.part sound p n h its_package got shown way.sound here; sound = kept.sound }) kept.grows
        (export_there t s way.part sound p n h its_package got shown way.sound here)

    all_present : (t : Table) → HasOwnNames t → All (λ r. IsPresent t p r.0 r.1) (imports s p) → HasSymbols t s p
    all_present t own imported = record {
      names = λ n h got. elim (name_cases h p) [
        | inl same ↦ subst (λ g. IsPresent t p n g) (sym same) ((own p there).names n (subst (λ g. IsPresent s p n g) same got))
        | inr differ ↦ import_among s p (λ r. IsPresent t p r.0 r.1) imported n h got differ
      ];
    }

    shown_open : (t : Table) (more : List ℕ) → HasOwnNames t → Way t
        → Before t ((flat_map (import_line p) (imports s p) ++ flat_map (export_form_line p) (external_names s p)) ++ more) → Reached (λ u. HasSymbols u s p × HasExternals u s p) t more
    shown_open t more own way made =
        let later = flat_map (export_form_line p) (external_names s p) ++ more in
        let one = every_line functions first whole base as_exported s (import_line p) (λ r. IsPresent s p r.0 r.1 × (r.1 ≢ p)) HasOwnNames (λ r u. IsPresent u p r.0 r.1) own_last
        (λ r t u grows here. grows.homes p r.0 r.1 here) import_step (imports s p) t later (imports_are s p) own way
        (subst (λ cs. Before t cs) (append_assoc (flat_map (import_line p) (imports s p)) (flat_map (export_form_line p) (external_names s p)) more) made) in
        let own_then = own_last t one.there one.grows own in
        let symbols = all_present one.there own_then one.has in
        let two = every_line functions first whole base as_exported s (export_form_line p) (λ n. IsExternal s p n) HasPresent (λ n u. IsExternal u p n) present_last
        (λ n t u grows here. grows.externals p n here) export_step (external_names s p) one.there more (externals_are s p) (own_then, symbols) one.way one.made in
        record {
          there = two.there;
          way = two.way;
          grows = grows_both t one.there two.there one.grows two.grows;
          has = (symbols_grown one.there two.there s p symbols two.grows, record { names = external_among s p (λ n. IsExternal two.there p n) two.has });
          made = two.made;
        }

  -- COMMON-LISP never changes, and KEYWORD has its own symbols alone, all external
  abbrev HasShown : Table → Name → Type 0
  HasShown u p = HasSymbols u s p × HasExternals u s p

  lisp_shown : (t : Table) → Way t → HasShown t common_lisp
  lisp_shown t way =
      let same : finite.get s common_lisp ≡ finite.get t common_lisp = sound.first.fixed ∙ sym way.sound.first.fixed in (
        record { names = λ n h there. ap (λ o. option_map (λ (e : Present). e.home) (option_and_then (λ (k : Package). finite.get k.symbols n) o)) (sym same) ∙ there },
        record { names = λ n there. ap (λ o. option_map (λ (e : Present). e.external) (option_and_then (λ (k : Package). finite.get k.symbols n) o)) (sym same) ∙ there },
      )

  keyword_shown : (t : Table) → HasOwnNames t → Way t → HasShown t keyword
  keyword_shown t own way =
      let here = own keyword (keyword_there s sound) in
      let present : (n h : Name) → IsPresent s keyword n h → IsPresent t keyword n h
      = λ n h got. let home = sound.first.own n h got in subst (λ g. IsPresent t keyword n g) (sym home) (here.names n (subst (λ g. IsPresent s keyword n g) home got)) in (
        record { names = present },
        record {
          names = λ n shown.
              let e = external_entry s keyword n shown in
              way.sound.first.shown n e.0.home (present n e.0.home (ap (option_map (λ (e : Present). e.home)) e.1));
        },
      )

  shown_stage : (p : Name) (t : Table) (more : List ℕ) → IsPackage s p → HasOwnNames t → Way t → Before t (shown_lines s p ++ more) → Reached (λ u. HasShown u p) t more
  unfolding shown_lines
  shown_stage p t more there own way made = by_kind (bytes_eq p common_lisp) (bytes_eq p keyword) refl refl made
    where
      nothing : HasShown t p → Before t more → Reached (λ u. HasShown u p) t more
      nothing has made = nothing_more functions first whole base as_exported s (λ u. HasShown u p) t more way has made

      by_kind : (a b : Bool) → bytes_eq p common_lisp ≡ a → bytes_eq p keyword ≡ b
          → Before t ((if a || b then [] else flat_map (import_line p) (imports s p) ++ flat_map (export_form_line p) (external_names s p)) ++ more) → Reached (λ u. HasShown u p) t more
      by_kind true b e f made = nothing (subst (λ q. HasShown t q) (sym (equal_names p common_lisp e)) (lisp_shown t way)) made
      by_kind false true e f made = nothing (subst (λ q. HasShown t q) (sym (equal_names p keyword f)) (keyword_shown t own way)) made
      by_kind false false e f made = shown_open p there (unequal_names p common_lisp e) (unequal_names p keyword f) t more own way made

  -- ---- USE-PACKAGE

  use_step : (p : Name) → IsPackage s p → (q : Name) (t : Table) (more : List ℕ) → Uses s p q → HasPackagesIn t → Way t
      → Before t (use_line p q ++ more) → Reached (λ u. Uses u p q) t more
  unfolding use_line
  use_step p there q t more uses all way made = by_kind (bytes_eq p common_lisp_user && bytes_eq q common_lisp) refl made
    where
      lisp : p ≢ common_lisp
      lisp same = lisp_uses_none q (ap (λ o. option_map (λ (k : Package). finite.contains_key k.uses q) o) (sym sound.first.fixed) ∙ subst (λ r. Uses s r q) same uses)

      key : p ≢ keyword
      key same = sound.first.unusing q (subst (λ r. Uses s r q) same uses)

      other : bytes_eq keyword q ≡ false
      other = not_equal keyword q (λ same. sound.first.unused p (subst (λ r. Uses s p r) (sym same) uses))

      by_kind : (b : Bool) → (bytes_eq p common_lisp_user && bytes_eq q common_lisp) ≡ b
          → Before t ((if b then [] else world_form_line (call_text (codes "USE-PACKAGE") (q ∷ p ∷ []))) ++ more) → Reached (λ u. Uses u p q) t more
      by_kind true e made =
          let both = and_parts (bytes_eq p common_lisp_user) (bytes_eq q common_lisp) e in
          nothing_more functions first whole base as_exported s (λ u. Uses u p q) t more way
          (subst (λ r. Uses t r q) (sym (equal_names p common_lisp_user both.0)) (subst (λ r. Uses t common_lisp_user r) (sym (equal_names q common_lisp both.1)) way.sound.first.user)) made
      by_kind false e made =
          let here = all p there in
          let that_there : IsPackage s q = sound.joined.used p q uses in
          let that = all q that_there in
          let u = after_used t s way.part sound p q here that uses way.sound in
          let goes = use_goes t s way.part sound p q here that uses way.sound (not_locked p lisp key) in
          let kept = (kept_use t p q way.sound u goes).0 in
          one_line functions first whole base as_exported s (λ u. Uses u p q) t u (call_text (codes "USE-PACKAGE") (q ∷ p ∷ [])) (call (codes "USE-PACKAGE") (text q ∷ text p ∷ [])) more made
          (call_is_form t way.sound (codes "USE-PACKAGE") is_use (q ∷ p ∷ []) (two_ascii q p (sound.within.package_names q that_there).ascii (sound.within.package_names p there).ascii)
          (two_short q p (package_name_short s sound q that_there) (package_name_short s sound p there)) (omega arith))
          (use_leaves functions.names (at functions first whole base as_exported s t) way.sound p q u here that (not_locked p lisp key) other goes)
          (record { part = use_part t s way.part sound p q here that uses way.sound; sound = kept.sound }) kept.grows
          (use_there t s way.part sound p q here that uses way.sound)

  use_stage : (p : Name) (t : Table) (more : List ℕ) → IsPackage s p → HasPackagesIn t → Way t → Before t (use_package_lines s p ++ more) → Reached (λ u. HasUses u s p) t more
  unfolding use_package_lines
  use_stage p t more there all way made =
      let done = every_line functions first whole base as_exported s (use_line p) (λ q. Uses s p q) HasPackagesIn (λ q u. Uses u p q) still_packages
      (λ q t u grows here. grows.uses p q here) (use_step p there) (used_names s p) t more (uses_are s p) all way made in
      record { there = done.there; way = done.way; grows = done.grows; has = record { names = use_among s p (λ q. Uses done.there p q) done.has }; made = done.made }

  -- ---- all of them

  begins : Way initial
  begins = record { part = first_part s sound.first; sound = first_sound }

  stages : (more : List ℕ) → Before initial (flat_map package_line (package_names s) ++ (flat_map (own_lines s) (package_names s) ++ (flat_map (shown_lines s) (package_names s) ++ (flat_map (use_package_lines s) (package_names s) ++ more))))
      → Before s more
  stages more made =
      let ps = package_names s in
      let uses = flat_map (use_package_lines s) ps ++ more in
      let shown = flat_map (shown_lines s) ps ++ uses in
      let own = flat_map (own_lines s) ps ++ shown in
      let are = packages_are s in
      let a = make_lines functions first whole base as_exported s sound ps initial own (keys_apart name_cmp s) are (λ k d lt. first_new _) begins made in
      let all = package_among s (λ p. IsPackage a.there p) a.has in
      let b = every_line functions first whole base as_exported s (own_lines s) (λ p. IsPackage s p) HasPackagesIn (λ p u. HasOwn u s p) still_packages
      (λ p t u grows has. own_grown t u s p has grows) (λ p t more there. own_stage functions first whole base as_exported s sound p t more there) ps a.there shown are all a.way a.made in
      let names = package_among s (HasOwn b.there s) b.has in
      let c = every_line functions first whole base as_exported s (shown_lines s) (λ p. IsPackage s p) HasOwnNames (λ p u. HasShown u p) own_last
      (λ p t u grows has. (symbols_grown t u s p has.0 grows, externals_grown t u s p has.1 grows)) (λ p t more there. shown_stage p t more there) ps b.there uses are names b.way b.made in
      let d = every_line functions first whole base as_exported s (use_package_lines s) (λ p. IsPackage s p) HasPackagesIn (λ p u. HasUses u s p) still_packages
      (λ p t u grows has. uses_grown t u s p has grows) (λ p t more there. use_stage p t more there) ps c.there more are
      (still_packages b.there c.there c.grows (still_packages a.there b.there b.grows all)) c.way c.made in
      let has = package_among s (λ p. HasShown c.there p) c.has in
      let same = same_packages d.there s (record {
        sound = sound;
        part = d.way.part;
        own = λ p there. own_grown b.there d.there s p (names p there) (grows_both b.there c.there d.there c.grows d.grows);
      }) (λ p there. symbols_grown c.there d.there s p (has p there).0 d.grows) (λ p there. externals_grown c.there d.there s p (has p there).1 d.grows) (package_among s (HasUses d.there s) d.has) in
      subst (λ t. Before t more) same d.made

  pub packages_made : (more : List ℕ) → Before initial (package_lines s ++ more) → Before s more
  unfolding package_lines
  packages_made more made =
      let ps = package_names s in
      let makes = flat_map package_line ps in
      let own = flat_map (own_lines s) ps in
      let shown = flat_map (shown_lines s) ps in
      let uses = flat_map (use_package_lines s) ps in
      stages more (subst (λ cs. Before initial cs)
      (append_assoc (makes ++ own ++ shown) uses more ∙ append_assoc (makes ++ own) shown (uses ++ more) ∙ append_assoc makes own (shown ++ (uses ++ more))) made)
