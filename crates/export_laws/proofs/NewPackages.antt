-- The lines that make the packages, and the symbols at home in them.
--     make_lines      MAKE-PACKAGE, from the first packages on: each package is there then
--     own_stage      INTERN, of a package: it has its own symbols then
use Rattle.std.proofs.Common.{◌≡◌, ◌≢◌, ℕ, ◌<◌, ◌≤◌, Bool, true, false, ◌||◌, List, [], ◌∷◌, ◌++◌, length, bytes_eq, codes, Some, None, inl, inr, refl, sym, ap, append_assoc, subst, ◌∙◌, arith}
use Rattle.std.specs.Prelude.{All, if◌then◌else◌, is_some, option_map, option_and_then}
use Rattle.std.specs.Ordering.{eq_by_cmp}
use Rattle.std.specs.List.{flat_map, list_any}
use Rattle.std.specs.FinMap as finite
use Rattle.std.proofs.lemmas.Bool.{false≢true, or_parts}
use Rattle.std.proofs.lemmas.List.Elements.{All-cons, All-head, All-nil, All-tail}
use Rattle.lisp_object.specs.Object.{text}
use Rattle.package_table.specs.Growth.{Grows}
use Rattle.package_table.specs.Lookup.{is_present}
use Rattle.package_table.specs.Readers.{own_names}
use Rattle.package_table.specs.Table.{Name, Package, Present, Table, IsPackage, IsPresent, AreSoundPackages, common_lisp, common_lisp_user, common_lisp_names, empty_package, entry_at, initial, keyword, keyword_names, name_cmp, with_new_package}
use Rattle.package_table.proofs.Names.{same_tied}
use Rattle.package_table.proofs.First.{sound as first_sound}
use Rattle.package_table.proofs.Frames.{equal_names, get_inserted, get_kept}
use Rattle.package_table.proofs.Growing.{grows_both}
use Rattle.package_table.proofs.Keeping.{present_once}
use Rattle.package_table.proofs.KeptChanges.{kept_intern, kept_make}
use Rattle.package_table.proofs.KeptSound.{used_is_package}
use Rattle.plist_state.specs.State.{WorldState}
use Rattle.user_macros.specs.Functions.{Functions}
use Rattle.snapshot_text.specs.Phases.{InEachPackage, HasOwn}
use Rattle.snapshot_text.proofs.KeysSoFar.{AreApart}
use Rattle.snapshot_text.proofs.OwnNames.{own_among, own_are}
use Rattle.snapshot_text.proofs.PartFinds.{present_entry, present_more, present_package}
use Rattle.snapshot_text.proofs.PartMakes.{intern_goes, make_goes, make_part}
use Rattle.snapshot_text.proofs.PartSame.{first_part, where_first}
use Rattle.world_forms.specs.Packages.{is_first, own_line, own_lines, package_line}
use Rattle.world_forms.specs.NameTokens.{call_text, world_form_line}
use Rattle.text_laws.specs.Objects.{call}
use Rattle.export_laws.specs.ExportedTexts.{ReadsAsExported}
use Rattle.export_laws.proofs.OnTheWay.{Goes, IsOnTheWay, Made, at, every_line, nothing_more, one_line}
use Rattle.export_laws.proofs.PackageForms.{intern_leaves, make_leaves}
use Rattle.export_laws.proofs.PackageText.{IsOperator, call_is_form}

-- ---- the operators

pub is_make : IsOperator (codes "MAKE-PACKAGE")
unfolding common_lisp_names
is_make = record { listed = refl; plain = refl; short = omega arith }

pub is_intern : IsOperator (codes "INTERN")
unfolding common_lisp_names
is_intern = record { listed = refl; plain = refl; short = omega arith }

pub is_import : IsOperator (codes "IMPORT")
unfolding common_lisp_names
is_import = record { listed = refl; plain = refl; short = omega arith }

pub is_export : IsOperator (codes "EXPORT")
unfolding common_lisp_names
is_export = record { listed = refl; plain = refl; short = omega arith }

pub is_use : IsOperator (codes "USE-PACKAGE")
unfolding common_lisp_names
is_use = record { listed = refl; plain = refl; short = omega arith }

-- ---- names as arguments

pub two_ascii : (n p : Name) → All (λ b. b < 128) n → All (λ b. b < 128) p → All (λ m. All (λ b. b < 128) m) (n ∷ p ∷ [])
two_ascii n p a b =
    All-cons (λ m. All (λ b. b < 128) m) n (p ∷ []) a (All-cons (λ m. All (λ b. b < 128) m) p [] b (All-nil (λ m. All (λ b. b < 128) m)))

pub two_short : (n p : Name) → length n ≤ 4096 → length p ≤ 4096 → All (λ m. length m ≤ 4096) (n ∷ p ∷ [])
two_short n p a b =
    All-cons (λ m. length m ≤ 4096) n (p ∷ []) a (All-cons (λ m. length m ≤ 4096) p [] b (All-nil (λ m. length m ≤ 4096)))

module _ (s : Table) (sound : AreSoundPackages s) where
  pub package_name_short : (p : Name) → IsPackage s p → length p ≤ 4096
  package_name_short p there = let few : length p ≤ 256 = (sound.within.package_names p there).short in omega (arith, few)

-- ---- the first packages

-- a package that is still to be made is not there
abbrev pub IsNew : Table → Name → Type 0
IsNew t p = is_first p ≡ false → finite.contains_key t p ≡ false

pub keyword_there : (t : Table) → AreSoundPackages t → IsPackage t keyword
unfolding keyword_names
keyword_there t sound_t = present_package t keyword (codes "USER") keyword (sound_t.first.keywords (codes "USER") refl)

firsts_there : (t : Table) → AreSoundPackages t → (p : Name) → is_first p ≡ true → IsPackage t p
unfolding is_first
firsts_there t sound_t p is =
    elim (bytes_eq p common_lisp) as (λ b. bytes_eq p common_lisp ≡ b → (b || (bytes_eq p common_lisp_user || bytes_eq p keyword)) ≡ true → IsPackage t p) [
      | true ↦ λ e _. subst (λ q. IsPackage t q) (sym (equal_names p common_lisp e)) (ap is_some sound_t.first.fixed)
      | false ↦ λ _. elim (bytes_eq p common_lisp_user) as (λ b. bytes_eq p common_lisp_user ≡ b → (b || bytes_eq p keyword) ≡ true → IsPackage t p) [
        | true ↦ λ e _. subst (λ q. IsPackage t q) (sym (equal_names p common_lisp_user e)) (used_is_package t common_lisp_user common_lisp sound_t.first.user)
        | false ↦ λ _ e. subst (λ q. IsPackage t q) (sym (equal_names p keyword e)) (keyword_there t sound_t)
      ] refl
    ] refl is

new_still : (t : Table) (p : Name) (qs : List Name) → list_any (eq_by_cmp name_cmp p) qs ≡ false → All (IsNew t) qs → All (IsNew (with_new_package t p)) qs
new_still t p [] other new = All-nil (IsNew (with_new_package t p))
new_still t p (q ∷ qs) other new =
    let parts = or_parts (eq_by_cmp name_cmp p q) (list_any (eq_by_cmp name_cmp p) qs) other in
    All-cons (IsNew (with_new_package t p)) q qs
    (λ no. ap is_some (get_kept t p empty_package q (λ same. false≢true (sym parts.0 ∙ ap (λ x. eq_by_cmp name_cmp p x) same ∙ same_tied p))) ∙ All-head (IsNew t) q qs new no)
    (new_still t p qs parts.1 (All-tail (IsNew t) q qs new))

pub first_new : (p : Name) → IsNew initial p
unfolding is_first
first_new p other =
    elim (finite.get initial p) as (λ o. finite.get initial p ≡ o → is_some o ≡ false) [
      | None ↦ λ _. refl
      | Some k ↦ λ at. absurd (false≢true (sym other ∙ elim (where_first p k at) [
        | inl is ↦ ap is_first is
        | inr (inl (is, _)) ↦ ap is_first is
        | inr (inr is) ↦ ap is_first is
      ]))
    ] refl

module _ (functions : Functions) (first : WorldState) (whole : List ℕ) (base : WorldState) (as_exported : ReadsAsExported base) (s : Table) (sound : AreSoundPackages s) where
  abbrev Reached : (Table → Type 0) → Table → List ℕ → Type 0
  Reached = Goes functions first whole base as_exported s

  abbrev Before : Table → List ℕ → Type 0
  Before = Made functions first whole base as_exported s

  abbrev Way : Table → Type 0
  Way = IsOnTheWay s

  -- ---- MAKE-PACKAGE

  -- a package is there, and none of those that are still to be made
  abbrev IsMade : Name → List Name → Table → Type 0
  IsMade p ps u = IsPackage u p × All (IsNew u) ps

  make_line : (p : Name) (ps : List Name) (t : Table) (more : List ℕ) → list_any (eq_by_cmp name_cmp p) ps ≡ false → IsPackage s p → All (IsNew t) (p ∷ ps) → Way t
      → Before t (package_line p ++ more) → Reached (IsMade p ps) t more
  unfolding package_line
  make_line p ps t more other there new way made = by_kind (is_first p) refl made
    where
      by_kind : (b : Bool) → is_first p ≡ b → Before t ((if b then [] else world_form_line (call_text (codes "MAKE-PACKAGE") (p ∷ []))) ++ more) → Reached (IsMade p ps) t more
      by_kind true e made =
          nothing_more functions first whole base as_exported s (IsMade p ps) t more way (firsts_there t way.sound p e, All-tail (IsNew t) p ps new) made
      by_kind false e made =
          let absent = All-head (IsNew t) p ps new e in
          let u = with_new_package t p in
          let name = sound.within.package_names p there in
          let goes = make_goes t s way.part sound p absent there in
          let kept = (kept_make t p u way.sound name.ascii goes).0 in
          one_line functions first whole base as_exported s (IsMade p ps) t u (call_text (codes "MAKE-PACKAGE") (p ∷ [])) (call (codes "MAKE-PACKAGE") (text p ∷ [])) more made
          (call_is_form t way.sound (codes "MAKE-PACKAGE") is_make (p ∷ []) (All-cons (λ m. All (λ b. b < 128) m) p [] name.ascii (All-nil (λ m. All (λ b. b < 128) m)))
          (All-cons (λ m. length m ≤ 4096) p [] (package_name_short s sound p there) (All-nil (λ m. length m ≤ 4096))) (omega arith))
          (make_leaves functions.names (at functions first whole base as_exported s t) way.sound p u goes)
          (record { part = make_part t s way.part sound p absent there; sound = kept.sound }) kept.grows
          (ap is_some (get_inserted t p empty_package), new_still t p ps other (All-tail (IsNew t) p ps new))

  pub make_lines : (ps : List Name) (t : Table) (more : List ℕ) → AreApart name_cmp ps → All (λ p. IsPackage s p) ps → All (IsNew t) ps → Way t
      → Before t (flat_map package_line ps ++ more) → Reached (λ u. All (λ p. IsPackage u p) ps) t more
  make_lines [] t more apart there new way made = nothing_more functions first whole base as_exported s (λ u. All (λ p. IsPackage u p) []) t more way (All-nil (λ p. IsPackage t p)) made
  make_lines (p ∷ ps) t more apart there new way made =
      let one = make_line p ps t (flat_map package_line ps ++ more) apart.0 (All-head (λ p. IsPackage s p) p ps there) new way
      (subst (λ cs. Before t cs) (append_assoc (package_line p) (flat_map package_line ps) more) made) in
      let two = make_lines ps one.there more apart.1 (All-tail (λ p. IsPackage s p) p ps there) one.has.1 one.way one.made in
      record {
        there = two.there;
        way = two.way;
        grows = grows_both t one.there two.there one.grows two.grows;
        has = All-cons (λ q. IsPackage two.there q) p ps (two.grows.packages p one.has.0) two.has;
        made = two.made;
      }

  -- ---- INTERN

  abbrev pub HasPackages : Table → Type 0
  HasPackages t = InEachPackage s (λ p. IsPackage t p)

  pub packages_last : (t u : Table) → Grows t u → HasPackages t → HasPackages u
  packages_last t u grows all = λ p there. grows.packages p (all p there)

  -- what is there from the first is still there
  still_there : (t : Table) → Way t → (p n : Name) → IsPresent s p n p → is_present initial p n ≡ true → IsPresent t p n p
  still_there t way p n home old =
      elim (entry_at initial p n) as (λ o. entry_at initial p n ≡ o → is_some o ≡ true → IsPresent t p n p) [
        | None ↦ λ _ no. absurd (false≢true no)
        | Some e ↦ λ is _.
            let here = present_more initial t (first_part t way.sound.first) p n e.home (ap (option_map (λ (e : Present). e.home)) is) in
            subst (λ h. IsPresent t p n h) (present_once s p n e.home p (present_more t s way.part p n e.home here) home) here
      ] refl old

  -- all symbols of COMMON-LISP are there from the first
  not_lisp : (p n : Name) → IsPresent s p n p → is_present initial p n ≡ false → p ≢ common_lisp
  not_lisp p n home new same =
      let e = present_entry s p n p home in
      let here : entry_at initial p n ≡ entry_at s p n
      = ap (option_and_then (λ (k : Package). finite.get k.symbols n)) (ap (finite.get initial) same ∙ first_sound.first.fixed ∙ sym sound.first.fixed ∙ ap (finite.get s) (sym same)) in
      false≢true (sym new ∙ ap is_some (here ∙ e.1))

  own_step : (p : Name) → IsPackage s p → (n : Name) (t : Table) (more : List ℕ) → IsPresent s p n p → HasPackages t → Way t
      → Before t (own_line p n ++ more) → Reached (λ u. IsPresent u p n p) t more
  unfolding own_line
  own_step p there n t more home all way made = by_kind (is_present initial p n) refl made
    where
      by_kind : (b : Bool) → is_present initial p n ≡ b → Before t ((if b then [] else world_form_line (call_text (codes "INTERN") (n ∷ p ∷ []))) ++ more) → Reached (λ u. IsPresent u p n p) t more
      by_kind true e made = nothing_more functions first whole base as_exported s (λ u. IsPresent u p n p) t more way (still_there t way p n home e) made
      by_kind false e made =
          let here = all p there in
          let name = sound.within.symbol_names p n p home in
          let owns = intern_goes t s way.part sound way.sound p n here (not_lisp p n home e) home in
          let kept = (kept_intern t p n way.sound p owns.0 name.ascii owns.1.goes).kept in
          one_line functions first whole base as_exported s (λ u. IsPresent u p n p) t owns.0 (call_text (codes "INTERN") (n ∷ p ∷ [])) (call (codes "INTERN") (text n ∷ text p ∷ [])) more made
          (call_is_form t way.sound (codes "INTERN") is_intern (n ∷ p ∷ []) (two_ascii n p name.ascii (sound.within.package_names p there).ascii)
          (two_short n p name.short (package_name_short s sound p there)) (omega arith))
          (intern_leaves functions.names (at functions first whole base as_exported s t) way.sound p n p owns.0 here owns.1.goes)
          (record { part = owns.1.still; sound = kept.sound }) kept.grows owns.1.home

  pub own_stage : (p : Name) (t : Table) (more : List ℕ) → IsPackage s p → HasPackages t → Way t → Before t (own_lines s p ++ more) → Reached (λ u. HasOwn u s p) t more
  unfolding own_lines
  own_stage p t more there all way made =
      let done = every_line functions first whole base as_exported s (own_line p) (λ n. IsPresent s p n p) HasPackages (λ n u. IsPresent u p n p) packages_last
      (λ n t u grows here. grows.homes p n p here) (own_step p there) (own_names s p) t more (own_are s p) all way made in
      record {
        there = done.there;
        way = done.way;
        grows = done.grows;
        has = record { there = done.grows.packages p (all p there); names = own_among s p (λ n. IsPresent done.there p n p) done.has };
        made = done.made;
      }
