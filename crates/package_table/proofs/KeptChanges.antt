-- What each call that writes makes of sound packages is sound.
--     kept_after      after a call, whether it is refused or not
--     kept_make, kept_intern, kept_export, kept_import, kept_use      where it is not refused
--     stays_after, stays_but, told_after, found_after      what an answer says
--     exported_again      where a symbol is external already
--     counted_new      the count after a new symbol
use Rattle.std.proofs.Common.{◌≡◌, ◌≢◌, ◌==◌, ◌<◌, ◌≤◌, ◌+◌, ◌&&◌, ◌||◌, not, ℕ, Bool, true, false, cond, List, [], ◌∷◌, length, Option, None, Some, Result, Ok, Err, IfErr, IfOk, is_some, is_none, bytes_eq, nat_le, nat_lt, All, refl, sym, ap, subst, ◌∙◌, arith, leb-false, ltb-false}
use Rattle.std.proofs.lemmas.Bool.{false≢true, not-false, or_parts}
use Rattle.std.specs.Option.{option_map, option_map_or, option_and_then}
use Rattle.std.specs.List.{list_any}
use Rattle.std.specs.declared.cmp.Ordering.{Ordering}
use Rattle.std.specs.Ordering.{eq_by_cmp}
use Rattle.std.specs.FinMap as finite
use Rattle.std.specs.FinMap.Entries.{find}
use Rattle.package_table.specs.declared.error.PackageError.{PackageError}
use Rattle.package_table.specs.declared.error.PackageError.TheVariants.{EmptyName, NoSuchPackage, PackageExists, PackageIsLocked, NameConflict, NotAccessible, Limit}
use Rattle.package_table.specs.Limits.{most_packages, most_symbols, longest_package_name, longest_symbol_name}
use Rattle.package_table.specs.declared.standardized.TheConstants.{CL, CL_USER}
use Rattle.package_table.specs.Table.{Name, name_cmp, Present, Package, Table, entry_at, full_name, is_locked, package_named, common_lisp, common_lisp_user, keyword, IsPackage, IsPresent, IsExternal, Uses, Finds, AreSoundPackages, IsPackageName, symbol_count, with_entry, with_used, with_new_package}
use Rattle.package_table.specs.Lookup.{home_by_name, is_external, is_used}
use Rattle.package_table.specs.Changes.{after_make, after_intern, after_export, after_import, after_use, intern_changes, export_changes, import_changes, use_changes, with_external, finds_this, finds_other, user_finds_other, finds_other_than_shown, AnswersPackages}
use Rattle.package_table.proofs.Names.{tied_same, same_some, none_some}
use Rattle.package_table.proofs.Frames.{equal_names, unequal_names}
use Rattle.package_table.specs.Growth.{Grows, IsSameBut, TellsOfChange}
use Rattle.package_table.proofs.Found.{found_finds, found_is, found_none, present_found, external_entry}
use Rattle.package_table.proofs.Growing.{Kept, grows_same, grows_with_entry, grows_with_used, grows_with_new, differs_entry, differs_external, differs_used, differs_new, entry_again}
use Rattle.package_table.proofs.Alone.{Interned, interned_found, interned_new}
use Rattle.package_table.proofs.Counting.{symbols_new, symbols_with_used, symbols_with_new}
use Rattle.package_table.proofs.KeptSound.{used_is_package, no_entry, count_imported, count_exported, sound_interned, sound_imported, sound_exported, sound_used, sound_made}

ne_zero : (k : ℕ) → (k == 0) ≡ false → 0 < k
ne_zero k test = grind (arith, test)

-- a test that was not met, and what follows it
passes : {A : Type 0} (b : Bool) (e : PackageError) (rest : Result A PackageError) (x : A) → cond b (Err e) rest ≡ Ok x → (b ≡ false) × (rest ≡ Ok x)
passes true e rest x is = absurd (let other : Err e ≡ Ok x = is in cc)
passes false e rest x is = (refl, is)

open_to_change : (p : Name) → is_locked p ≡ false → (p ≢ common_lisp) × (p ≢ keyword)
open_to_change p e =
    elim (bytes_eq p common_lisp) as (λ b. bytes_eq p common_lisp ≡ b → cond b true (bytes_eq p keyword) ≡ false → (p ≢ common_lisp) × (p ≢ keyword)) [
      | true ↦ λ _ locked. absurd (false≢true (sym locked))
      | false ↦ λ other last. (unequal_names p common_lisp other, unequal_names p keyword last)
    ] refl e

-- what an answer says of a change, where it is what the definition says
pub told_after : {A B : Type 0} (t u : Table) (view : A → B) (flag : A → Bool) (changes : Bool) (r : Result A PackageError) (said : Result B PackageError)
    → AnswersPackages view r said → IfOk r (λ x. flag x ≡ changes) → ((x : A) → said ≡ Ok (view x) → TellsOfChange changes t u) → IfOk r (λ x. TellsOfChange (flag x) t u)
told_after t u view flag changes (Ok x) said gives is told = subst (λ (b : Bool). TellsOfChange b t u) (sym is) (told x gives)
told_after t u view flag changes (Err e) said gives is told = is

pub kept_after : {A B : Type 0} (P : Table → Type 0) (t u : Table) (view : A → B) (r : Result A PackageError) (said : Result B PackageError) → AnswersPackages view r said → IfErr r (λ _. u ≡ t) → ((x : A) → said ≡ Ok (view x) → P u) → P t → P u
kept_after P t u view (Ok x) said gives unchanged kept before = kept x gives
kept_after P t u view (Err e) said gives unchanged kept before = subst P (sym unchanged) before

-- what p finds by the name n, if anything, is the symbol of home h
only_this : (t : Table) (p h n : Name) → AreSoundPackages t → finds_other t p h n ≡ false → (g : Name) → Finds t p n g → g ≡ h
only_this t p h n sound alike g finds =
    let is : home_by_name t p n ≡ Some g = found_is t n sound.joined p g finds in
    let same : not (bytes_eq g h) ≡ false = sym (ap (λ o. option_map_or (λ g. not (bytes_eq g h)) o false) is) ∙ alike in
    equal_names g h (not-false (bytes_eq g h) same)

-- the symbol of home h is found
this_found : (t : Table) (p h n : Name) → finds_this t p h n ≡ true → Finds t p n h
this_found t p h n this =
    elim (home_by_name t p n) as (λ o. home_by_name t p n ≡ o → option_map_or (λ g. bytes_eq g h) o false ≡ true → Finds t p n h) [
      | None ↦ λ _ no. absurd (false≢true no)
      | Some g ↦ λ is same. found_finds t n p h (is ∙ ap Some (equal_names g h same))
    ] refl this

-- no entry has a property that none of the list has
none_of : {K X : Type 0} (R : K → K → Ordering) (test : K × X → Bool) (q : K) (x : X) (es : List (K × X)) → ((k : K) → eq_by_cmp R q k ≡ true → q ≡ k) → list_any test es ≡ false → find R q es ≡ Some x → test (q, x) ≡ false
none_of R test q x [] exact none there = absurd (none_some x there)
none_of R test q x (e ∷ es) exact none there =
    elim (eq_by_cmp R q e.0) as (λ b. eq_by_cmp R q e.0 ≡ b → cond b (Some e.1) (find R q es) ≡ Some x → test (q, x) ≡ false) [
      | true ↦ λ same here. (λ i. test (exact e.0 same i, sym (same_some e.1 x here) i)) ∙ (or_parts (test e) (list_any test es) none).0
      | false ↦ λ _ later. none_of R test q x es exact (or_parts (test e) (list_any test es) none).1 later
    ] refl there

pub none_in : {X : Type 0} (test : Name × X → Bool) (m : finite.FinMap name_cmp X) (q : Name) (x : X) → list_any test (finite.entries m) ≡ false → finite.get m q ≡ Some x → test (q, x) ≡ false
none_in test m q x none there = none_of name_cmp test q x (finite.entries m) (tied_same q) none (sym (finite.get-entries m q) ∙ there)

second_false : (a b : Bool) → (a && b) ≡ false → a ≡ true → b ≡ false
second_false true b e _ = e
second_false false b e is = absurd (false≢true is)

pub users_agree : (t : Table) (p h n : Name) → AreSoundPackages t → user_finds_other t p h n ≡ false → (q g : Name) → Uses t q p → Finds t q n g → g ≡ h
users_agree t p h n sound none q g used finds =
    elim (finite.get t q) as (λ o. finite.get t q ≡ o → option_map (λ (k : Package). finite.contains_key k.uses p) o ≡ Some true → g ≡ h) [
      | None ↦ λ _ no. absurd (none_some true no)
      | Some k ↦ λ there uses.
          only_this t q h n sound
          (second_false (finite.contains_key k.uses p) (finds_other t q h n) (none_in (λ (r : Name × Package). finite.contains_key r.1.uses p && finds_other t r.0 h n) t q k none there) (same_some (finite.contains_key k.uses p) true uses))
          g finds
    ] refl used

pub shown_agree : (t : Table) (p q : Name) → AreSoundPackages t → finds_other_than_shown t p q ≡ false → (n g h : Name) → Finds t p n g → IsExternal t q n → IsPresent t q n h → g ≡ h
shown_agree t p q sound none n g h finds shown there =
    elim (finite.get t q) as (λ o. list_any (λ (s : Name × Present). s.1.external && finds_other t p s.1.home s.0) (option_map_or (λ (k : Package). finite.entries k.symbols) o []) ≡ false
    → option_map (λ (e : Present). e.external) (option_and_then (λ (k : Package). finite.get k.symbols n) o) ≡ Some true → option_map (λ (e : Present). e.home) (option_and_then (λ (k : Package). finite.get k.symbols n) o) ≡ Some h → g ≡ h) [
      | None ↦ λ _ no _. absurd (none_some true no)
      | Some k ↦ λ none shown there.
          elim (finite.get k.symbols n) as (λ o. finite.get k.symbols n ≡ o → option_map (λ (e : Present). e.external) o ≡ Some true → option_map (λ (e : Present). e.home) o ≡ Some h → g ≡ h) [
            | None ↦ λ _ no _. absurd (none_some true no)
            | Some e ↦ λ here external home.
                only_this t p e.home n sound
                (second_false e.external (finds_other t p e.home n) (none_in (λ (s : Name × Present). s.1.external && finds_other t p s.1.home s.0) k.symbols n e none here) (same_some e.external true external))
                g finds
                ∙ same_some e.home h home
          ] refl shown there
    ] none shown there

-- a name by which no package is named is no nickname
fresh_name : (t : Table) (n : Name) → AreSoundPackages t → is_some (package_named t n) ≡ false → (full_name n ≡ n) × (finite.get t n ≡ None)
fresh_name t n sound fresh =
    elim (bytes_eq n CL.now) as (λ b. is_some (cond (finite.contains_key t (cond b common_lisp (cond (bytes_eq n CL_USER.now) common_lisp_user n))) (Some (cond b common_lisp (cond (bytes_eq n CL_USER.now) common_lisp_user n))) None) ≡ false → (cond b common_lisp (cond (bytes_eq n CL_USER.now) common_lisp_user n) ≡ n) × (finite.get t n ≡ None)) [
      | true ↦ λ no. absurd (false≢true (sym (not_there t common_lisp no) ∙ ap is_some sound.first.fixed))
      | false ↦
          elim (bytes_eq n CL_USER.now) as (λ b. is_some (cond (finite.contains_key t (cond b common_lisp_user n)) (Some (cond b common_lisp_user n)) None) ≡ false → (cond b common_lisp_user n ≡ n) × (finite.get t n ≡ None)) [
            | true ↦ λ no. absurd (false≢true (sym (not_there t common_lisp_user no) ∙ used_is_package t common_lisp_user common_lisp sound.first.user))
            | false ↦ λ no. (refl, nothing (finite.get t n) (not_there t n no))
          ]
    ] fresh
  where
    not_there : (t : Table) (q : Name) → is_some (cond (finite.contains_key t q) (Some q) None) ≡ false → finite.contains_key t q ≡ false
    not_there t q = elim (finite.contains_key t q) as (λ b. is_some (cond b (Some q) None) ≡ false → b ≡ false) [ true ↦ λ no. absurd (false≢true (sym no)) | false ↦ λ _. refl ]

    nothing : (o : Option Package) → is_some o ≡ false → o ≡ None
    nothing None e = refl
    nothing (Some k) e = absurd (false≢true (sym e))

same_ok : {A : Type 0} (x y : A) → ◌≡◌ {A = Result A PackageError} (Ok x) (Ok y) → x ≡ y
same_ok x y e = cc

pub kept_make : (t : Table) (n : Name) (u : Table) → AreSoundPackages t → All (λ b. b < 128) n → after_make t n ≡ Ok u → Kept t u true × (symbol_count u ≡ symbol_count t)
kept_make t n u sound ascii is =
    let some = passes (length n == 0) EmptyName _ u is in
    let fresh = passes (is_some (package_named t n)) PackageExists _ u some.1 in
    let within = passes (nat_le most_packages (finite.len t) || nat_lt longest_package_name (length n)) Limit _ u fresh.1 in
    let made : with_new_package t n ≡ u = same_ok (with_new_package t n) u within.1 in
    let name = fresh_name t n sound fresh.0 in
    let limits = or_parts (nat_le most_packages (finite.len t)) (nat_lt longest_package_name (length n)) within.0 in
    let few : finite.len t < most_packages = leb-false most_packages (finite.len t) limits.0 in
    let short : length n ≤ longest_package_name = ltb-false longest_package_name (length n) limits.1 in
    let good : IsPackageName n = record { some = ne_zero (length n) some.0; short = short; full = name.0; ascii = ascii } in
    subst (λ (u : Table). Kept t u true × (symbol_count u ≡ symbol_count t)) made
    (record { sound = sound_made t n sound name.1 good few; grows = grows_with_new t n name.1; told = differs_new t n name.1 }, symbols_with_new t n name.1)

pub counted_new : (t : Table) (p n : Name) → finite.contains_key t p ≡ true → home_by_name t p n ≡ None → symbol_count (with_entry t p n (record { home = p; external = bytes_eq p keyword })) ≡ symbol_count t + 1
counted_new t p n there none = symbols_new t p n (record { home = p; external = bytes_eq p keyword }) there (no_entry t p n (found_none t n p none)) refl

-- a symbol that is external already
again_external : (t : Table) (p h n : Name) → finds_this t p h n ≡ true → is_external t p n ≡ true → with_external t p h n ≡ t
again_external t p h n this shown =
    let here = external_entry t p n shown in
    let is : home_by_name t p n ≡ Some here.0 = present_found t n p here.0 (ap (option_map (λ (e : Present). e.home)) here.1) in
    let same : here.0 ≡ h = equal_names here.0 h (sym (ap (λ (o : Option Name). option_map_or (λ g. bytes_eq g h) o false) is) ∙ this) in
    entry_again t p n (record { home = h; external = true }) (here.1 ∙ (λ i. Some (record { home = same i; external = true })))

told_export : (t : Table) (p h n : Name) → IsPackage t p → finds_this t p h n ≡ true → TellsOfChange (export_changes t p n) t (with_external t p h n)
told_export t p h n there this =
    elim (is_external t p n) as (λ b. is_external t p n ≡ b → TellsOfChange (not b) t (with_external t p h n)) [
      | true ↦ λ shown. again_external t p h n this shown
      | false ↦ λ hidden. differs_external t p n (record { home = h; external = true }) there refl hidden
    ] refl

-- what EXPORT makes of a symbol that is external already
pub exported_again : (t : Table) (p h n : Name) → is_external t p n ≡ true → after_export t p h n ≡ Ok (with_external t p h n) → after_export t p h n ≡ Ok t
exported_again t p h n shown is =
    let there = passes (not (finite.contains_key t p)) NoSuchPackage _ (with_external t p h n) is in
    let open_to = passes (is_locked p) PackageIsLocked _ (with_external t p h n) there.1 in
    let this = passes (not (finds_this t p h n)) NotAccessible _ (with_external t p h n) open_to.1 in
    is ∙ ap Ok (again_external t p h n (not-false _ this.0) shown)

module _ (t : Table) (p n : Name) (sound : AreSoundPackages t) where
  pub kept_intern : (h : Name) (u : Table) → All (λ b. b < 128) n → after_intern t p n ≡ Ok (h, u) → Interned t u p n h (intern_changes t p n)
  kept_intern h u ascii is =
      let there = passes (not (finite.contains_key t p)) NoSuchPackage _ (h, u) is in
      elim (home_by_name t p n) as (λ o. home_by_name t p n ≡ o → option_map_or {U = Result (Name × Table) PackageError} (λ g. Ok (g, t)) o (cond (bytes_eq p common_lisp) (Err PackageIsLocked) (cond (nat_lt longest_symbol_name (length n) || nat_le most_symbols (symbol_count t)) (Err Limit) (Ok (p, with_entry t p n (record { home = p; external = bytes_eq p keyword }))))) ≡ Ok (h, u) → Interned t u p n h (is_none o)) [
        | Some g ↦ λ here same.
            let answer = same_ok (g, t) (h, u) same in
            subst (λ (x : Name × Table). Interned t x.1 p n x.0 false) answer (interned_found t p n g sound here)
        | None ↦ λ none new.
            let open_to = passes (bytes_eq p common_lisp) PackageIsLocked _ (h, u) new in
            let within = passes (nat_lt longest_symbol_name (length n) || nat_le most_symbols (symbol_count t)) Limit _ (h, u) open_to.1 in
            let limits = or_parts (nat_lt longest_symbol_name (length n)) (nat_le most_symbols (symbol_count t)) within.0 in
            let made = same_ok (p, with_entry t p n (record { home = p; external = bytes_eq p keyword })) (h, u) within.1 in
            let is_package : IsPackage t p = not-false _ there.0 in
            subst (λ (x : Name × Table). Interned t x.1 p n x.0 true) made
            (interned_new t p n sound is_package (found_none t n p none)
            (sound_interned t p n sound is_package (unequal_names p common_lisp open_to.0) (found_none t n p none)
            (record { short = ltb-false longest_symbol_name (length n) limits.0; ascii = ascii }) (leb-false most_symbols (symbol_count t) limits.1)))
      ] refl there.1

  module _ (h : Name) (u : Table) where
    pub kept_export : after_export t p h n ≡ Ok u → Kept t u (export_changes t p n) × (symbol_count u ≡ symbol_count t)
    kept_export is =
        let there = passes (not (finite.contains_key t p)) NoSuchPackage _ u is in
        let open_to = passes (is_locked p) PackageIsLocked _ u there.1 in
        let this = passes (not (finds_this t p h n)) NotAccessible _ u open_to.1 in
        let users = passes (user_finds_other t p h n) NameConflict _ u this.1 in
        let apart = open_to_change p open_to.0 in
        let is_package : IsPackage t p = not-false _ there.0 in
        let finds : Finds t p n h = this_found t p h n (not-false _ this.0) in
        let agree = users_agree t p h n sound users.0 in
        let only : (g : Name) → Finds t p n g → g ≡ h = λ g found. sound.joined.one p n g h found finds in
        let e : Present = record { home = h; external = true } in
        subst (λ (u : Table). Kept t u (export_changes t p n) × (symbol_count u ≡ symbol_count t)) (same_ok (with_entry t p n e) u users.1) (
          record {
            sound = sound_exported t p n sound is_package apart.0 h apart.1 finds agree;
            grows = grows_with_entry t p n e is_package only (λ _. refl);
            told = told_export t p h n is_package (not-false _ this.0);
          },
          count_exported t p n sound is_package apart.0 h apart.1 finds agree,
        )

    pub kept_import : IsPresent t h n h → after_import t p h n ≡ Ok u → Kept t u (import_changes t p n) × (symbol_count u ≡ symbol_count t)
    kept_import at_home is =
        let there = passes (not (finite.contains_key t p)) NoSuchPackage _ u is in
        let open_to = passes (is_locked p) PackageIsLocked _ u there.1 in
        let alike = passes (finds_other t p h n) NameConflict _ u open_to.1 in
        let apart = open_to_change p open_to.0 in
        let is_package : IsPackage t p = not-false _ there.0 in
        let only = only_this t p h n sound alike.0 in
        let e : Present = record { home = h; external = false } in
        elim (entry_at t p n) as (λ o. entry_at t p n ≡ o → ◌≡◌ {A = Result Table PackageError} (Ok (cond (is_some o) t (with_entry t p n e))) (Ok u) → Kept t u (not (is_some o)) × (symbol_count u ≡ symbol_count t)) [
          | Some x ↦ λ _ same.
              subst (λ (u : Table). Kept t u false × (symbol_count u ≡ symbol_count t)) (same_ok t u same) (record { sound = sound; grows = grows_same t; told = refl }, refl)
          | None ↦ λ none made.
              subst (λ (u : Table). Kept t u true × (symbol_count u ≡ symbol_count t)) (same_ok (with_entry t p n e) u made) (
                record {
                  sound = sound_imported t p n sound is_package apart.0 h apart.1 at_home only none;
                  grows = grows_with_entry t p n e is_package only (λ shown. absurd (none_some true (sym (ap (option_map (λ (e : Present). e.external)) none) ∙ shown)));
                  told = differs_entry t p n e is_package (ap is_some none);
                },
                count_imported t p n sound is_package apart.0 h apart.1 at_home none,
              )
        ] refl alike.1

pub kept_use : (t : Table) (p q : Name) (sound : AreSoundPackages t) (u : Table) → after_use t p q ≡ Ok u → Kept t u (use_changes t p q) × (symbol_count u ≡ symbol_count t)
kept_use t p q sound u is =
    let there = passes (not (finite.contains_key t p) || not (finite.contains_key t q)) NoSuchPackage _ u is in
    let open_to = passes (is_locked p || bytes_eq q keyword) PackageIsLocked _ u there.1 in
    let packages = or_parts (not (finite.contains_key t p)) (not (finite.contains_key t q)) there.0 in
    let locks = or_parts (is_locked p) (bytes_eq q keyword) open_to.0 in
    let apart = open_to_change p locks.0 in
    elim (bytes_eq p q || is_used t p q) as (λ b. (bytes_eq p q || is_used t p q) ≡ b → cond b (Ok t) (cond (finds_other_than_shown t p q) (Err NameConflict) (Ok (with_used t p q))) ≡ Ok u → Kept t u (not b) × (symbol_count u ≡ symbol_count t)) [
      | true ↦ λ _ same. subst (λ (u : Table). Kept t u false × (symbol_count u ≡ symbol_count t)) (same_ok t u same) (record { sound = sound; grows = grows_same t; told = refl }, refl)
      | false ↦ λ other rest.
          let agree = passes (finds_other_than_shown t p q) NameConflict _ u rest in
          let apart_from = or_parts (bytes_eq p q) (is_used t p q) other in
          let differ : p ≢ q = unequal_names p q apart_from.0 in
          let is_package : IsPackage t p = not-false _ packages.0 in
          subst (λ (u : Table). Kept t u true × (symbol_count u ≡ symbol_count t)) (same_ok (with_used t p q) u agree.1) (
            record {
              sound = sound_used t p q sound is_package apart.0 apart.1 (not-false _ packages.1) (unequal_names q keyword locks.1) (λ (e : q ≡ p). differ (sym e)) (shown_agree t p q sound agree.0);
              grows = grows_with_used t p q is_package;
              told = differs_used t p q is_package apart_from.1;
            },
            symbols_with_used t p q is_package,
          )
    ] refl open_to.1

-- What each call leaves, whether it is refused or not: sound packages with as many symbols, in which nothing is lost.
pub record Stays (t u : Table) : Type 0 where
  pub sound : AreSoundPackages u
  pub grows : Grows t u
  pub count : symbol_count u ≡ symbol_count t

stays_same : (t : Table) → AreSoundPackages t → Stays t t
stays_same t sound = record { sound = sound; grows = grows_same t; count = refl }

pub stays_after : {A : Type 0} (t u : Table) (changes : Bool) (r : Result A PackageError) (said : Result Table PackageError) → AreSoundPackages t → AnswersPackages (λ _. u) r said → IfErr r (λ _. u ≡ t)
    → (said ≡ Ok u → Kept t u changes × (symbol_count u ≡ symbol_count t)) → Stays t u
stays_after t u changes r said sound gives unchanged kept =
    kept_after (Stays t) t u (λ _. u) r said gives unchanged
    (λ _ is. let k = kept is in record { sound = k.0.sound; grows = k.0.grows; count = k.1 }) (stays_same t sound)

-- the same of `intern`
pub record StaysBut (t u : Table) (p n : Name) : Type 0 where
  pub sound : AreSoundPackages u
  pub grows : Grows t u
  pub others : IsSameBut t u p n

pub stays_but : {A : Type 0} (t u : Table) (p n : Name) (home : A → Name) (r : Result A PackageError) → AreSoundPackages t → All (λ b. b < 128) n
    → AnswersPackages (λ x. (home x, u)) r (after_intern t p n) → IfErr r (λ _. u ≡ t) → StaysBut t u p n
stays_but t u p n home r sound ascii gives unchanged =
    kept_after (λ (u : Table). StaysBut t u p n) t u (λ x. (home x, u)) r (after_intern t p n) gives unchanged
    (λ x is. let k = kept_intern t p n sound (home x) u ascii is in record { sound = k.kept.sound; grows = k.kept.grows; others = k.others })
    (record { sound = sound; grows = grows_same t; others = record { packages = λ _. refl; finds = λ _ _ _. refl; externals = λ _ _ _. refl } })

pub found_after : {A : Type 0} (t u : Table) (p n : Name) (home : A → Name) (r : Result A PackageError) → AreSoundPackages t → All (λ b. b < 128) n
    → AnswersPackages (λ x. (home x, u)) r (after_intern t p n) → IfOk r (λ x. home_by_name u p n ≡ Some (home x))
found_after t u p n home (Ok x) sound ascii gives = (kept_intern t p n sound (home x) u ascii gives).finds
found_after t u p n home (Err e) sound ascii gives = tt
