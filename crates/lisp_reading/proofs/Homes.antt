-- The names of packages are ASCII, and so are the homes that are found.
use Rattle.std.proofs.Common.{◌≡◌, Bool, true, false, cond, IsTrue, Option, Some, None, Result, Ok, Err, IfOk, refl, sym, ap, subst, ◌∙◌}
use Rattle.std.specs.Prelude.{MatchResult, is_some, bytes_eq, option_map, option_and_then, if◌then◌else◌}
use Rattle.std.specs.Option.{option_map_or}
use Rattle.std.specs.List.{list_all}
use Rattle.std.specs.Borrow.{Bor}
use Rattle.std.specs.FinMap as finite
use Rattle.lisp_object.specs.Ascii.{is_ascii}
use Rattle.lisp_object.proofs.Sound.{all_ascii}
use Rattle.package_table.specs.declared.error.PackageError.{PackageError}
use Rattle.package_table.specs.declared.error.PackageError.TheVariants.{LockedPackage, NoPackage, NotExternal}
use Rattle.package_table.specs.declared.resolve.Resolved.{Resolved}
use Rattle.package_table.specs.Table.{Name, Present, Package, Table, common_lisp, full_name, package_named, entry_at, IsPackage, IsPresent, AreSoundPackages}
use Rattle.package_table.specs.Lookup.{home_by_name, external_home}
use Rattle.package_table.specs.Resolving.{Resolution, found_at, new_in, home_of, resolution_of, resolution, external_resolution, internal_resolution}
use Rattle.package_table.proofs.Found.{found_finds}
use Rattle.package_table.proofs.Keeping.{present_at_home}
use Rattle.package_table.proofs.Frames.{equal_names, equal_itself}
use Rattle.lisp_reading.specs.Naming.{view_resolved, view_home}

abbrev Fits : Resolution → Type 0
Fits r = list_all is_ascii (home_of r) ≡ true

-- an external symbol is present
pub external_there : (t : Table) (p n h : Name) → external_home t p n ≡ Some h → IsPresent t p n h
external_there t p n h e =
    elim (entry_at t p n) as (λ o. option_map_or (λ (e : Present). cond e.external (Some e.home) None) o None ≡ Some h → option_map (λ (e : Present). e.home) o ≡ Some h) [
      | None ↦ λ e. absurd cc
      | Some x ↦ elim x.external as (λ b. cond b (Some x.home) None ≡ Some h → Some x.home ≡ Some h) [ true ↦ λ e. e | false ↦ λ e. absurd cc ]
    ] e

module _ (t : Table) (sound : AreSoundPackages t) where
  package_ascii : (p : Name) → IsPackage t p → list_all is_ascii p ≡ true
  package_ascii p there = all_ascii p (sound.within.package_names p there).ascii

  present_package : (h n g : Name) → IsPresent t h n g → IsPackage t h
  present_package h n g here =
      elim (finite.get t h) as (λ o. option_map (λ (e : Present). e.home) (option_and_then (λ (k : Package). finite.get k.symbols n) o) ≡ Some g → IsTrue (is_some o)) [
        | None ↦ λ e. absurd cc
        | Some k ↦ λ e. refl
      ] here

  found_ascii : (p n h : Name) → home_by_name t p n ≡ Some h → list_all is_ascii h ≡ true
  found_ascii p n h e =
      package_ascii h (present_package h n h (present_at_home t p n h sound.joined (found_finds t n p h e)))

  external_ascii : (p n h : Name) → external_home t p n ≡ Some h → list_all is_ascii h ≡ true
  external_ascii p n h e = package_ascii h (present_package h n h (sound.joined.homes p n h (external_there t p n h e)))

  resolved_by : (p n : Name) (r : Resolution) (o : Option Name) → home_by_name t p n ≡ o → IsPackage t p
      → option_map_or (λ h. Ok (found_at h)) o (if bytes_eq p common_lisp then Err LockedPackage else Ok (new_in p)) ≡ Ok r → Fits r
  resolved_by p n r (Some h) is there e = let same : found_at h ≡ r = cc in subst (λ r. Fits r) same (found_ascii p n h is)
  resolved_by p n r None is there e =
      elim (bytes_eq p common_lisp) as (λ b. ◌≡◌ {A = Result Resolution PackageError} (if b then Err LockedPackage else Ok (new_in p)) (Ok r) → Fits r) [
        | true ↦ λ e. absurd cc
        | false ↦ λ e. let same : new_in p ≡ r = cc in subst (λ r. Fits r) same (package_ascii p there)
      ] e

  resolution_ascii : (p n : Name) (r : Resolution) → IsPackage t p → resolution t p n ≡ Ok r → Fits r
  resolution_ascii p n r there e = resolved_by p n r (home_by_name t p n) refl there e

  named_by : (prefix : Name) (p : Name) → package_named t prefix ≡ Some p → IsPackage t p
  named_by prefix p e =
      let by : (b : _) → finite.contains_key t (full_name prefix) ≡ b → (if b then Some (full_name prefix) else None) ≡ Some p → IsPackage t p = λ b. elim b as (λ b. finite.contains_key t (full_name prefix) ≡ b → (if b then Some (full_name prefix) else None) ≡ Some p → IsPackage t p) [
        | true ↦ λ there e. let same : full_name prefix ≡ p = cc in subst (λ p. IsPackage t p) same there
        | false ↦ λ there e. absurd cc
      ] in
      by (finite.contains_key t (full_name prefix)) refl e

  internal_ascii : (prefix n : Name) (r : Resolution) → internal_resolution t prefix n ≡ Ok r → Fits r
  internal_ascii prefix n r e =
      let by : (o : Option Name) → package_named t prefix ≡ o → option_map_or (λ p. resolution t p n) o (Err NoPackage) ≡ Ok r → Fits r = λ o. elim o as (λ o. package_named t prefix ≡ o → option_map_or (λ p. resolution t p n) o (Err NoPackage) ≡ Ok r → Fits r) [
        | None ↦ λ is e. absurd cc
        | Some p ↦ λ is e. resolution_ascii p n r (named_by prefix p is) e
      ] in
      by (package_named t prefix) refl e

  at_home : (p n h : Name) (o : Option Name) → external_home t p n ≡ o → option_map_or (λ h. Ok h) o (Err NotExternal) ≡ Ok h → list_all is_ascii h ≡ true
  at_home p n h None is e = absurd cc
  at_home p n h (Some g) is e = let same : g ≡ h = cc in subst (λ h. list_all is_ascii h ≡ true) same (external_ascii p n g is)

  external_by : (prefix n h : Name) → external_resolution t prefix n ≡ Ok h → list_all is_ascii h ≡ true
  external_by prefix n h e =
      let by : (o : Option Name) → option_map_or (λ p. option_map_or (λ h. Ok h) (external_home t p n) (Err NotExternal)) o (Err NoPackage) ≡ Ok h → list_all is_ascii h ≡ true = λ o. elim o as (λ o. option_map_or (λ p. option_map_or (λ h. Ok h) (external_home t p n) (Err NotExternal)) o (Err NoPackage) ≡ Ok h → list_all is_ascii h ≡ true) [
        | None ↦ λ e. absurd cc
        | Some p ↦ λ e. at_home p n h (external_home t p n) refl e
      ] in
      by (package_named t prefix) e

some_same : (p q : Name) → Some p ≡ Some q → p ≡ q
some_same p q e = cc

abbrev Seen : Result Resolution PackageError → Result Resolved PackageError → Type 0
Seen wanted result = MatchResult result (λ r. wanted ≡ Ok (resolution_of r)) (λ e. wanted ≡ Err e)

pub in_seen : (wanted : Result Resolution PackageError) (result : Result Resolved PackageError) → Seen wanted result → view_resolved result ≡ wanted
in_seen wanted (Ok r) e = sym e
in_seen wanted (Err f) e = sym e

pub in_ascii : (t : Table) (p n : Name) (result : Result Resolved PackageError) → AreSoundPackages t → IsPackage t p → Seen (resolution t p n) result
    → IfOk result (λ r. list_all is_ascii (home_of (resolution_of r)) ≡ true)
in_ascii t p n (Ok r) sound there e = resolution_ascii t sound p n (resolution_of r) there e
in_ascii t p n (Err f) sound there e = tt

pub inside_ascii : (t : Table) (prefix n : Name) (result : Result Resolved PackageError) → AreSoundPackages t → Seen (internal_resolution t prefix n) result
    → IfOk result (λ r. list_all is_ascii (home_of (resolution_of r)) ≡ true)
inside_ascii t prefix n (Ok r) sound e = internal_ascii t sound prefix n (resolution_of r) e
inside_ascii t prefix n (Err f) sound e = tt

pub at_seen : (wanted : Result Name PackageError) (result : Result (Bor Name) PackageError) → MatchResult result (λ h. wanted ≡ Ok h.now) (λ e. wanted ≡ Err e)
    → view_home result ≡ wanted
at_seen wanted (Ok h) e = sym e
at_seen wanted (Err f) e = sym e

pub at_ascii : (t : Table) (prefix n : Name) (result : Result (Bor Name) PackageError) → AreSoundPackages t
    → MatchResult result (λ h. external_resolution t prefix n ≡ Ok h.now) (λ e. external_resolution t prefix n ≡ Err e)
    → IfOk result (λ h. list_all is_ascii h.now ≡ true)
at_ascii t prefix n (Ok h) sound e = external_by t sound prefix n h.now e
at_ascii t prefix n (Err f) sound e = tt

-- ---- names of packages, and nicknames

module _ (t : Table) (name : Name) (sound : AreSoundPackages t) where
  there_named : IsPackage t name → package_named t name ≡ Some name
  there_named there =
      let full : full_name name ≡ name = (sound.within.package_names name there).full in
      ap (λ n. if finite.contains_key t n then Some n else None) full ∙ ap (λ b. if b then Some name else None) there

-- a name that a package is found by is its own, or a nickname
pub named_so : (t : Table) (name p : Name) → AreSoundPackages t → package_named t name ≡ Some p → finite.contains_key t name ≡ bytes_eq p name
named_so t name p sound e =
    let here : IsPackage t p = named_by t sound name p e in
    let by : (b : Bool) → finite.contains_key t name ≡ b → b ≡ bytes_eq p name = λ b. elim b as (λ b. finite.contains_key t name ≡ b → b ≡ bytes_eq p name) [
      | true ↦ λ there. let same : p ≡ name = some_same p name (sym e ∙ there_named t name sound there) in sym (ap (λ q. bytes_eq q name) same ∙ equal_itself name)
      | false ↦ λ not. elim (bytes_eq p name) as (λ c. bytes_eq p name ≡ c → false ≡ c) [
        | true ↦ λ same. let same_name : p ≡ name = equal_names p name same in sym not ∙ ap (λ n. finite.contains_key t n) (sym same_name) ∙ here
        | false ↦ λ differ. refl
      ] refl
    ] in
    by (finite.contains_key t name) refl

pub none_named : (t : Table) (name : Name) → AreSoundPackages t → package_named t name ≡ None → finite.contains_key t name ≡ false
none_named t name sound e =
    let by : (b : Bool) → finite.contains_key t name ≡ b → b ≡ false = λ b. elim b as (λ b. finite.contains_key t name ≡ b → b ≡ false) [
      | true ↦ λ there. let no : Some name ≡ None = sym (there_named t name sound there) ∙ e in absurd cc
      | false ↦ λ not. refl
    ] in
    by (finite.contains_key t name) refl
