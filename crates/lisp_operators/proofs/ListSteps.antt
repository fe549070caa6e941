-- EXPORT, IMPORT and USE-PACKAGE of arguments of their kinds.
--     export_is, import_is, use_is      they are changes, one after the other
--     export_not_found      what is refused before any change
--     told      what a call tells of the changes
use Rattle.std.proofs.Common.{◌≡◌, Bool, true, false, ◌||◌, cond, not, List, ◌∷◌, Result, Ok, Err, Option, Some, bytes_eq, sym, ap, subst, ◌∙◌}
use Rattle.std.specs.List.{list_all, list_any}
use Rattle.std.specs.Option.{option_map_or}
use Rattle.lisp_object.specs.Object.{Object}
use Rattle.lisp_object.specs.Datum.{object_of}
use Rattle.lisp_object.specs.declared.refusal.TheConstants.{NO_SUCH_PACKAGE, PACKAGE_IS_LOCKED, NOT_ACCESSIBLE}
use Rattle.package_table.specs.declared.error.PackageError.{PackageError}
use Rattle.package_table.specs.declared.error.PackageError.TheVariants.{NoPackage, NotExternal, LockedPackage, EmptyName, NoSuchPackage, PackageExists, PackageIsLocked, NameConflict, NotAccessible, Limit, OutOfMemory as NoRoom}
use Rattle.package_table.specs.ErrorNumbers.{package_error_number}
use Rattle.package_table.specs.Table.{Name, Table, keyword, is_locked, package_named}
use Rattle.package_table.specs.Changes.{finds_this}
use Rattle.plist_state.specs.Properties.{Symbol}
use Rattle.plist_state.specs.State.{WorldState}
use Rattle.plist_state.specs.Changes.{with_packages}
use Rattle.lisp_operators.specs.declared.error.EvaluationError.{EvaluationError}
use Rattle.lisp_operators.specs.declared.error.EvaluationError.TheVariants.{Refused, OutOfMemory as NoMemory}
use Rattle.lisp_operators.specs.declared.evaluated.Evaluated.{Evaluated}
use Rattle.lisp_operators.specs.ArgumentKinds.{a_symbol, a_name, one_or_each, given_or}
use Rattle.lisp_operators.specs.Evaluation.{Evaluation, of_kind}
use Rattle.lisp_operators.specs.Properties.{t}
use Rattle.lisp_operators.specs.Packages.{export, import, use_package, use_all, in_package, unlocked, changed, after_exports, after_imports, after_uses, packages_named}
use Rattle.lisp_operators.specs.EvaluationAnswers.{Answers, MakesPackages, TellsPackageChange, done}

-- the first argument is of its kind, and the package is there
opened : {A : Type 0} (on : A → Name → Evaluation Object) (s : WorldState) (rest : List Object) (o : Option A) (ys : A) (q p : Name) → o ≡ Some ys → given_or a_name s.current_package rest ≡ Some q → package_named s.packages q ≡ Some p
    → of_kind o (λ xs. of_kind (given_or a_name s.current_package rest) (λ k. in_package s k (λ m. on xs m))) ≡ on ys p
opened on s rest o ys q p kind given named =
    ap (λ r. of_kind r (λ xs. of_kind (given_or a_name s.current_package rest) (λ k. in_package s k (λ m. on xs m)))) kind
    ∙ ap (λ r. of_kind r (λ k. in_package s k (λ m. on ys m))) given
    ∙ ap (λ r. option_map_or (λ m. on ys m) r (Err NO_SUCH_PACKAGE)) named

export_open : (s : WorldState) (x : Object) (rest : List Object) (ys : List Symbol) (q p : Name) → one_or_each a_symbol x ≡ Some ys → given_or a_name s.current_package rest ≡ Some q → package_named s.packages q ≡ Some p → is_locked p ≡ false
    → export (x ∷ rest) s ≡ cond (not (list_all (λ y. finds_this s.packages p y.0 y.1) ys)) (Err NOT_ACCESSIBLE) (changed s (after_exports s.packages p ys))
export_open s x rest ys q p kind given named free =
    opened (λ xs m. unlocked m (cond (not (list_all (λ y. finds_this s.packages m y.0 y.1) xs)) (Err NOT_ACCESSIBLE) (changed s (after_exports s.packages m xs)))) s rest (one_or_each a_symbol x) ys q p kind given named
    ∙ ap (λ b. cond b (Err PACKAGE_IS_LOCKED) (cond (not (list_all (λ y. finds_this s.packages p y.0 y.1) ys)) (Err NOT_ACCESSIBLE) (changed s (after_exports s.packages p ys)))) free

pub export_is : (s : WorldState) (x : Object) (rest : List Object) (ys : List Symbol) (q p : Name) → one_or_each a_symbol x ≡ Some ys → given_or a_name s.current_package rest ≡ Some q → package_named s.packages q ≡ Some p → is_locked p ≡ false
    → list_all (λ y. finds_this s.packages p y.0 y.1) ys ≡ true → export (x ∷ rest) s ≡ changed s (after_exports s.packages p ys)
export_is s x rest ys q p kind given named free found =
    export_open s x rest ys q p kind given named free ∙ ap (λ b. cond (not b) (Err NOT_ACCESSIBLE) (changed s (after_exports s.packages p ys))) found

pub export_not_found : (s : WorldState) (x : Object) (rest : List Object) (ys : List Symbol) (q p : Name) → one_or_each a_symbol x ≡ Some ys → given_or a_name s.current_package rest ≡ Some q → package_named s.packages q ≡ Some p → is_locked p ≡ false
    → list_all (λ y. finds_this s.packages p y.0 y.1) ys ≡ false → export (x ∷ rest) s ≡ Err NOT_ACCESSIBLE
export_not_found s x rest ys q p kind given named free lost =
    export_open s x rest ys q p kind given named free ∙ ap (λ b. cond (not b) (Err NOT_ACCESSIBLE) (changed s (after_exports s.packages p ys))) lost

pub import_is : (s : WorldState) (x : Object) (rest : List Object) (ys : List Symbol) (q p : Name) → one_or_each a_symbol x ≡ Some ys → given_or a_name s.current_package rest ≡ Some q → package_named s.packages q ≡ Some p → is_locked p ≡ false
    → import (x ∷ rest) s ≡ changed s (after_imports s.packages p ys)
import_is s x rest ys q p kind given named free =
    opened (λ xs m. unlocked m (changed s (after_imports s.packages m xs))) s rest (one_or_each a_symbol x) ys q p kind given named ∙ ap (λ b. cond b (Err PACKAGE_IS_LOCKED) (changed s (after_imports s.packages p ys))) free

use_open : (s : WorldState) (x : Object) (rest : List Object) (ns qs : List Name) (q p : Name) → one_or_each a_name x ≡ Some ns → given_or a_name s.current_package rest ≡ Some q → packages_named s.packages ns ≡ Some qs → package_named s.packages q ≡ Some p
    → is_locked p ≡ false → use_package (x ∷ rest) s ≡ cond (list_any (bytes_eq keyword) qs) (Err PACKAGE_IS_LOCKED) (changed s (after_uses s.packages p qs))
use_open s x rest ns qs q p kind given each named free =
    ap (λ r. of_kind r (λ l. of_kind (given_or a_name s.current_package rest) (λ k. option_map_or (λ m. in_package s k (λ o. use_all s o m)) (packages_named s.packages l) (Err NO_SUCH_PACKAGE)))) kind
    ∙ ap (λ r. of_kind r (λ k. option_map_or (λ m. in_package s k (λ o. use_all s o m)) (packages_named s.packages ns) (Err NO_SUCH_PACKAGE))) given
    ∙ ap (λ r. option_map_or (λ m. in_package s q (λ o. use_all s o m)) r (Err NO_SUCH_PACKAGE)) each
    ∙ ap (λ r. option_map_or (λ o. use_all s o qs) r (Err NO_SUCH_PACKAGE)) named
    ∙ ap (λ b. cond (b || list_any (bytes_eq keyword) qs) (Err PACKAGE_IS_LOCKED) (changed s (after_uses s.packages p qs))) free

pub use_is : (s : WorldState) (x : Object) (rest : List Object) (ns qs : List Name) (q p : Name) → one_or_each a_name x ≡ Some ns → given_or a_name s.current_package rest ≡ Some q → packages_named s.packages ns ≡ Some qs → package_named s.packages q ≡ Some p
    → is_locked p ≡ false → list_any (bytes_eq keyword) qs ≡ false → use_package (x ∷ rest) s ≡ changed s (after_uses s.packages p qs)
use_is s x rest ns qs q p kind given each named free others =
    use_open s x rest ns qs q p kind given each named free ∙ ap (λ b. cond b (Err PACKAGE_IS_LOCKED) (changed s (after_uses s.packages p qs))) others

-- ---- what such a call tells
tells_value : (s u : WorldState) (v : Table) (wrote : Bool) (e : Evaluated) → object_of e.value ≡ t → e.wrote ≡ wrote → u ≡ with_packages s v → changed s (Ok (v, wrote)) ≡ Ok (done e u)
tells_value s u v wrote e value is left =
    ap (λ k. Ok (record { value = k; state = with_packages s v; wrote = wrote })) (sym value) ∙ ap (λ k. Ok (record { value = object_of e.value; state = k; wrote = wrote })) (sym left)
    ∙ ap (λ b. Ok (record { value = object_of e.value; state = u; wrote = b })) (sym is)

module _ (o : Evaluation Object) (s u : WorldState) (said : Result (Table × Bool) PackageError) (whole : o ≡ changed s said) (left : u ≡ with_packages s u.packages) where
  refused_by : (e : PackageError) (error : EvaluationError) → said ≡ Err e → error ≡ Refused (package_error_number e) → Answers done (Err error) u o
  refused_by e error h is = subst (λ (k : EvaluationError). Answers done (Err k) u o) (sym is) (whole ∙ ap (changed s) h)

  ran_out : (error : EvaluationError) → error ≡ NoMemory → Answers done (Err error) u o
  ran_out error is = subst (λ (k : EvaluationError). Answers done (Err k) u o) (sym is) tt

  pub told : (made : Result Bool PackageError) (r : Result Evaluated EvaluationError) → MakesPackages made u.packages said → TellsPackageChange made r → Answers done r u o
  told (Ok wrote) (Ok e) h tells = whole ∙ ap (changed s) h ∙ tells_value s u u.packages wrote e tells.0 tells.1 left
  told (Ok wrote) (Err error) h tells = ran_out error tells
  told (Err NoRoom) (Err error) h tells = ran_out error tells
  told (Err NoPackage) (Err error) h tells = refused_by NoPackage error h tells
  told (Err NotExternal) (Err error) h tells = refused_by NotExternal error h tells
  told (Err LockedPackage) (Err error) h tells = refused_by LockedPackage error h tells
  told (Err EmptyName) (Err error) h tells = refused_by EmptyName error h tells
  told (Err NoSuchPackage) (Err error) h tells = refused_by NoSuchPackage error h tells
  told (Err PackageExists) (Err error) h tells = refused_by PackageExists error h tells
  told (Err PackageIsLocked) (Err error) h tells = refused_by PackageIsLocked error h tells
  told (Err NameConflict) (Err error) h tells = refused_by NameConflict error h tells
  told (Err NotAccessible) (Err error) h tells = refused_by NotAccessible error h tells
  told (Err Limit) (Err error) h tells = refused_by Limit error h tells
  told (Err cause) (Ok e) h tells = absurd tells
