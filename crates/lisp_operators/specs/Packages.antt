-- The operators on packages (standard 11.2): each of the values of its arguments. What each change is, package_table says.
use Rattle.std.specs.Prelude.{Bool, false, ◌||◌, not, if◌then◌else◌, List, [], ◌∷◌, Option, Some, None, Result, Ok, Err}
use Rattle.std.specs.Str.{bytes_eq}
use Rattle.std.specs.List.{list_all, list_any}
use Rattle.std.specs.Option.{option_map_or}
use Rattle.lisp_object.specs.Object.{Object, text, symbol}
use Rattle.lisp_object.specs.declared.refusal.TheConstants.{ARGUMENT_KIND, NO_SUCH_PACKAGE, PACKAGE_IS_LOCKED, NOT_ACCESSIBLE}
use Rattle.package_table.specs.declared.error.PackageError.{PackageError}
use Rattle.package_table.specs.Table.{Name, Table, keyword, is_locked, package_named}
use Rattle.package_table.specs.ErrorNumbers.{package_error_number}
use Rattle.package_table.specs.Changes.{after_make, after_intern, after_export, after_import, after_use, finds_this, intern_changes, export_changes, import_changes, use_changes}
use Rattle.plist_state.specs.Properties.{Symbol}
use Rattle.plist_state.specs.State.{WorldState}
use Rattle.plist_state.specs.Changes.{with_packages}
use Rattle.lisp_operators.specs.Evaluation.{Evaluation, writes, of_kind}
use Rattle.lisp_operators.specs.ArgumentKinds.{a_symbol, a_name, a_text, one_or_each, given_or}
use Rattle.lisp_operators.specs.Properties.{t}

-- what goes on with the package of this name or nickname
abbrev pub in_package : {A : Type 0} → WorldState → Name → (Name → Evaluation A) → Evaluation A
in_package s n on = option_map_or on (package_named s.packages n) (Err NO_SUCH_PACKAGE)

-- MAKE-PACKAGE: the name
abbrev pub made_package : WorldState → Name → Result Table PackageError → Evaluation Object
made_package s n (Ok packages) = writes (text n) (with_packages s packages)
made_package s n (Err e) = Err (package_error_number e)

-- MAKE-PACKAGE
abbrev pub make : List Object → WorldState → Evaluation Object
make (x ∷ []) s = of_kind (a_name x) (λ n. made_package s n (after_make s.packages n))
make _ s = Err ARGUMENT_KIND

-- IN-PACKAGE, of its argument as it is written: the package's name
abbrev pub enter : Object → WorldState → Evaluation Object
enter x s = of_kind (a_name x) (λ n. in_package s n (λ p. writes (text p) (record s { current_package = p })))

-- INTERN: the symbol
abbrev pub interned_symbol : WorldState → Name → Bool → Result (Name × Table) PackageError → Evaluation Object
interned_symbol s n changes (Ok p) = Ok (record { value = symbol p.0 n; state = with_packages s p.1; wrote = changes })
interned_symbol s n changes (Err e) = Err (package_error_number e)

-- INTERN
abbrev pub intern : List Object → WorldState → Evaluation Object
intern (x ∷ rest) s =
    of_kind (a_text x) (λ n. of_kind (given_or a_name s.current_package rest) (λ q.
    in_package s q (λ p. interned_symbol s n (intern_changes s.packages p n) (after_intern s.packages p n))))
intern _ s = Err ARGUMENT_KIND

abbrev pub then_others : Result Table PackageError → (Table → Result (Table × Bool) PackageError) → Result (Table × Bool) PackageError
then_others (Ok later) on = on later
then_others (Err e) on = Err e

-- Changes of the packages for one after the other, up to the first that is refused; and whether one of them changes
-- anything.
module _ {A : Type 0} (change : Table → A → Result Table PackageError) (changes : Table → A → Bool) where
  -- changes one after the other, and whether one of them changed anything; the first that is refused ends them
  abbrev pub one_by_one : Table → Bool → List A → Result (Table × Bool) PackageError
  one_by_one packages wrote [] = Ok (packages, wrote)
  one_by_one packages wrote (x ∷ xs) = then_others (change packages x) (λ later. one_by_one later (wrote || changes packages x) xs)

-- EXPORT of these symbols, IMPORT of these symbols, USE-PACKAGE of these packages
abbrev pub after_exports : Table → Name → List Symbol → Result (Table × Bool) PackageError
after_exports u p ys = one_by_one (λ v y. after_export v p y.0 y.1) (λ v y. export_changes v p y.1) u false ys

-- the packages after p has imported these symbols, one after the other, and whether that changed them; or the first refusal
abbrev pub after_imports : Table → Name → List Symbol → Result (Table × Bool) PackageError
after_imports u p ys = one_by_one (λ v y. after_import v p y.0 y.1) (λ v y. import_changes v p y.1) u false ys

-- the packages after p uses these packages, one after the other, and whether that changed them; or the first refusal
abbrev pub after_uses : Table → Name → List Name → Result (Table × Bool) PackageError
after_uses u p qs = one_by_one (λ v q. after_use v p q) (λ v q. use_changes v p q) u false qs

-- T, in the state after such changes
abbrev pub changed : WorldState → Result (Table × Bool) PackageError → Evaluation Object
changed s (Ok p) = Ok (record { value = t; state = with_packages s p.0; wrote = p.1 })
changed s (Err e) = Err (package_error_number e)

-- what goes on where the package is not locked
abbrev pub unlocked : {A : Type 0} → Name → Evaluation A → Evaluation A
unlocked p on = if is_locked p then Err PACKAGE_IS_LOCKED else on

-- whether the package finds this symbol by its name
abbrev pub finds_symbol : Table → Name → Symbol → Bool
finds_symbol u p y = finds_this u p y.0 y.1

-- EXPORT of a symbol or a list of them. That the package finds each is looked at before any conflict.
abbrev pub export : List Object → WorldState → Evaluation Object
export (x ∷ rest) s =
    of_kind (one_or_each a_symbol x) (λ xs. of_kind (given_or a_name s.current_package rest) (λ q.
    in_package s q (λ p. unlocked p
    (if not (list_all (finds_symbol s.packages p) xs) then Err NOT_ACCESSIBLE
    else changed s (after_exports s.packages p xs)))))
export _ s = Err ARGUMENT_KIND

-- IMPORT of a symbol or a list of them
abbrev pub import : List Object → WorldState → Evaluation Object
import (x ∷ rest) s =
    of_kind (one_or_each a_symbol x) (λ xs. of_kind (given_or a_name s.current_package rest) (λ q.
    in_package s q (λ p. unlocked p (changed s (after_imports s.packages p xs)))))
import _ s = Err ARGUMENT_KIND

-- the packages of these names, all of them
abbrev pub packages_named : Table → List Name → Option (List Name)
packages_named u [] = Some []
packages_named u (n ∷ ns) = option_map_or (λ p. option_map_or (λ ps. Some (p ∷ ps)) (packages_named u ns) None) (package_named u n) None

-- USE-PACKAGE of a package or a list of them: each is there, then none of them is KEYWORD nor the user locked, before any
-- conflict
abbrev pub use_all : WorldState → Name → List Name → Evaluation Object
use_all s p qs =
    if is_locked p || list_any (bytes_eq keyword) qs then Err PACKAGE_IS_LOCKED
    else changed s (after_uses s.packages p qs)

-- USE-PACKAGE
abbrev pub use_package : List Object → WorldState → Evaluation Object
use_package (x ∷ rest) s =
    of_kind (one_or_each a_name x) (λ ns. of_kind (given_or a_name s.current_package rest) (λ q.
    option_map_or (λ qs. in_package s q (λ p. use_all s p qs)) (packages_named s.packages ns) (Err NO_SUCH_PACKAGE)))
use_package _ s = Err ARGUMENT_KIND
