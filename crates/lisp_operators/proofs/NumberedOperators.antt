-- That each operator is refused under a number of evaluation.
use Rattle.std.proofs.Common.{Bool, true, false, cond, not, ◌||◌, List, [], ◌∷◌, Option, Some, None, Ok, Err, Result, bytes_eq, arith}
use Rattle.std.specs.Prelude.{nat_lt, unwrap_or, ◌+ℤ◌}
use Rattle.std.specs.List.{list_all, list_any}
use Rattle.std.specs.FinMap as finite
use Rattle.lisp_object.specs.Object.{Object, pair, nil, list_of, object_depth, object_size}
use Rattle.lisp_object.specs.declared.refusal.TheConstants.{NO_SUCH_PACKAGE, PACKAGE_IS_LOCKED, NO_READTABLE, INTEGER_RANGE}
use Rattle.readtable_core.specs.Tables as readtable
use Rattle.readtable_core.specs.Tables.{entry_at}
use Rattle.readtable_core.specs.Sound.{is_dispatching}
use Rattle.package_table.specs.declared.error.PackageError.{PackageError}
use Rattle.package_table.specs.Table.{Name, Table, keyword, is_locked, package_named}
use Rattle.package_table.specs.Changes.{after_make, after_intern, after_export, after_import, after_use, finds_this, intern_changes, export_changes, import_changes, use_changes}
use Rattle.plist_state.specs.declared.error.ReadtableError.{ReadtableError}
use Rattle.plist_state.specs.Properties.{Symbol}
use Rattle.plist_state.specs.declared.error.ReadtableError.TheVariants.{NoReadtable}
use Rattle.plist_state.specs.State.{Readtables, WorldState, standard_name}
use Rattle.plist_state.specs.Changes.{plist, property, after_in_readtable, with_case, with_macro, with_dispatching, with_dispatch, with_syntax, with_copy, state_with_readtables}
use Rattle.lisp_operators.specs.ArgumentKinds.{a_symbol, a_name, a_text, an_integer, a_character, a_keyword, a_source, a_case, one_or_each, given_or, given_or_nil, is_true}
use Rattle.lisp_operators.specs.Evaluation.{Evaluation, gives}
use Rattle.lisp_operators.specs.Properties.{t, if_within_limits, list, get, set, removed_property, remove, in_turn, symbol_plist, amount, is_in_range, increment, push}
use Rattle.lisp_operators.specs.Packages.{then_others, one_by_one, in_package, made_package, make, enter, interned_symbol, intern, changed, unlocked, export, import, use_all, packages_named, use_package}
use Rattle.lisp_operators.specs.Readtables.{value_after, in_readtable, changeable, is_function, a_function, readtable_case, set_case, copy_readtable, enter_readtable, after_first, set_syntax, set_macro, get_macro, make_dispatch, set_dispatch, get_dispatch}
use Rattle.lisp_operators.specs.ReadBase.{a_base, set_base}
use Rattle.lisp_operators.proofs.Numbered.{Numbered, IsPackagesNumbered, IsReadtablesNumbered, numbered_if, numbered_kind, numbered_option, numbered_make, numbered_intern, numbered_export, numbered_import, numbered_use, numbered_case, numbered_macro, numbered_dispatching, numbered_dispatch, numbered_syntax, numbered_copy}

abbrev pub IsNumberedFunction : (List Object → WorldState → Evaluation Object) → Type 0
IsNumberedFunction function = (xs : List Object) (s : WorldState) → Numbered (function xs s)

-- ---- property lists
built_numbered : (s : WorldState) (x : Object) (on : Evaluation Object) → Numbered on → Numbered (if_within_limits x on)
built_numbered s x on silent = numbered_if (nat_lt 100 (object_depth x)) _ _ (record { number = (omega arith, omega arith) }) (numbered_if (nat_lt 1000000 (object_size x)) _ on (record { number = (omega arith, omega arith) }) silent)

pub list_numbered : IsNumberedFunction list
list_numbered xs s = built_numbered s (list_of xs) (gives (list_of xs) s) (record { number = tt })

pub get_numbered : IsNumberedFunction get
get_numbered [] s = record { number = (omega arith, omega arith) }
get_numbered (x ∷ []) s = record { number = (omega arith, omega arith) }
get_numbered (x ∷ i ∷ rest) s = numbered_kind (a_symbol x) _ (λ x'. numbered_kind (a_symbol i) _ (λ i'. record { number = tt }))

pub set_numbered : IsNumberedFunction set
set_numbered (x ∷ i ∷ v ∷ []) s = numbered_kind (a_symbol x) _ (λ x'. numbered_kind (a_symbol i) _ (λ i'. record { number = tt }))
set_numbered _ s = record { number = (omega arith, omega arith) }

removed_numbered : (o : Option Object) (s t : WorldState) → Numbered (removed_property o s t)
removed_numbered None s t = record { number = tt }
removed_numbered (Some v) s t = record { number = tt }

pub remove_numbered : IsNumberedFunction remove
remove_numbered (x ∷ i ∷ []) s = numbered_kind (a_symbol x) _ (λ x'. numbered_kind (a_symbol i) _ (λ i'. removed_numbered (property s x' i') s _))
remove_numbered _ s = record { number = (omega arith, omega arith) }

pub symbol_plist_numbered : IsNumberedFunction symbol_plist
symbol_plist_numbered (x ∷ []) s = numbered_kind (a_symbol x) _ (λ x'. list_numbered (in_turn (plist s x')) s)
symbol_plist_numbered _ s = record { number = (omega arith, omega arith) }

pub increment_numbered : IsNumberedFunction increment
increment_numbered (x ∷ i ∷ rest) s =
    numbered_kind (a_symbol x) _ (λ x'. numbered_kind (a_symbol i) _ (λ i'. numbered_kind (amount rest) _ (λ n.
    numbered_kind (an_integer (unwrap_or (property s x' i') nil)) _ (λ m. numbered_if (is_in_range (m +ℤ n)) _ _ (record { number = tt }) (record { number = (omega arith, omega arith) })))))
increment_numbered _ s = record { number = (omega arith, omega arith) }

pub push_numbered : IsNumberedFunction push
push_numbered (v ∷ x ∷ i ∷ []) s = numbered_kind (a_symbol x) _ (λ x'. numbered_kind (a_symbol i) _ (λ i'.
    built_numbered s (pair v (unwrap_or (property s x' i') nil)) _ (record { number = tt })))
push_numbered _ s = record { number = (omega arith, omega arith) }

-- ---- packages
pub in_package_numbered : {A : Type 0} (s : WorldState) (n : Name) (on : Name → Evaluation A) → ((p : Name) → Numbered (on p)) → Numbered (in_package s n on)
in_package_numbered s n on each = numbered_option (package_named s.packages n) on (Err NO_SUCH_PACKAGE) each (record { number = (omega arith, omega arith) })

made_numbered : (s : WorldState) (n : Name) (r : Result Table PackageError) → IsPackagesNumbered r → Numbered (made_package s n r)
made_numbered s n (Ok packages) is = record { number = tt }
made_numbered s n (Err e) is = record { number = is }

pub make_numbered : IsNumberedFunction make
make_numbered (x ∷ []) s = numbered_kind (a_name x) _ (λ n. made_numbered s n (after_make s.packages n) (numbered_make s.packages n))
make_numbered _ s = record { number = (omega arith, omega arith) }

pub enter_numbered : (x : Object) (s : WorldState) → Numbered (enter x s)
enter_numbered x s = numbered_kind (a_name x) _ (λ n. in_package_numbered s n _ (λ p. record { number = tt }))

interned_numbered : (s : WorldState) (n : Name) (changes : Bool) (r : Result (Name × Table) PackageError) → IsPackagesNumbered r → Numbered (interned_symbol s n changes r)
interned_numbered s n changes (Ok p) is = record { number = tt }
interned_numbered s n changes (Err e) is = record { number = is }

pub intern_numbered : IsNumberedFunction intern
intern_numbered [] s = record { number = (omega arith, omega arith) }
intern_numbered (x ∷ rest) s =
    numbered_kind (a_text x) _ (λ n. numbered_kind (given_or a_name s.current_package rest) _ (λ q. in_package_numbered s q _ (λ p.
    interned_numbered s n (intern_changes s.packages p n) (after_intern s.packages p n) (numbered_intern s.packages p n))))

module _ {A : Type 0} (change : Table → A → Result Table PackageError) (changes : Table → A → Bool) (each : (u : Table) (x : A) → IsPackagesNumbered (change u x)) where
  pub one_numbered : (u : Table) (wrote : Bool) (xs : List A) → IsPackagesNumbered (one_by_one change changes u wrote xs)
  one_numbered u wrote [] = tt
  one_numbered u wrote (x ∷ xs) =
      elim (change u x) as (λ r. IsPackagesNumbered r → IsPackagesNumbered (then_others r (λ v. one_by_one change changes v (wrote || changes u x) xs))) [
        | Ok v ↦ λ _. one_numbered v (wrote || changes u x) xs
        | Err e ↦ λ is. is
      ] (each u x)

changed_numbered : (s : WorldState) (r : Result (Table × Bool) PackageError) → IsPackagesNumbered r → Numbered (changed s r)
changed_numbered s (Ok p) is = record { number = tt }
changed_numbered s (Err e) is = record { number = is }

unlocked_numbered : {A : Type 0} (s : WorldState) (p : Name) (on : Evaluation A) → Numbered on → Numbered (unlocked p on)
unlocked_numbered s p on silent = numbered_if (is_locked p) (Err PACKAGE_IS_LOCKED) on (record { number = (omega arith, omega arith) }) silent

pub export_numbered : IsNumberedFunction export
export_numbered [] s = record { number = (omega arith, omega arith) }
export_numbered (x ∷ rest) s =
    numbered_kind (one_or_each a_symbol x) _ (λ xs. numbered_kind (given_or a_name s.current_package rest) _ (λ q. in_package_numbered s q _ (λ p. unlocked_numbered s p _
    (numbered_if (not (list_all (λ (y : Symbol). finds_this s.packages p y.0 y.1) xs)) _ _ (record { number = (omega arith, omega arith) })
    (changed_numbered s _ (one_numbered (λ u (y : Symbol). after_export u p y.0 y.1) (λ u y. export_changes u p y.1) (λ u y. numbered_export u p y.0 y.1) s.packages false xs))))))

pub import_numbered : IsNumberedFunction import
import_numbered [] s = record { number = (omega arith, omega arith) }
import_numbered (x ∷ rest) s =
    numbered_kind (one_or_each a_symbol x) _ (λ xs. numbered_kind (given_or a_name s.current_package rest) _ (λ q. in_package_numbered s q _ (λ p. unlocked_numbered s p _
    (changed_numbered s _ (one_numbered (λ u (y : Symbol). after_import u p y.0 y.1) (λ u y. import_changes u p y.1) (λ u y. numbered_import u p y.0 y.1) s.packages false xs)))))

use_all_numbered : (s : WorldState) (p : Name) (qs : List Name) → Numbered (use_all s p qs)
use_all_numbered s p qs =
    numbered_if (is_locked p || list_any (bytes_eq keyword) qs) _ _ (record { number = (omega arith, omega arith) })
    (changed_numbered s _ (one_numbered (λ u q. after_use u p q) (λ u q. use_changes u p q) (λ u q. numbered_use u p q) s.packages false qs))

pub use_numbered : IsNumberedFunction use_package
use_numbered [] s = record { number = (omega arith, omega arith) }
use_numbered (x ∷ rest) s =
    numbered_kind (one_or_each a_name x) _ (λ ns. numbered_kind (given_or a_name s.current_package rest) _ (λ q.
    numbered_option (packages_named s.packages ns) _ (Err NO_SUCH_PACKAGE) (λ qs. in_package_numbered s q _ (λ p. use_all_numbered s p qs)) (record { number = (omega arith, omega arith) })))

-- ---- readtables
after_numbered : (s : WorldState) (x : Object) (r : Result Readtables ReadtableError) → IsReadtablesNumbered r → Numbered (value_after s x (state_with_readtables s r))
after_numbered s x (Ok m) is = record { number = tt }
after_numbered s x (Err e) is = record { number = is }

entered_numbered : (s : WorldState) (n : Name) (x : Object) → Numbered (value_after s x (after_in_readtable s n))
entered_numbered s n x =
    elim (finite.contains_key s.readtables n) as (λ b. Numbered (value_after s x (cond b (Ok (record s { current_readtable = n })) (Err NoReadtable)))) [
      | true ↦ record { number = tt }
      | false ↦ record { number = (omega arith, omega arith) }
    ]

in_readtable_numbered : (s : WorldState) (n : Name) (on : readtable.Table → Evaluation Object) → ((table : readtable.Table) → Numbered (on table)) → Numbered (in_readtable s n on)
in_readtable_numbered s n on each = numbered_option (finite.get s.readtables n) on (Err NO_READTABLE) each (record { number = (omega arith, omega arith) })

changeable_numbered : (s : WorldState) (n : Name) (on : Evaluation Object) → Numbered on → Numbered (changeable s n on)
changeable_numbered s n on silent = in_readtable_numbered s n _ (λ table. numbered_if (bytes_eq n standard_name) _ on (record { number = (omega arith, omega arith) }) silent)

function_numbered : (s : WorldState) (names : List Name) (f : Name) (on : Evaluation Object) → Numbered on → Numbered (a_function names f on)
function_numbered s names f on silent = numbered_if (is_function names f) on _ silent (record { number = (omega arith, omega arith) })

pub case_numbered : IsNumberedFunction readtable_case
case_numbered (r ∷ []) s = numbered_kind (a_keyword r) _ (λ n. in_readtable_numbered s n _ (λ table. record { number = tt }))
case_numbered _ s = record { number = (omega arith, omega arith) }

pub set_case_numbered : IsNumberedFunction set_case
set_case_numbered (r ∷ k ∷ []) s = numbered_kind (a_keyword r) _ (λ n. numbered_kind (a_case k) _ (λ letters. after_numbered s k (with_case s.readtables n letters) (numbered_case s.readtables n letters)))
set_case_numbered _ s = record { number = (omega arith, omega arith) }

pub copy_numbered : IsNumberedFunction copy_readtable
copy_numbered (z ∷ k ∷ []) s = numbered_kind (a_source z) _ (λ m. numbered_kind (a_keyword k) _ (λ n. after_numbered s k (with_copy s.readtables m n) (numbered_copy s.readtables n m)))
copy_numbered _ s = record { number = (omega arith, omega arith) }

pub enter_readtable_numbered : IsNumberedFunction enter_readtable
enter_readtable_numbered (r ∷ []) s = numbered_kind (a_keyword r) _ (λ n. entered_numbered s n r)
enter_readtable_numbered _ s = record { number = (omega arith, omega arith) }

pub set_syntax_numbered : IsNumberedFunction set_syntax
set_syntax_numbered [] s = record { number = (omega arith, omega arith) }
set_syntax_numbered (c ∷ []) s = record { number = (omega arith, omega arith) }
set_syntax_numbered (c ∷ d ∷ rest) s =
    numbered_kind (a_character c) _ (λ to. numbered_kind (a_character d) _ (λ from.
    numbered_kind (given_or a_keyword s.current_readtable rest) _ (λ n. numbered_kind (given_or a_source standard_name (after_first rest)) _ (λ m.
    after_numbered s t (with_syntax s.readtables n to m from) (numbered_syntax s.readtables n to m from)))))

pub set_macro_numbered : (names : List Name) → IsNumberedFunction (set_macro names)
set_macro_numbered names [] s = record { number = (omega arith, omega arith) }
set_macro_numbered names (c ∷ []) s = record { number = (omega arith, omega arith) }
set_macro_numbered names (c ∷ f ∷ rest) s =
    numbered_kind (a_character c) _ (λ at. numbered_kind (a_keyword f) _ (λ function.
    numbered_kind (given_or a_keyword s.current_readtable (after_first rest)) _ (λ n. changeable_numbered s n _
    (function_numbered s names function _ (after_numbered s t (with_macro s.readtables n at function (is_true (given_or_nil rest))) (numbered_macro s.readtables n at function (is_true (given_or_nil rest))))))))

pub get_macro_numbered : IsNumberedFunction get_macro
get_macro_numbered [] s = record { number = (omega arith, omega arith) }
get_macro_numbered (c ∷ rest) s =
    numbered_kind (a_character c) _ (λ at. numbered_kind (given_or a_source s.current_readtable rest) _ (λ n. in_readtable_numbered s n _ (λ table. record { number = tt })))

pub make_dispatch_numbered : IsNumberedFunction make_dispatch
make_dispatch_numbered [] s = record { number = (omega arith, omega arith) }
make_dispatch_numbered (c ∷ rest) s =
    numbered_kind (a_character c) _ (λ at. numbered_kind (given_or a_keyword s.current_readtable (after_first rest)) _ (λ n.
    after_numbered s t (with_dispatching s.readtables n at (is_true (given_or_nil rest))) (numbered_dispatching s.readtables n at (is_true (given_or_nil rest)))))

pub set_dispatch_numbered : (names : List Name) → IsNumberedFunction (set_dispatch names)
set_dispatch_numbered names [] s = record { number = (omega arith, omega arith) }
set_dispatch_numbered names (c ∷ []) s = record { number = (omega arith, omega arith) }
set_dispatch_numbered names (c ∷ d ∷ []) s = record { number = (omega arith, omega arith) }
set_dispatch_numbered names (c ∷ d ∷ f ∷ rest) s =
    numbered_kind (a_character c) _ (λ at. numbered_kind (a_character d) _ (λ sub. numbered_kind (a_keyword f) _ (λ function.
    numbered_kind (given_or a_keyword s.current_readtable rest) _ (λ n. changeable_numbered s n _
    (function_numbered s names function _ (after_numbered s t (with_dispatch s.readtables n at sub function) (numbered_dispatch s.readtables n at sub function)))))))

pub get_dispatch_numbered : IsNumberedFunction get_dispatch
get_dispatch_numbered [] s = record { number = (omega arith, omega arith) }
get_dispatch_numbered (c ∷ []) s = record { number = (omega arith, omega arith) }
get_dispatch_numbered (c ∷ d ∷ rest) s =
    numbered_kind (a_character c) _ (λ at. numbered_kind (a_character d) _ (λ sub. numbered_kind (given_or a_source s.current_readtable rest) _ (λ n.
    in_readtable_numbered s n _ (λ table. numbered_if (not (is_dispatching (entry_at table at))) _ _ (record { number = (omega arith, omega arith) }) (record { number = tt })))))

-- ---- the base
pub set_base_numbered : IsNumberedFunction set_base
set_base_numbered (x ∷ []) s =
    numbered_kind (an_integer x) _ (λ n. numbered_option (a_base n) _ (Err INTEGER_RANGE) (λ base. record { number = tt }) (record { number = (omega arith, omega arith) }))
set_base_numbered _ s = record { number = (omega arith, omega arith) }
