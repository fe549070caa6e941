-- That no operator changes the state where it does not write.
use Rattle.std.proofs.Common.{◌≡◌, Bool, false, not, ◌||◌, List, [], ◌∷◌, Option, Some, None, Ok, Err, Result, bytes_eq, refl, ap}
use Rattle.std.specs.Prelude.{nat_lt, unwrap_or, ◌+ℤ◌}
use Rattle.std.specs.List.{list_all, list_any}
use Rattle.std.specs.FinMap as finite
use Rattle.lisp_object.specs.Object.{Object, pair, nil, list_of, object_depth, object_size}
use Rattle.lisp_object.specs.declared.refusal.TheConstants.{NO_SUCH_PACKAGE, PACKAGE_IS_LOCKED, NO_READTABLE, INTEGER_RANGE}
use Rattle.readtable_core.specs.Tables as readtable
use Rattle.readtable_core.specs.Tables.{entry_at}
use Rattle.readtable_core.specs.Sound.{is_dispatching}
use Rattle.package_table.specs.declared.error.PackageError.{PackageError}
use Rattle.package_table.specs.Table.{Name, Table, keyword, is_locked, package_named}
use Rattle.package_table.specs.Changes.{after_make, after_intern, after_export, after_import, after_use, finds_this, intern_changes, export_changes, import_changes, use_changes}
use Rattle.plist_state.specs.declared.error.ReadtableError.{ReadtableError}
use Rattle.plist_state.specs.Properties.{Symbol}
use Rattle.plist_state.specs.State.{WorldState, standard_name}
use Rattle.plist_state.specs.Changes.{plist, property, with_packages, after_in_readtable, with_case, with_macro, with_dispatching, with_dispatch, with_syntax, with_copy, state_with_readtables}
use Rattle.lisp_operators.specs.ArgumentKinds.{a_symbol, a_name, a_text, an_integer, a_character, a_keyword, a_source, a_case, one_or_each, given_or, given_or_nil, is_true}
use Rattle.lisp_operators.specs.Evaluation.{Evaluation, gives}
use Rattle.lisp_operators.specs.Properties.{t, if_within_limits, list, get, set, removed_property, remove, in_turn, symbol_plist, amount, is_in_range, increment, push}
use Rattle.lisp_operators.specs.Packages.{in_package, made_package, make, enter, interned_symbol, intern, changed, unlocked, export, import, use_all, packages_named, use_package}
use Rattle.lisp_operators.specs.Readtables.{value_after, in_readtable, changeable, is_function, a_function, readtable_case, set_case, copy_readtable, enter_readtable, after_first, set_syntax, set_macro, get_macro, make_dispatch, set_dispatch, get_dispatch}
use Rattle.lisp_operators.specs.ReadBase.{a_base, set_base}
use Rattle.lisp_operators.proofs.Silence.{Keeps, written, keeps_if, keeps_kind, keeps_option}
use Rattle.lisp_operators.proofs.Unmoved.{IsUnmoved, intern_still, export_still, import_still, use_still, one_unmoved}

abbrev pub IsSilent : (List Object → WorldState → Evaluation Object) → Type 0
IsSilent function = (xs : List Object) (s : WorldState) → Keeps s (function xs s)

-- ---- property lists
built_silent : (s : WorldState) (x : Object) (on : Evaluation Object) → Keeps s on → Keeps s (if_within_limits x on)
built_silent s x on silent = keeps_if s (nat_lt 100 (object_depth x)) _ _ (record { same = tt }) (keeps_if s (nat_lt 1000000 (object_size x)) _ on (record { same = tt }) silent)

pub list_silent : IsSilent list
list_silent xs s = built_silent s (list_of xs) (gives (list_of xs) s) (record { same = λ _. refl })

pub get_silent : IsSilent get
get_silent [] s = record { same = tt }
get_silent (x ∷ []) s = record { same = tt }
get_silent (x ∷ i ∷ rest) s = keeps_kind s (a_symbol x) _ (λ x'. keeps_kind s (a_symbol i) _ (λ i'. record { same = λ _. refl }))

pub set_silent : IsSilent set
set_silent (x ∷ i ∷ v ∷ []) s = keeps_kind s (a_symbol x) _ (λ x'. keeps_kind s (a_symbol i) _ (λ i'. record { same = written }))
set_silent _ s = record { same = tt }

removed_silent : (o : Option Object) (s t : WorldState) → Keeps s (removed_property o s t)
removed_silent None s t = record { same = λ _. refl }
removed_silent (Some v) s t = record { same = written }

pub remove_silent : IsSilent remove
remove_silent (x ∷ i ∷ []) s = keeps_kind s (a_symbol x) _ (λ x'. keeps_kind s (a_symbol i) _ (λ i'. removed_silent (property s x' i') s _))
remove_silent _ s = record { same = tt }

pub symbol_plist_silent : IsSilent symbol_plist
symbol_plist_silent (x ∷ []) s = keeps_kind s (a_symbol x) _ (λ x'. list_silent (in_turn (plist s x')) s)
symbol_plist_silent _ s = record { same = tt }

pub increment_silent : IsSilent increment
increment_silent (x ∷ i ∷ rest) s =
    keeps_kind s (a_symbol x) _ (λ x'. keeps_kind s (a_symbol i) _ (λ i'. keeps_kind s (amount rest) _ (λ n.
    keeps_kind s (an_integer (unwrap_or (property s x' i') nil)) _ (λ m. keeps_if s (is_in_range (m +ℤ n)) _ _ (record { same = written }) (record { same = tt })))))
increment_silent _ s = record { same = tt }

pub push_silent : IsSilent push
push_silent (v ∷ x ∷ i ∷ []) s = keeps_kind s (a_symbol x) _ (λ x'. keeps_kind s (a_symbol i) _ (λ i'.
    built_silent s (pair v (unwrap_or (property s x' i') nil)) _ (record { same = written })))
push_silent _ s = record { same = tt }

-- ---- packages
pub in_package_silent : {A : Type 0} (s : WorldState) (n : Name) (on : Name → Evaluation A) → ((p : Name) → Keeps s (on p)) → Keeps s (in_package s n on)
in_package_silent s n on each = keeps_option s (package_named s.packages n) on (Err NO_SUCH_PACKAGE) each (record { same = tt })

made_silent : (s : WorldState) (n : Name) (r : Result Table PackageError) → Keeps s (made_package s n r)
made_silent s n (Ok packages) = record { same = written }
made_silent s n (Err e) = record { same = tt }

pub make_silent : IsSilent make
make_silent (x ∷ []) s = keeps_kind s (a_name x) _ (λ n. made_silent s n (after_make s.packages n))
make_silent _ s = record { same = tt }

pub enter_silent : (x : Object) (s : WorldState) → Keeps s (enter x s)
enter_silent x s = keeps_kind s (a_name x) _ (λ n. in_package_silent s n _ (λ p. record { same = written }))

interned_silent : (s : WorldState) (n : Name) (changes : Bool) (r : Result (Name × Table) PackageError) → ((h : Name) (u : Table) → r ≡ Ok (h, u) → changes ≡ false → u ≡ s.packages) → Keeps s (interned_symbol s n changes r)
interned_silent s n changes (Ok p) still = record { same = λ none. ap (with_packages s) (still p.0 p.1 refl none) }
interned_silent s n changes (Err e) still = record { same = tt }

pub intern_silent : IsSilent intern
intern_silent [] s = record { same = tt }
intern_silent (x ∷ rest) s =
    keeps_kind s (a_text x) _ (λ n. keeps_kind s (given_or a_name s.current_package rest) _ (λ q. in_package_silent s q _ (λ p.
    interned_silent s n (intern_changes s.packages p n) (after_intern s.packages p n) (λ h u is none. intern_still s.packages p n h u is none))))

changed_silent : (s : WorldState) (r : Result (Table × Bool) PackageError) → IsUnmoved s.packages false r → Keeps s (changed s r)
changed_silent s (Ok p) still = record { same = λ none. ap (with_packages s) (still none).1 }
changed_silent s (Err e) still = record { same = tt }

unlocked_silent : {A : Type 0} (s : WorldState) (p : Name) (on : Evaluation A) → Keeps s on → Keeps s (unlocked p on)
unlocked_silent s p on silent = keeps_if s (is_locked p) (Err PACKAGE_IS_LOCKED) on (record { same = tt }) silent

pub export_silent : IsSilent export
export_silent [] s = record { same = tt }
export_silent (x ∷ rest) s =
    keeps_kind s (one_or_each a_symbol x) _ (λ xs. keeps_kind s (given_or a_name s.current_package rest) _ (λ q. in_package_silent s q _ (λ p. unlocked_silent s p _
    (keeps_if s (not (list_all (λ (y : Symbol). finds_this s.packages p y.0 y.1) xs)) _ _ (record { same = tt })
    (changed_silent s _ (one_unmoved (λ u (y : Symbol). after_export u p y.0 y.1) (λ u y. export_changes u p y.1) (λ t y u is none. export_still t p y.0 y.1 u is none) s.packages false xs))))))

pub import_silent : IsSilent import
import_silent [] s = record { same = tt }
import_silent (x ∷ rest) s =
    keeps_kind s (one_or_each a_symbol x) _ (λ xs. keeps_kind s (given_or a_name s.current_package rest) _ (λ q. in_package_silent s q _ (λ p. unlocked_silent s p _
    (changed_silent s _ (one_unmoved (λ u (y : Symbol). after_import u p y.0 y.1) (λ u y. import_changes u p y.1) (λ t y u is none. import_still t p y.0 y.1 u is none) s.packages false xs)))))

use_all_silent : (s : WorldState) (p : Name) (qs : List Name) → Keeps s (use_all s p qs)
use_all_silent s p qs =
    keeps_if s (is_locked p || list_any (bytes_eq keyword) qs) _ _ (record { same = tt })
    (changed_silent s _ (one_unmoved (λ u q. after_use u p q) (λ u q. use_changes u p q) (λ t q u is none. use_still t p q u is none) s.packages false qs))

pub use_silent : IsSilent use_package
use_silent [] s = record { same = tt }
use_silent (x ∷ rest) s =
    keeps_kind s (one_or_each a_name x) _ (λ ns. keeps_kind s (given_or a_name s.current_package rest) _ (λ q.
    keeps_option s (packages_named s.packages ns) _ (Err NO_SUCH_PACKAGE) (λ qs. in_package_silent s q _ (λ p. use_all_silent s p qs)) (record { same = tt })))

-- ---- readtables: each of these writes
after_silent : (s : WorldState) (x : Object) (r : Result WorldState ReadtableError) → Keeps s (value_after s x r)
after_silent s x (Ok later) = record { same = written }
after_silent s x (Err e) = record { same = tt }

in_readtable_silent : (s : WorldState) (n : Name) (on : readtable.Table → Evaluation Object) → ((table : readtable.Table) → Keeps s (on table)) → Keeps s (in_readtable s n on)
in_readtable_silent s n on each = keeps_option s (finite.get s.readtables n) on (Err NO_READTABLE) each (record { same = tt })

changeable_silent : (s : WorldState) (n : Name) (on : Evaluation Object) → Keeps s on → Keeps s (changeable s n on)
changeable_silent s n on silent = in_readtable_silent s n _ (λ table. keeps_if s (bytes_eq n standard_name) _ on (record { same = tt }) silent)

function_silent : (s : WorldState) (names : List Name) (f : Name) (on : Evaluation Object) → Keeps s on → Keeps s (a_function names f on)
function_silent s names f on silent = keeps_if s (is_function names f) on _ silent (record { same = tt })

pub case_silent : IsSilent readtable_case
case_silent (r ∷ []) s = keeps_kind s (a_keyword r) _ (λ n. in_readtable_silent s n _ (λ table. record { same = λ _. refl }))
case_silent _ s = record { same = tt }

pub set_case_silent : IsSilent set_case
set_case_silent (r ∷ k ∷ []) s = keeps_kind s (a_keyword r) _ (λ n. keeps_kind s (a_case k) _ (λ letters. after_silent s k (state_with_readtables s (with_case s.readtables n letters))))
set_case_silent _ s = record { same = tt }

pub copy_silent : IsSilent copy_readtable
copy_silent (z ∷ k ∷ []) s = keeps_kind s (a_source z) _ (λ m. keeps_kind s (a_keyword k) _ (λ n. after_silent s k (state_with_readtables s (with_copy s.readtables m n))))
copy_silent _ s = record { same = tt }

pub enter_readtable_silent : IsSilent enter_readtable
enter_readtable_silent (r ∷ []) s = keeps_kind s (a_keyword r) _ (λ n. after_silent s r (after_in_readtable s n))
enter_readtable_silent _ s = record { same = tt }

pub set_syntax_silent : IsSilent set_syntax
set_syntax_silent [] s = record { same = tt }
set_syntax_silent (c ∷ []) s = record { same = tt }
set_syntax_silent (c ∷ d ∷ rest) s =
    keeps_kind s (a_character c) _ (λ to. keeps_kind s (a_character d) _ (λ from.
    keeps_kind s (given_or a_keyword s.current_readtable rest) _ (λ n. keeps_kind s (given_or a_source standard_name (after_first rest)) _ (λ m.
    after_silent s t (state_with_readtables s (with_syntax s.readtables n to m from))))))

pub set_macro_silent : (names : List Name) → IsSilent (set_macro names)
set_macro_silent names [] s = record { same = tt }
set_macro_silent names (c ∷ []) s = record { same = tt }
set_macro_silent names (c ∷ f ∷ rest) s =
    keeps_kind s (a_character c) _ (λ at. keeps_kind s (a_keyword f) _ (λ function.
    keeps_kind s (given_or a_keyword s.current_readtable (after_first rest)) _ (λ n. changeable_silent s n _
    (function_silent s names function _ (after_silent s t (state_with_readtables s (with_macro s.readtables n at function (is_true (given_or_nil rest)))))))))

pub get_macro_silent : IsSilent get_macro
get_macro_silent [] s = record { same = tt }
get_macro_silent (c ∷ rest) s =
    keeps_kind s (a_character c) _ (λ at. keeps_kind s (given_or a_source s.current_readtable rest) _ (λ n. in_readtable_silent s n _ (λ table. record { same = λ _. refl })))

pub make_dispatch_silent : IsSilent make_dispatch
make_dispatch_silent [] s = record { same = tt }
make_dispatch_silent (c ∷ rest) s =
    keeps_kind s (a_character c) _ (λ at. keeps_kind s (given_or a_keyword s.current_readtable (after_first rest)) _ (λ n.
    after_silent s t (state_with_readtables s (with_dispatching s.readtables n at (is_true (given_or_nil rest))))))

pub set_dispatch_silent : (names : List Name) → IsSilent (set_dispatch names)
set_dispatch_silent names [] s = record { same = tt }
set_dispatch_silent names (c ∷ []) s = record { same = tt }
set_dispatch_silent names (c ∷ d ∷ []) s = record { same = tt }
set_dispatch_silent names (c ∷ d ∷ f ∷ rest) s =
    keeps_kind s (a_character c) _ (λ at. keeps_kind s (a_character d) _ (λ sub. keeps_kind s (a_keyword f) _ (λ function.
    keeps_kind s (given_or a_keyword s.current_readtable rest) _ (λ n. changeable_silent s n _
    (function_silent s names function _ (after_silent s t (state_with_readtables s (with_dispatch s.readtables n at sub function))))))))

pub get_dispatch_silent : IsSilent get_dispatch
get_dispatch_silent [] s = record { same = tt }
get_dispatch_silent (c ∷ []) s = record { same = tt }
get_dispatch_silent (c ∷ d ∷ rest) s =
    keeps_kind s (a_character c) _ (λ at. keeps_kind s (a_character d) _ (λ sub. keeps_kind s (given_or a_source s.current_readtable rest) _ (λ n.
    in_readtable_silent s n _ (λ table. keeps_if s (not (is_dispatching (entry_at table at))) _ _ (record { same = tt }) (record { same = λ _. refl })))))

-- ---- the base
pub set_base_silent : IsSilent set_base
set_base_silent (x ∷ []) s =
    keeps_kind s (an_integer x) _ (λ n. keeps_option s (a_base n) _ (Err INTEGER_RANGE) (λ base. record { same = written }) (record { same = tt }))
set_base_silent _ s = record { same = tt }
