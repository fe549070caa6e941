-- That a relation between the world before an operator and the world after it holds, where it holds of each change of property lists and
-- packages, and of every change that leaves these.
--     HoldsOfChanges      what is asked of each change
--     list_keeps .. set_base_keeps      the operators
use Rattle.std.proofs.Common.{◌≡◌, Bool, true, false, cond, not, ◌||◌, List, [], ◌∷◌, Option, Some, None, Ok, Err, Result, IfOk, bytes_eq, refl}
use Rattle.std.specs.Prelude.{nat_lt, unwrap_or, ◌+ℤ◌}
use Rattle.std.specs.List.{list_all, list_any}
use Rattle.std.specs.FinMap as finite
use Rattle.lisp_object.specs.Object.{Object, pair, nil, list_of, object_depth, object_size}
use Rattle.lisp_object.specs.declared.refusal.TheConstants.{NO_SUCH_PACKAGE, PACKAGE_IS_LOCKED, NO_READTABLE, NO_MACRO, INTEGER_RANGE}
use Rattle.readtable_core.specs.Tables as readtable
use Rattle.readtable_core.specs.Tables.{entry_at}
use Rattle.readtable_core.specs.Sound.{is_dispatching}
use Rattle.package_table.specs.declared.error.PackageError.{PackageError}
use Rattle.package_table.specs.Table.{Name, Table, keyword, is_locked, package_named}
use Rattle.package_table.specs.Changes.{after_make, after_intern, finds_this, intern_changes}
use Rattle.plist_state.specs.declared.error.ReadtableError.{ReadtableError}
use Rattle.plist_state.specs.declared.error.ReadtableError.TheVariants.{NoReadtable}
use Rattle.plist_state.specs.Properties.{Symbol}
use Rattle.plist_state.specs.State.{Readtables, WorldState, standard_name}
use Rattle.plist_state.specs.Changes.{plist, property, with_packages, with_property, without_property, after_in_readtable, with_case, with_macro, with_dispatching, with_dispatch, with_syntax, with_copy, state_with_readtables}
use Rattle.lisp_operators.specs.ArgumentKinds.{a_symbol, a_name, a_text, an_integer, a_character, a_keyword, a_source, a_case, one_or_each, given_or, given_or_nil, is_true}
use Rattle.lisp_operators.specs.Evaluation.{Evaluation, gives}
use Rattle.lisp_operators.specs.Properties.{t, if_within_limits, list, get, set, removed_property, remove, in_turn, symbol_plist, amount, is_in_range, increment, push}
use Rattle.lisp_operators.specs.Packages.{after_exports, after_imports, after_uses, in_package, made_package, make, enter, interned_symbol, intern, changed, unlocked, export, import, use_all, packages_named, use_package}
use Rattle.lisp_operators.specs.Readtables.{value_after, in_readtable, changeable, is_function, a_function, readtable_case, set_case, copy_readtable, enter_readtable, after_first, set_syntax, set_macro, get_macro, make_dispatch, set_dispatch, get_dispatch}
use Rattle.lisp_operators.specs.ReadBase.{a_base, set_base}
use Rattle.lisp_operators.proofs.Keeping as keeping
use Rattle.lisp_operators.proofs.Keeping.{keeps_if, keeps_kind, keeps_option}
use Rattle.form_eval.specs.Acceptance.{with_symbols_interned}

-- of the packages that changes one after the other make, if they make any
abbrev pub LeavesKept : (WorldState → WorldState → Type 0) → WorldState → Result (Table × Bool) PackageError → Type 0
LeavesKept Kept s r = IfOk r (λ made. Kept s (with_packages s made.0))

-- what is asked of each change of a world
pub record HoldsOfChanges (Kept : WorldState → WorldState → Type 0) : Type 0 where
  pub both : (s t u : WorldState) → Kept s t → Kept t u → Kept s u
  -- one that leaves the property lists and the packages
  pub still : (s t : WorldState) → t.properties ≡ s.properties → t.packages ≡ s.packages → Kept s t
  pub put : (s : WorldState) (x i : Symbol) (v : Object) → Kept s (with_property s x i v)
  pub removed : (s : WorldState) (x i : Symbol) → Kept s (without_property s x i)
  pub make : (s : WorldState) (n : Name) → IfOk (after_make s.packages n) (λ later. Kept s (with_packages s later))
  pub intern : (s : WorldState) (p n : Name) → IfOk (after_intern s.packages p n) (λ made. Kept s (with_packages s made.1))
  pub interns : (s : WorldState) (xs : List Symbol) → LeavesKept Kept s (with_symbols_interned s.packages xs)
  pub exports : (s : WorldState) (p : Name) (xs : List Symbol) → LeavesKept Kept s (after_exports s.packages p xs)
  pub imports : (s : WorldState) (p : Name) (xs : List Symbol) → LeavesKept Kept s (after_imports s.packages p xs)
  pub uses : (s : WorldState) (p : Name) (qs : List Name) → LeavesKept Kept s (after_uses s.packages p qs)

module _ (Kept : WorldState → WorldState → Type 0) (changes : HoldsOfChanges Kept) where
  abbrev Keeps : {A : Type 0} → WorldState → Evaluation A → Type 0
  Keeps = keeping.Keeps Kept

  abbrev pub IsKeeping : (List Object → WorldState → Evaluation Object) → Type 0
  IsKeeping function = (xs : List Object) (s : WorldState) → Keeps s (function xs s)

  pub same : (s : WorldState) → Kept s s
  same s = changes.still s s refl refl

  -- ---- property lists
  built_keeps : (s : WorldState) (x : Object) (on : Evaluation Object) → Keeps s on → Keeps s (if_within_limits x on)
  built_keeps s x on keeps = keeps_if Kept s (nat_lt 100 (object_depth x)) _ _ (record { kept = tt }) (keeps_if Kept s (nat_lt 1000000 (object_size x)) _ on (record { kept = tt }) keeps)

  pub list_keeps : IsKeeping list
  list_keeps xs s = built_keeps s (list_of xs) (gives (list_of xs) s) (record { kept = same s })

  pub get_keeps : IsKeeping get
  get_keeps [] s = record { kept = tt }
  get_keeps (x ∷ []) s = record { kept = tt }
  get_keeps (x ∷ i ∷ rest) s = keeps_kind Kept s (a_symbol x) _ (λ x'. keeps_kind Kept s (a_symbol i) _ (λ i'. record { kept = same s }))

  pub set_keeps : IsKeeping set
  set_keeps (x ∷ i ∷ v ∷ []) s = keeps_kind Kept s (a_symbol x) _ (λ x'. keeps_kind Kept s (a_symbol i) _ (λ i'. record { kept = changes.put s x' i' v }))
  set_keeps _ s = record { kept = tt }

  removed_keeps : (o : Option Object) (s later : WorldState) → Kept s later → Keeps s (removed_property o s later)
  removed_keeps None s later kept = record { kept = same s }
  removed_keeps (Some v) s later kept = record { kept = kept }

  pub remove_keeps : IsKeeping remove
  remove_keeps (x ∷ i ∷ []) s = keeps_kind Kept s (a_symbol x) _ (λ x'. keeps_kind Kept s (a_symbol i) _ (λ i'. removed_keeps (property s x' i') s (without_property s x' i') (changes.removed s x' i')))
  remove_keeps _ s = record { kept = tt }

  pub symbol_plist_keeps : IsKeeping symbol_plist
  symbol_plist_keeps (x ∷ []) s = keeps_kind Kept s (a_symbol x) _ (λ x'. list_keeps (in_turn (plist s x')) s)
  symbol_plist_keeps _ s = record { kept = tt }

  pub increment_keeps : IsKeeping increment
  increment_keeps (x ∷ i ∷ rest) s =
      keeps_kind Kept s (a_symbol x) _ (λ x'. keeps_kind Kept s (a_symbol i) _ (λ i'. keeps_kind Kept s (amount rest) _ (λ n.
      keeps_kind Kept s (an_integer (unwrap_or (property s x' i') nil)) _ (λ m. keeps_if Kept s (is_in_range (m +ℤ n)) _ _ (record { kept = changes.put s x' i' _ }) (record { kept = tt })))))
  increment_keeps _ s = record { kept = tt }

  pub push_keeps : IsKeeping push
  push_keeps (v ∷ x ∷ i ∷ []) s = keeps_kind Kept s (a_symbol x) _ (λ x'. keeps_kind Kept s (a_symbol i) _ (λ i'.
      built_keeps s (pair v (unwrap_or (property s x' i') nil)) _ (record { kept = changes.put s x' i' _ })))
  push_keeps _ s = record { kept = tt }

  -- ---- packages
  in_package_keeps : {A : Type 0} (s : WorldState) (n : Name) (on : Name → Evaluation A) → ((p : Name) → Keeps s (on p)) → Keeps s (in_package s n on)
  in_package_keeps s n on each = keeps_option Kept s (package_named s.packages n) on (Err NO_SUCH_PACKAGE) each (record { kept = tt })

  made_keeps : (s : WorldState) (n : Name) (r : Result Table PackageError) → IfOk r (λ later. Kept s (with_packages s later)) → Keeps s (made_package s n r)
  made_keeps s n (Ok packages) kept = record { kept = kept }
  made_keeps s n (Err e) kept = record { kept = tt }

  pub make_keeps : IsKeeping make
  make_keeps (x ∷ []) s = keeps_kind Kept s (a_name x) _ (λ n. made_keeps s n (after_make s.packages n) (changes.make s n))
  make_keeps _ s = record { kept = tt }

  pub enter_keeps : (x : Object) (s : WorldState) → Keeps s (enter x s)
  enter_keeps x s = keeps_kind Kept s (a_name x) _ (λ n. in_package_keeps s n _ (λ p. record { kept = changes.still s _ refl refl }))

  interned_keeps : (s : WorldState) (n : Name) (is_new : Bool) (r : Result (Name × Table) PackageError) → IfOk r (λ made. Kept s (with_packages s made.1)) → Keeps s (interned_symbol s n is_new r)
  interned_keeps s n is_new (Ok p) kept = record { kept = kept }
  interned_keeps s n is_new (Err e) kept = record { kept = tt }

  pub intern_keeps : IsKeeping intern
  intern_keeps [] s = record { kept = tt }
  intern_keeps (x ∷ rest) s =
      keeps_kind Kept s (a_text x) _ (λ n. keeps_kind Kept s (given_or a_name s.current_package rest) _ (λ q. in_package_keeps s q _ (λ p.
      interned_keeps s n (intern_changes s.packages p n) (after_intern s.packages p n) (changes.intern s p n))))

  changed_keeps : (s : WorldState) (r : Result (Table × Bool) PackageError) → LeavesKept Kept s r → Keeps s (changed s r)
  changed_keeps s (Ok p) kept = record { kept = kept }
  changed_keeps s (Err e) kept = record { kept = tt }

  unlocked_keeps : {A : Type 0} (s : WorldState) (p : Name) (on : Evaluation A) → Keeps s on → Keeps s (unlocked p on)
  unlocked_keeps s p on keeps = keeps_if Kept s (is_locked p) (Err PACKAGE_IS_LOCKED) on (record { kept = tt }) keeps

  pub export_keeps : IsKeeping export
  export_keeps [] s = record { kept = tt }
  export_keeps (x ∷ rest) s =
      keeps_kind Kept s (one_or_each a_symbol x) _ (λ xs. keeps_kind Kept s (given_or a_name s.current_package rest) _ (λ q. in_package_keeps s q _ (λ p. unlocked_keeps s p _
      (keeps_if Kept s (not (list_all (λ (y : Symbol). finds_this s.packages p y.0 y.1) xs)) _ _ (record { kept = tt })
      (changed_keeps s (after_exports s.packages p xs) (changes.exports s p xs))))))

  pub import_keeps : IsKeeping import
  import_keeps [] s = record { kept = tt }
  import_keeps (x ∷ rest) s =
      keeps_kind Kept s (one_or_each a_symbol x) _ (λ xs. keeps_kind Kept s (given_or a_name s.current_package rest) _ (λ q. in_package_keeps s q _ (λ p. unlocked_keeps s p _
      (changed_keeps s (after_imports s.packages p xs) (changes.imports s p xs)))))

  use_all_keeps : (s : WorldState) (p : Name) (qs : List Name) → Keeps s (use_all s p qs)
  use_all_keeps s p qs =
      keeps_if Kept s (is_locked p || list_any (bytes_eq keyword) qs) _ _ (record { kept = tt })
      (changed_keeps s (after_uses s.packages p qs) (changes.uses s p qs))

  pub use_keeps : IsKeeping use_package
  use_keeps [] s = record { kept = tt }
  use_keeps (x ∷ rest) s =
      keeps_kind Kept s (one_or_each a_name x) _ (λ ns. keeps_kind Kept s (given_or a_name s.current_package rest) _ (λ q.
      keeps_option Kept s (packages_named s.packages ns) _ (Err NO_SUCH_PACKAGE) (λ qs. in_package_keeps s q _ (λ p. use_all_keeps s p qs)) (record { kept = tt })))

  -- ---- readtables
  readtables_keep : (s : WorldState) (x : Object) (r : Result Readtables ReadtableError) → Keeps s (value_after s x (state_with_readtables s r))
  readtables_keep s x (Ok later) = record { kept = changes.still s _ refl refl }
  readtables_keep s x (Err e) = record { kept = tt }

  entered_keeps : (s : WorldState) (n : Name) (x : Object) → Keeps s (value_after s x (after_in_readtable s n))
  entered_keeps s n x =
      elim (finite.contains_key s.readtables n) as (λ b. Keeps s (value_after s x (cond b (Ok (record s { current_readtable = n })) (Err NoReadtable)))) [
        | true ↦ record { kept = changes.still s _ refl refl }
        | false ↦ record { kept = tt }
      ]

  in_readtable_keeps : (s : WorldState) (n : Name) (on : readtable.Table → Evaluation Object) → ((table : readtable.Table) → Keeps s (on table)) → Keeps s (in_readtable s n on)
  in_readtable_keeps s n on each = keeps_option Kept s (finite.get s.readtables n) on (Err NO_READTABLE) each (record { kept = tt })

  changeable_keeps : (s : WorldState) (n : Name) (on : Evaluation Object) → Keeps s on → Keeps s (changeable s n on)
  changeable_keeps s n on keeps = in_readtable_keeps s n _ (λ table. keeps_if Kept s (bytes_eq n standard_name) _ on (record { kept = tt }) keeps)

  function_keeps : (names : List Name) (s : WorldState) (f : Name) (on : Evaluation Object) → Keeps s on → Keeps s (a_function names f on)
  function_keeps names s f on keeps = keeps_if Kept s (is_function names f) on (Err NO_MACRO) keeps (record { kept = tt })

  pub case_keeps : IsKeeping readtable_case
  case_keeps (r ∷ []) s = keeps_kind Kept s (a_keyword r) _ (λ n. in_readtable_keeps s n _ (λ table. record { kept = same s }))
  case_keeps _ s = record { kept = tt }

  pub set_case_keeps : IsKeeping set_case
  set_case_keeps (r ∷ k ∷ []) s = keeps_kind Kept s (a_keyword r) _ (λ n. keeps_kind Kept s (a_case k) _ (λ letters. readtables_keep s k (with_case s.readtables n letters)))
  set_case_keeps _ s = record { kept = tt }

  pub copy_keeps : IsKeeping copy_readtable
  copy_keeps (z ∷ k ∷ []) s = keeps_kind Kept s (a_source z) _ (λ m. keeps_kind Kept s (a_keyword k) _ (λ n. readtables_keep s k (with_copy s.readtables m n)))
  copy_keeps _ s = record { kept = tt }

  pub enter_readtable_keeps : IsKeeping enter_readtable
  enter_readtable_keeps (r ∷ []) s = keeps_kind Kept s (a_keyword r) _ (λ n. entered_keeps s n r)
  enter_readtable_keeps _ s = record { kept = tt }

  pub set_syntax_keeps : IsKeeping set_syntax
  set_syntax_keeps [] s = record { kept = tt }
  set_syntax_keeps (c ∷ []) s = record { kept = tt }
  set_syntax_keeps (c ∷ d ∷ rest) s =
      keeps_kind Kept s (a_character c) _ (λ to. keeps_kind Kept s (a_character d) _ (λ from.
      keeps_kind Kept s (given_or a_keyword s.current_readtable rest) _ (λ n. keeps_kind Kept s (given_or a_source standard_name (after_first rest)) _ (λ m.
      readtables_keep s t (with_syntax s.readtables n to m from)))))

  pub set_macro_keeps : (names : List Name) → IsKeeping (set_macro names)
  set_macro_keeps names [] s = record { kept = tt }
  set_macro_keeps names (c ∷ []) s = record { kept = tt }
  set_macro_keeps names (c ∷ f ∷ rest) s =
      keeps_kind Kept s (a_character c) _ (λ at. keeps_kind Kept s (a_keyword f) _ (λ function.
      keeps_kind Kept s (given_or a_keyword s.current_readtable (after_first rest)) _ (λ n. changeable_keeps s n _
      (function_keeps names s function _ (readtables_keep s t (with_macro s.readtables n at function (is_true (given_or_nil rest))))))))

  pub get_macro_keeps : IsKeeping get_macro
  get_macro_keeps [] s = record { kept = tt }
  get_macro_keeps (c ∷ rest) s =
      keeps_kind Kept s (a_character c) _ (λ at. keeps_kind Kept s (given_or a_source s.current_readtable rest) _ (λ n. in_readtable_keeps s n _ (λ table. record { kept = same s })))

  pub make_dispatch_keeps : IsKeeping make_dispatch
  make_dispatch_keeps [] s = record { kept = tt }
  make_dispatch_keeps (c ∷ rest) s =
      keeps_kind Kept s (a_character c) _ (λ at. keeps_kind Kept s (given_or a_keyword s.current_readtable (after_first rest)) _ (λ n.
      readtables_keep s t (with_dispatching s.readtables n at (is_true (given_or_nil rest)))))

  pub set_dispatch_keeps : (names : List Name) → IsKeeping (set_dispatch names)
  set_dispatch_keeps names [] s = record { kept = tt }
  set_dispatch_keeps names (c ∷ []) s = record { kept = tt }
  set_dispatch_keeps names (c ∷ d ∷ []) s = record { kept = tt }
  set_dispatch_keeps names (c ∷ d ∷ f ∷ rest) s =
      keeps_kind Kept s (a_character c) _ (λ at. keeps_kind Kept s (a_character d) _ (λ sub. keeps_kind Kept s (a_keyword f) _ (λ function.
      keeps_kind Kept s (given_or a_keyword s.current_readtable rest) _ (λ n. changeable_keeps s n _
      (function_keeps names s function _ (readtables_keep s t (with_dispatch s.readtables n at sub function)))))))

  pub get_dispatch_keeps : IsKeeping get_dispatch
  get_dispatch_keeps [] s = record { kept = tt }
  get_dispatch_keeps (c ∷ []) s = record { kept = tt }
  get_dispatch_keeps (c ∷ d ∷ rest) s =
      keeps_kind Kept s (a_character c) _ (λ at. keeps_kind Kept s (a_character d) _ (λ sub. keeps_kind Kept s (given_or a_source s.current_readtable rest) _ (λ n.
      in_readtable_keeps s n _ (λ table. keeps_if Kept s (not (is_dispatching (entry_at table at))) _ _ (record { kept = tt }) (record { kept = same s })))))

  -- ---- the base
  pub set_base_keeps : IsKeeping set_base
  set_base_keeps (x ∷ []) s = keeps_kind Kept s (an_integer x) _ (λ n. keeps_option Kept s (a_base n) _ (Err INTEGER_RANGE) (λ base. record { kept = changes.still s _ refl refl }) (record { kept = tt }))
  set_base_keeps _ s = record { kept = tt }
