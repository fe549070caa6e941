-- That a relation between the state before an operator and the state after it holds, where it holds of each change.
--     Changes      what is asked of each change of a state
--     list_keeps .. get_dispatch_keeps      the operators
--     set_base_keeps      the one that changes the base
use Rattle.std.proofs.Common.{◌≡◌, ℕ, Bool, true, false, cond, not, ◌||◌, List, [], ◌∷◌, Option, Some, None, Ok, Err, Result, bytes_eq, refl}
use Rattle.std.specs.Prelude.{nat_lt, unwrap_or, ◌+ℤ◌}
use Rattle.std.specs.List.{list_all, list_any}
use Rattle.std.specs.FinMap as finite
use Rattle.lisp_object.specs.Object.{Object, pair, nil, list_of, object_depth, object_size}
use Rattle.lisp_object.specs.declared.refusal.TheConstants.{NO_SUCH_PACKAGE, PACKAGE_IS_LOCKED, NO_READTABLE, NO_MACRO, INTEGER_RANGE}
use Rattle.readtable_core.specs.declared.table.Case.{Case}
use Rattle.readtable_core.specs.Tables as readtable
use Rattle.readtable_core.specs.Tables.{entry_at}
use Rattle.readtable_core.specs.Sound.{is_dispatching}
use Rattle.package_table.specs.declared.error.PackageError.{PackageError}
use Rattle.package_table.specs.Table.{Name, Table, keyword, is_locked, package_named}
use Rattle.package_table.specs.Changes.{after_make, after_intern, finds_this, intern_changes}
use Rattle.plist_state.specs.declared.error.ReadtableError.{ReadtableError}
use Rattle.plist_state.specs.declared.error.ReadtableError.TheVariants.{NoReadtable}
use Rattle.plist_state.specs.Properties.{Symbol, Properties, with_value, with_list}
use Rattle.plist_state.specs.State.{Readtables, WorldState, standard_name}
use Rattle.plist_state.specs.Changes.{plist, property, without_property, with_packages, with_base, after_in_readtable, with_case, with_macro, with_dispatching, with_dispatch, with_syntax, with_copy, state_with_readtables}
use Rattle.lisp_operators.specs.ArgumentKinds.{a_symbol, a_name, a_text, an_integer, a_character, a_keyword, a_source, a_case, one_or_each, given_or, given_or_nil, is_true}
use Rattle.lisp_operators.specs.Evaluation.{Evaluation, gives}
use Rattle.lisp_operators.specs.Properties.{t, if_within_limits, list, get, set, removed_property, remove, in_turn, symbol_plist, amount, is_in_range, increment, push}
use Rattle.lisp_operators.specs.Packages.{in_package, made_package, make, enter, interned_symbol, intern, changed, unlocked, export, import, use_all, packages_named, use_package}
use Rattle.lisp_operators.specs.Readtables.{value_after, in_readtable, changeable, is_function, a_function, readtable_case, set_case, copy_readtable, enter_readtable, after_first, set_syntax, set_macro, get_macro, make_dispatch, set_dispatch, get_dispatch}
use Rattle.lisp_operators.specs.ReadBase.{a_base, set_base}
use Rattle.lisp_operators.proofs.Keeping as keeping
use Rattle.lisp_operators.proofs.Keeping.{keeps_if, keeps_kind, keeps_option}

-- of the readtables that a change makes in a state, if it makes any
abbrev pub Leaves : (WorldState → WorldState → Type 0) → WorldState → Result Readtables ReadtableError → Type 0
Leaves Kept s (Ok m) = Kept s (record s { readtables = m })
Leaves Kept s (Err e) = Unit {0}

-- What is asked of each change of a state but that of the base.
pub record Changes (names : List Name) (Kept : WorldState → WorldState → Type 0) : Type 0 where
  pub none : (s : WorldState) → Kept s s
  pub both : (s t u : WorldState) → Kept s t → Kept t u → Kept s u
  pub properties : (s : WorldState) (m : Properties) → Kept s (record s { properties = m })
  pub packages : (s : WorldState) (u : Table) → Kept s (with_packages s u)
  pub current_package : (s : WorldState) (n : Name) → Kept s (record s { current_package = n })
  pub current_readtable : (s : WorldState) (n : Name) → Kept s (record s { current_readtable = n })
  pub cases : (s : WorldState) (n : Name) (letters : Case) → Leaves Kept s (with_case s.readtables n letters)
  pub macros : (s : WorldState) (n : Name) (c : ℕ) (f : Name) (non_terminating : Bool) → is_function names f ≡ true → Leaves Kept s (with_macro s.readtables n c f non_terminating)
  pub dispatching : (s : WorldState) (n : Name) (c : ℕ) (non_terminating : Bool) → Leaves Kept s (with_dispatching s.readtables n c non_terminating)
  pub dispatch : (s : WorldState) (n : Name) (c sub : ℕ) (f : Name) → is_function names f ≡ true → Leaves Kept s (with_dispatch s.readtables n c sub f)
  pub syntax : (s : WorldState) (n : Name) (c : ℕ) (o : Name) (d : ℕ) → Leaves Kept s (with_syntax s.readtables n c o d)
  pub copies : (s : WorldState) (o n : Name) → Leaves Kept s (with_copy s.readtables o n)

module _ (names : List Name) (Kept : WorldState → WorldState → Type 0) (changes : Changes names Kept) where
  abbrev Keeps : {A : Type 0} → WorldState → Evaluation A → Type 0
  Keeps = keeping.Keeps Kept

  abbrev pub IsKeeping : (List Object → WorldState → Evaluation Object) → Type 0
  IsKeeping function = (xs : List Object) (s : WorldState) → Keeps s (function xs s)

  -- ---- property lists
  built_keeps : (s : WorldState) (x : Object) (on : Evaluation Object) → Keeps s on → Keeps s (if_within_limits x on)
  built_keeps s x on keeps = keeps_if Kept s (nat_lt 100 (object_depth x)) _ _ (record { kept = tt }) (keeps_if Kept s (nat_lt 1000000 (object_size x)) _ on (record { kept = tt }) keeps)

  pub list_keeps : IsKeeping list
  list_keeps xs s = built_keeps s (list_of xs) (gives (list_of xs) s) (record { kept = changes.none s })

  pub get_keeps : IsKeeping get
  get_keeps [] s = record { kept = tt }
  get_keeps (x ∷ []) s = record { kept = tt }
  get_keeps (x ∷ i ∷ rest) s = keeps_kind Kept s (a_symbol x) _ (λ x'. keeps_kind Kept s (a_symbol i) _ (λ i'. record { kept = changes.none s }))

  pub set_keeps : IsKeeping set
  set_keeps (x ∷ i ∷ v ∷ []) s = keeps_kind Kept s (a_symbol x) _ (λ x'. keeps_kind Kept s (a_symbol i) _ (λ i'. record { kept = changes.properties s (with_list s.properties x' (with_value (plist s x') i' v)) }))
  set_keeps _ s = record { kept = tt }

  removed_keeps : (o : Option Object) (s later : WorldState) → Kept s later → Keeps s (removed_property o s later)
  removed_keeps None s later kept = record { kept = changes.none s }
  removed_keeps (Some v) s later kept = record { kept = kept }

  pub remove_keeps : IsKeeping remove
  remove_keeps (x ∷ i ∷ []) s = keeps_kind Kept s (a_symbol x) _ (λ x'. keeps_kind Kept s (a_symbol i) _ (λ i'. removed_keeps (property s x' i') s (without_property s x' i') (changes.properties s _)))
  remove_keeps _ s = record { kept = tt }

  pub symbol_plist_keeps : IsKeeping symbol_plist
  symbol_plist_keeps (x ∷ []) s = keeps_kind Kept s (a_symbol x) _ (λ x'. list_keeps (in_turn (plist s x')) s)
  symbol_plist_keeps _ s = record { kept = tt }

  pub increment_keeps : IsKeeping increment
  increment_keeps (x ∷ i ∷ rest) s =
      keeps_kind Kept s (a_symbol x) _ (λ x'. keeps_kind Kept s (a_symbol i) _ (λ i'. keeps_kind Kept s (amount rest) _ (λ n.
      keeps_kind Kept s (an_integer (unwrap_or (property s x' i') nil)) _ (λ m. keeps_if Kept s (is_in_range (m +ℤ n)) _ _ (record { kept = changes.properties s _ }) (record { kept = tt })))))
  increment_keeps _ s = record { kept = tt }

  pub push_keeps : IsKeeping push
  push_keeps (v ∷ x ∷ i ∷ []) s = keeps_kind Kept s (a_symbol x) _ (λ x'. keeps_kind Kept s (a_symbol i) _ (λ i'.
      built_keeps s (pair v (unwrap_or (property s x' i') nil)) _ (record { kept = changes.properties s _ })))
  push_keeps _ s = record { kept = tt }

  -- ---- packages
  pub in_package_keeps : {A : Type 0} (s : WorldState) (n : Name) (on : Name → Evaluation A) → ((p : Name) → Keeps s (on p)) → Keeps s (in_package s n on)
  in_package_keeps s n on each = keeps_option Kept s (package_named s.packages n) on (Err NO_SUCH_PACKAGE) each (record { kept = tt })

  made_keeps : (s : WorldState) (n : Name) (r : Result Table PackageError) → Keeps s (made_package s n r)
  made_keeps s n (Ok packages) = record { kept = changes.packages s packages }
  made_keeps s n (Err e) = record { kept = tt }

  pub make_keeps : IsKeeping make
  make_keeps (x ∷ []) s = keeps_kind Kept s (a_name x) _ (λ n. made_keeps s n (after_make s.packages n))
  make_keeps _ s = record { kept = tt }

  pub enter_keeps : (x : Object) (s : WorldState) → Keeps s (enter x s)
  enter_keeps x s = keeps_kind Kept s (a_name x) _ (λ n. in_package_keeps s n _ (λ p. record { kept = changes.current_package s p }))

  interned_keeps : (s : WorldState) (n : Name) (is_new : Bool) (r : Result (Name × Table) PackageError) → Keeps s (interned_symbol s n is_new r)
  interned_keeps s n is_new (Ok p) = record { kept = changes.packages s p.1 }
  interned_keeps s n is_new (Err e) = record { kept = tt }

  pub intern_keeps : IsKeeping intern
  intern_keeps [] s = record { kept = tt }
  intern_keeps (x ∷ rest) s =
      keeps_kind Kept s (a_text x) _ (λ n. keeps_kind Kept s (given_or a_name s.current_package rest) _ (λ q. in_package_keeps s q _ (λ p.
      interned_keeps s n (intern_changes s.packages p n) (after_intern s.packages p n))))

  changed_keeps : (s : WorldState) (r : Result (Table × Bool) PackageError) → Keeps s (changed s r)
  changed_keeps s (Ok p) = record { kept = changes.packages s p.0 }
  changed_keeps s (Err e) = record { kept = tt }

  unlocked_keeps : {A : Type 0} (s : WorldState) (p : Name) (on : Evaluation A) → Keeps s on → Keeps s (unlocked p on)
  unlocked_keeps s p on keeps = keeps_if Kept s (is_locked p) (Err PACKAGE_IS_LOCKED) on (record { kept = tt }) keeps

  pub export_keeps : IsKeeping export
  export_keeps [] s = record { kept = tt }
  export_keeps (x ∷ rest) s =
      keeps_kind Kept s (one_or_each a_symbol x) _ (λ xs. keeps_kind Kept s (given_or a_name s.current_package rest) _ (λ q. in_package_keeps s q _ (λ p. unlocked_keeps s p _
      (keeps_if Kept s (not (list_all (λ (y : Symbol). finds_this s.packages p y.0 y.1) xs)) _ _ (record { kept = tt })
      (changed_keeps s _)))))

  pub import_keeps : IsKeeping import
  import_keeps [] s = record { kept = tt }
  import_keeps (x ∷ rest) s =
      keeps_kind Kept s (one_or_each a_symbol x) _ (λ xs. keeps_kind Kept s (given_or a_name s.current_package rest) _ (λ q. in_package_keeps s q _ (λ p. unlocked_keeps s p _
      (changed_keeps s _))))

  use_all_keeps : (s : WorldState) (p : Name) (qs : List Name) → Keeps s (use_all s p qs)
  use_all_keeps s p qs =
      keeps_if Kept s (is_locked p || list_any (bytes_eq keyword) qs) _ _ (record { kept = tt })
      (changed_keeps s _)

  pub use_keeps : IsKeeping use_package
  use_keeps [] s = record { kept = tt }
  use_keeps (x ∷ rest) s =
      keeps_kind Kept s (one_or_each a_name x) _ (λ ns. keeps_kind Kept s (given_or a_name s.current_package rest) _ (λ q.
      keeps_option Kept s (packages_named s.packages ns) _ (Err NO_SUCH_PACKAGE) (λ qs. in_package_keeps s q _ (λ p. use_all_keeps s p qs)) (record { kept = tt })))

  -- ---- readtables
  readtables_keep : (s : WorldState) (x : Object) (r : Result Readtables ReadtableError) → Leaves Kept s r → Keeps s (value_after s x (state_with_readtables s r))
  readtables_keep s x (Ok later) leaves = record { kept = leaves }
  readtables_keep s x (Err e) leaves = record { kept = tt }

  entered_keeps : (s : WorldState) (n : Name) (x : Object) → Keeps s (value_after s x (after_in_readtable s n))
  entered_keeps s n x =
      elim (finite.contains_key s.readtables n) as (λ b. Keeps s (value_after s x (cond b (Ok (record s { current_readtable = n })) (Err NoReadtable)))) [
        | true ↦ record { kept = changes.current_readtable s n }
        | false ↦ record { kept = tt }
      ]

  in_readtable_keeps : (s : WorldState) (n : Name) (on : readtable.Table → Evaluation Object) → ((table : readtable.Table) → Keeps s (on table)) → Keeps s (in_readtable s n on)
  in_readtable_keeps s n on each = keeps_option Kept s (finite.get s.readtables n) on (Err NO_READTABLE) each (record { kept = tt })

  changeable_keeps : (s : WorldState) (n : Name) (on : Evaluation Object) → Keeps s on → Keeps s (changeable s n on)
  changeable_keeps s n on keeps = in_readtable_keeps s n _ (λ table. keeps_if Kept s (bytes_eq n standard_name) _ on (record { kept = tt }) keeps)

  function_keeps : (s : WorldState) (f : Name) (on : Evaluation Object) → (is_function names f ≡ true → Keeps s on) → Keeps s (a_function names f on)
  function_keeps s f on keeps =
      elim (is_function names f) as (λ b. is_function names f ≡ b → Keeps s (cond b on (Err NO_MACRO))) [ true ↦ λ is. keeps is | false ↦ λ _. record { kept = tt } ] refl

  pub case_keeps : IsKeeping readtable_case
  case_keeps (r ∷ []) s = keeps_kind Kept s (a_keyword r) _ (λ n. in_readtable_keeps s n _ (λ table. record { kept = changes.none s }))
  case_keeps _ s = record { kept = tt }

  pub set_case_keeps : IsKeeping set_case
  set_case_keeps (r ∷ k ∷ []) s = keeps_kind Kept s (a_keyword r) _ (λ n. keeps_kind Kept s (a_case k) _ (λ letters. readtables_keep s k (with_case s.readtables n letters) (changes.cases s n letters)))
  set_case_keeps _ s = record { kept = tt }

  pub copy_keeps : IsKeeping copy_readtable
  copy_keeps (z ∷ k ∷ []) s = keeps_kind Kept s (a_source z) _ (λ m. keeps_kind Kept s (a_keyword k) _ (λ n. readtables_keep s k (with_copy s.readtables m n) (changes.copies s m n)))
  copy_keeps _ s = record { kept = tt }

  pub enter_readtable_keeps : IsKeeping enter_readtable
  enter_readtable_keeps (r ∷ []) s = keeps_kind Kept s (a_keyword r) _ (λ n. entered_keeps s n r)
  enter_readtable_keeps _ s = record { kept = tt }

  pub set_syntax_keeps : IsKeeping set_syntax
  set_syntax_keeps [] s = record { kept = tt }
  set_syntax_keeps (c ∷ []) s = record { kept = tt }
  set_syntax_keeps (c ∷ d ∷ rest) s =
      keeps_kind Kept s (a_character c) _ (λ to. keeps_kind Kept s (a_character d) _ (λ from.
      keeps_kind Kept s (given_or a_keyword s.current_readtable rest) _ (λ n. keeps_kind Kept s (given_or a_source standard_name (after_first rest)) _ (λ m.
      readtables_keep s t (with_syntax s.readtables n to m from) (changes.syntax s n to m from)))))

  pub set_macro_keeps : IsKeeping (set_macro names)
  set_macro_keeps [] s = record { kept = tt }
  set_macro_keeps (c ∷ []) s = record { kept = tt }
  set_macro_keeps (c ∷ f ∷ rest) s =
      keeps_kind Kept s (a_character c) _ (λ at. keeps_kind Kept s (a_keyword f) _ (λ function.
      keeps_kind Kept s (given_or a_keyword s.current_readtable (after_first rest)) _ (λ n. changeable_keeps s n _
      (function_keeps s function _ (λ is. readtables_keep s t (with_macro s.readtables n at function (is_true (given_or_nil rest))) (changes.macros s n at function (is_true (given_or_nil rest)) is))))))

  pub get_macro_keeps : IsKeeping get_macro
  get_macro_keeps [] s = record { kept = tt }
  get_macro_keeps (c ∷ rest) s =
      keeps_kind Kept s (a_character c) _ (λ at. keeps_kind Kept s (given_or a_source s.current_readtable rest) _ (λ n. in_readtable_keeps s n _ (λ table. record { kept = changes.none s })))

  pub make_dispatch_keeps : IsKeeping make_dispatch
  make_dispatch_keeps [] s = record { kept = tt }
  make_dispatch_keeps (c ∷ rest) s =
      keeps_kind Kept s (a_character c) _ (λ at. keeps_kind Kept s (given_or a_keyword s.current_readtable (after_first rest)) _ (λ n.
      readtables_keep s t (with_dispatching s.readtables n at (is_true (given_or_nil rest))) (changes.dispatching s n at (is_true (given_or_nil rest)))))

  pub set_dispatch_keeps : IsKeeping (set_dispatch names)
  set_dispatch_keeps [] s = record { kept = tt }
  set_dispatch_keeps (c ∷ []) s = record { kept = tt }
  set_dispatch_keeps (c ∷ d ∷ []) s = record { kept = tt }
  set_dispatch_keeps (c ∷ d ∷ f ∷ rest) s =
      keeps_kind Kept s (a_character c) _ (λ at. keeps_kind Kept s (a_character d) _ (λ sub. keeps_kind Kept s (a_keyword f) _ (λ function.
      keeps_kind Kept s (given_or a_keyword s.current_readtable rest) _ (λ n. changeable_keeps s n _
      (function_keeps s function _ (λ is. readtables_keep s t (with_dispatch s.readtables n at sub function) (changes.dispatch s n at sub function is)))))))

  pub get_dispatch_keeps : IsKeeping get_dispatch
  get_dispatch_keeps [] s = record { kept = tt }
  get_dispatch_keeps (c ∷ []) s = record { kept = tt }
  get_dispatch_keeps (c ∷ d ∷ rest) s =
      keeps_kind Kept s (a_character c) _ (λ at. keeps_kind Kept s (a_character d) _ (λ sub. keeps_kind Kept s (given_or a_source s.current_readtable rest) _ (λ n.
      in_readtable_keeps s n _ (λ table. keeps_if Kept s (not (is_dispatching (entry_at table at))) _ _ (record { kept = tt }) (record { kept = changes.none s })))))

  -- ---- the base
  pub set_base_keeps : ((s : WorldState) (n : ℕ) → Kept s (with_base s n)) → IsKeeping set_base
  set_base_keeps kept (x ∷ []) s =
      keeps_kind Kept s (an_integer x) _ (λ n. keeps_option Kept s (a_base n) _ (Err INTEGER_RANGE) (λ base. record { kept = kept s base }) (record { kept = tt }))
  set_base_keeps kept _ s = record { kept = tt }
