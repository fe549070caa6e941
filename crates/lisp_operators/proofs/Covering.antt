-- That no operator leaves readtables which name other functions than those that may be named.
--     Covers      what is said of two states
--     covering      what each change keeps
use Rattle.std.proofs.Common.{◌≡◌, ℕ, Bool, true, false, cond, not, ◌&&◌, ◌||◌, List, Option, Some, None, Ok, Err, Result, bytes_eq, refl, sym, subst, ◌∙◌}
use Rattle.std.specs.Prelude.{nat_le}
use Rattle.std.specs.List.{list_all}
use Rattle.std.specs.Option.{option_map_or}
use Rattle.std.specs.FinMap as finite
use Rattle.std.specs.Ordering.{eq_by_cmp}
use Rattle.std.specs.FinMap.{get-insert}
use Rattle.std.proofs.lemmas.Bool.{and_parts, and_from}
use Rattle.readtable_core.specs.declared.table.Case.{Case}
use Rattle.readtable_core.specs.Names.{is_among, is_standard, is_dispatch_name}
use Rattle.readtable_core.specs.NamedFunctions.{functions_of}
use Rattle.readtable_core.specs.Tables as readtable
use Rattle.readtable_core.specs.Tables.{entry_at}
use Rattle.readtable_core.specs.Changes.{with_character_entry, macro_entry, dispatching_entry, with_dispatch_function, dispatch_refusal}
use Rattle.readtable_core.proofs.Named.{named_after, named_at, named_with_function}
use Rattle.user_macros.specs.Registry.{is_covered}
use Rattle.package_table.specs.Table.{Name, name_cmp}
use Rattle.package_table.proofs.Names.{name_total}
use Rattle.plist_state.specs.declared.error.ReadtableError.{ReadtableError}
use Rattle.plist_state.specs.declared.error.ReadtableError.TheVariants.{NoReadtable, StandardReadtable, Limit}
use Rattle.plist_state.specs.State.{Readtables, WorldState, standard_name}
use Rattle.plist_state.specs.Changes.{put_changed, readtables_with_change, changed_readtable as changed_readtables, with_case, with_macro, with_dispatching, with_sub_function, readtable_error_of, with_dispatch, with_syntax, with_copy}
use Rattle.lisp_operators.specs.Readtables.{AreCovered, is_function}
use Rattle.lisp_operators.proofs.KeepingOperators as keeping
use Rattle.lisp_operators.proofs.KeepingOperators.{Changes}

module _ (names : List Name) where
  abbrev pub Covers : WorldState → WorldState → Type 0
  Covers s t = AreCovered names s.readtables → AreCovered names t.readtables

  -- all functions of a readtable may be named
  abbrev Good : readtable.Table → Type 0
  Good table = list_all (is_covered names) (functions_of table) ≡ true

  abbrev GoodAfter : Result readtable.Table ReadtableError → Type 0
  GoodAfter (Ok table) = Good table
  GoodAfter (Err e) = Unit {0}

  abbrev Leaves : Readtables → Result Readtables ReadtableError → Type 0
  Leaves m (Ok later) = AreCovered names m → AreCovered names later
  Leaves m (Err e) = Unit {0}

  inserted_leaves : (m : Readtables) (n : Name) (table : readtable.Table) → Good table → AreCovered names m → AreCovered names (finite.insert m n table)
  inserted_leaves m n table good all k found got =
      elim (eq_by_cmp name_cmp k n) as (λ b. cond b (Some table) (finite.get m k) ≡ Some found → Good found) [
        | true ↦ λ e. let same : table ≡ found = cc in subst Good same good
        | false ↦ λ e. all k found e
      ] (sym (get-insert name_total m n table k) ∙ got)

  module _ (m : Readtables) (n : Name) where
    put_leaves : (r : Result readtable.Table ReadtableError) → (AreCovered names m → GoodAfter r) → Leaves m (put_changed m n r)
    put_leaves (Ok table) good = λ all. inserted_leaves m n table (good all) all
    put_leaves (Err e) good = tt

    module _ (change : readtable.Table → Result readtable.Table ReadtableError) (each : AreCovered names m → (table : readtable.Table) → Good table → GoodAfter (change table)) where
      named_leaves : (b : Bool) (table : readtable.Table) → finite.get m n ≡ Some table → Leaves m (readtables_with_change m n change (cond b (Err StandardReadtable) (Ok table)))
      named_leaves true table there = tt
      named_leaves false table there = put_leaves (change table) (λ all. each all table (all n table there))

      found_leaves : (o : Option readtable.Table) → finite.get m n ≡ o
          → Leaves m (readtables_with_change m n change (option_map_or (λ table. cond (bytes_eq n standard_name) (Err StandardReadtable) (Ok table)) o (Err NoReadtable)))
      found_leaves None there = tt
      found_leaves (Some table) there = named_leaves (bytes_eq n standard_name) table there

      changed_leaves : Leaves m (changed_readtables m n change)
      changed_leaves = found_leaves (finite.get m n) refl

    case_leaves : (letters : Case) → Leaves m (with_case m n letters)
    case_leaves letters = changed_leaves (λ t. Ok (record t { letters = letters })) (λ all table good. good)

    -- a function that may be set may be named
    may_be_named : (f : Name) → is_function names f ≡ true → is_covered names f ≡ true
    may_be_named f is =
        let both = and_parts (not (is_dispatch_name f)) (is_standard f || is_among names f) is in
        elim (is_standard f) as (λ b. (b || is_among names f) ≡ true → (b || (is_dispatch_name f || is_among names f)) ≡ true) [
          | true ↦ λ _. refl
          | false ↦ λ among. elim (is_dispatch_name f) as (λ b. (b || is_among names f) ≡ true) [ true ↦ refl | false ↦ among ]
        ] both.1

    macro_leaves : (c : ℕ) (f : Name) (non_terminating : Bool) → is_function names f ≡ true → Leaves m (with_macro m n c f non_terminating)
    macro_leaves c f non_terminating is =
        changed_leaves (λ t. Ok (with_character_entry t c (macro_entry f non_terminating))) (λ all table good. named_after (is_covered names) table c (macro_entry f non_terminating) good (and_from (is_covered names f) true (may_be_named f is) refl))

    dispatching_leaves : (c : ℕ) (non_terminating : Bool) → Leaves m (with_dispatching m n c non_terminating)
    dispatching_leaves c non_terminating = changed_leaves (λ t. Ok (with_character_entry t c (dispatching_entry non_terminating))) (λ all table good. named_after (is_covered names) table c (dispatching_entry non_terminating) good refl)

    dispatched_good : (c sub : ℕ) (f : Name) → is_covered names f ≡ true → (table : readtable.Table) → Good table → GoodAfter (with_sub_function table c sub f)
    dispatched_good c sub f is table good =
        elim (dispatch_refusal table c sub) as (λ o. GoodAfter (option_map_or (λ r. Err (readtable_error_of r)) o (Ok (with_character_entry table c (with_dispatch_function (entry_at table c) sub f))))) [
          | Some refusal ↦ tt
          | None ↦ named_after (is_covered names) table c (with_dispatch_function (entry_at table c) sub f) good (named_with_function (is_covered names) (entry_at table c) sub f (named_at (is_covered names) table c good) is)
        ]

    dispatch_leaves : (c sub : ℕ) (f : Name) → is_function names f ≡ true → Leaves m (with_dispatch m n c sub f)
    dispatch_leaves c sub f is = changed_leaves (λ t. with_sub_function t c sub f) (λ all. dispatched_good c sub f (may_be_named f is))

    syntax_leaves : (c : ℕ) (o : Name) (d : ℕ) → Leaves m (with_syntax m n c o d)
    syntax_leaves c o d = from (finite.get m o) refl where
      from : (found : Option readtable.Table) → finite.get m o ≡ found → Leaves m (option_map_or (λ z. changed_readtables m n (λ t. Ok (with_character_entry t c (entry_at z d)))) found (Err NoReadtable))
      from None there = tt
      from (Some z) there =
          changed_leaves (λ t. Ok (with_character_entry t c (entry_at z d))) (λ all table good. named_after (is_covered names) table c (entry_at z d) good (named_at (is_covered names) z d (all o z there)))

  copy_leaves : (m : Readtables) (o n : Name) → Leaves m (with_copy m o n)
  copy_leaves m o n = from (finite.get m o) refl where
    full : Bool
    full = not (finite.contains_key m n) && nat_le 64 (finite.len m)

    into : (b c : Bool) (table : readtable.Table) → finite.get m o ≡ Some table → Leaves m (cond b (Err StandardReadtable) (cond c (Err Limit) (Ok (finite.insert m n table))))
    into true c table there = tt
    into false true table there = tt
    into false false table there = λ all. inserted_leaves m n table (all o table there) all

    from : (found : Option readtable.Table) → finite.get m o ≡ found
        → Leaves m (option_map_or (λ t. cond (bytes_eq n standard_name) (Err StandardReadtable) (cond full (Err Limit) (Ok (finite.insert m n t)))) found (Err NoReadtable))
    from None there = tt
    from (Some table) there = into (bytes_eq n standard_name) full table there

  in_state : (s : WorldState) (r : Result Readtables ReadtableError) → Leaves s.readtables r → keeping.Leaves Covers s r
  in_state s (Ok m) leaves = leaves
  in_state s (Err e) leaves = tt

  pub covering : Changes names Covers
  covering = record {
    none = λ s all. all;
    both = λ s t u before after all. after (before all);
    properties = λ s m all. all;
    packages = λ s u all. all;
    current_package = λ s n all. all;
    current_readtable = λ s n all. all;
    cases = λ s n letters. in_state s _ (case_leaves s.readtables n letters);
    macros = λ s n c f non_terminating is. in_state s _ (macro_leaves s.readtables n c f non_terminating is);
    dispatching = λ s n c non_terminating. in_state s _ (dispatching_leaves s.readtables n c non_terminating);
    dispatch = λ s n c sub f is. in_state s _ (dispatch_leaves s.readtables n c sub f is);
    syntax = λ s n c o d. in_state s _ (syntax_leaves s.readtables n c o d);
    copies = λ s o n. in_state s _ (copy_leaves s.readtables o n);
  }
