-- Forms on packages and readtables, and what each gives; what a row needs of the state, it asks for.
use Rattle.std.proofs.Common.{◌≡◌, true, false, nat_le, [], ◌∷◌, codes, Some, None, Err, refl}
use Rattle.std.specs.FinMap as finite
use Rattle.lisp_object.specs.Object.{symbol, text, character, nil, list_of}
use Rattle.readtable_core.specs.declared.table.Case.TheVariants.{Invert}
use Rattle.readtable_core.specs.Tables as readtable
use Rattle.readtable_core.specs.Tables.{entry_at, dispatch_at}
use Rattle.readtable_core.specs.Cases.{case_name}
use Rattle.readtable_core.specs.Changes.{macro_entry, dispatching_entry, with_dispatch_function}
use Rattle.readtable_core.specs.Changes.{with_character_entry as with_entry_at}
use Rattle.readtable_core.specs.Sound.{is_dispatching}
use Rattle.package_table.specs.Table.{common_lisp, keyword, symbol_count, with_entry, with_used, with_new_package}
use Rattle.package_table.specs.Lookup.{home_by_name, is_present, is_external, is_used}
use Rattle.package_table.specs.Changes.{user_finds_other, with_external, finds_other_than_shown}
use Rattle.plist_state.specs.State.{WorldState, standard_name}
use Rattle.plist_state.specs.Changes.{with_packages}
use Rattle.lisp_operators.specs.Evaluation.{gives, writes}
use Rattle.lisp_operators.specs.Properties.{t}
use Rattle.lisp_operators.specs.Readtables.{name_or_nil}
use Rattle.evaluator.specs.Value.{value, value_over}
use Rattle.evaluator.proofs.RowForms.{own, named, call, quoted, number, a}

module _ (s : WorldState) where
  -- ---- packages
  no_name : value [] s (call (codes "MAKE-PACKAGE") (text [] ∷ [])) ≡ Err 33
  unfolding value_over
  no_name = refl

  not_quoted : value [] s (call (codes "IN-PACKAGE") (a ∷ [])) ≡ Err 33
  unfolding value_over
  not_quoted = refl

  module _ (lisp : finite.contains_key s.packages common_lisp ≡ true) where
    nickname_taken : value [] s (call (codes "MAKE-PACKAGE") (text (codes "CL") ∷ [])) ≡ Err 35
    unfolding value_over
    nickname_taken = rw lisp refl

    entered : value [] s (call (codes "IN-PACKAGE") (own (codes "CL") ∷ [])) ≡ writes (text common_lisp) (record s { current_package = common_lisp })
    unfolding value_over
    entered = rw lisp refl

    new_in_lisp : home_by_name s.packages common_lisp (codes "Q") ≡ None → value [] s (call (codes "INTERN") (text (codes "Q") ∷ text (codes "CL") ∷ [])) ≡ Err 36
    unfolding value_over
    new_in_lisp none = rw (lisp, none, lisp) refl

    locked_for_none : value [] s (call (codes "EXPORT") (nil ∷ text (codes "CL") ∷ [])) ≡ Err 36
    unfolding value_over
    locked_for_none = rw lisp refl

    uses_itself : value [] s (call (codes "USE-PACKAGE") (text (codes "CL") ∷ text (codes "CL") ∷ [])) ≡ Err 36
    unfolding value_over
    uses_itself = rw lisp refl

    second_keyword : finite.contains_key s.packages keyword ≡ true → finite.contains_key s.packages (codes "P") ≡ true
        → value [] s (call (codes "USE-PACKAGE") (quoted (list_of (text common_lisp ∷ text keyword ∷ [])) ∷ text (codes "P") ∷ [])) ≡ Err 36
    unfolding value_over
    second_keyword there p = rw (lisp, there, p) refl

    second_absent : finite.contains_key s.packages (codes "NO") ≡ false
        → value [] s (call (codes "USE-PACKAGE") (quoted (list_of (text common_lisp ∷ text (codes "NO") ∷ [])) ∷ text (codes "CL") ∷ [])) ≡ Err 34
    unfolding value_over
    second_absent absent = rw (lisp, absent) refl

    module _ (p : finite.contains_key s.packages (codes "P") ≡ true) where
      second_conflicts : is_used s.packages (codes "P") common_lisp ≡ true → is_used s.packages (codes "P") (codes "P") ≡ false → finite.contains_key s.packages (codes "Q") ≡ true
          → is_used s.packages (codes "P") (codes "Q") ≡ false → finds_other_than_shown s.packages (codes "P") (codes "Q") ≡ true
          → value [] s (call (codes "USE-PACKAGE") (quoted (list_of (text common_lisp ∷ text (codes "Q") ∷ [])) ∷ text (codes "P") ∷ [])) ≡ Err 37
      unfolding value_over
      second_conflicts used itself q not_used conflict = rw (lisp, q, p, lisp, p, used, q, p, not_used, conflict) refl

  no_package : finite.contains_key s.packages (codes "NO") ≡ false → value [] s (call (codes "IN-PACKAGE") (text (codes "NO") ∷ [])) ≡ Err 34
  unfolding value_over
  no_package none = rw none refl

  no_target : finite.contains_key s.packages (codes "NO") ≡ false → value [] s (call (codes "IMPORT") (nil ∷ text (codes "NO") ∷ [])) ≡ Err 34
  unfolding value_over
  no_target none = rw none refl

  kind_first : value [] s (call (codes "IMPORT") (number 1 ∷ number 2 ∷ [])) ≡ Err 33
  unfolding value_over
  kind_first = refl

  module _ (p : finite.contains_key s.packages (codes "P") ≡ true) where
    name_taken : value [] s (call (codes "MAKE-PACKAGE") (text (codes "P") ∷ [])) ≡ Err 35
    unfolding value_over
    name_taken = rw p refl

    all_none : value [] s (call (codes "EXPORT") (nil ∷ text (codes "P") ∷ [])) ≡ gives t s
    unfolding value_over
    all_none = rw p refl

    second_not_found : home_by_name s.packages (codes "P") (codes "A") ≡ Some (codes "COMMON-LISP-USER") → home_by_name s.packages (codes "P") (codes "B") ≡ None
        → value [] s (call (codes "EXPORT") (quoted (list_of (own (codes "A") ∷ own (codes "B") ∷ [])) ∷ text (codes "P") ∷ [])) ≡ Err 38
    unfolding value_over
    second_not_found first second = rw (p, first, second) refl

    -- another symbol of that name is found
    other_found : home_by_name s.packages (codes "P") (codes "A") ≡ Some (codes "P") → value [] s (call (codes "EXPORT") (a ∷ text (codes "P") ∷ [])) ≡ Err 38
    unfolding value_over
    other_found here = rw (p, here) refl

    user_conflicts : home_by_name s.packages (codes "P") (codes "A") ≡ Some (codes "COMMON-LISP-USER") → user_finds_other s.packages (codes "P") (codes "COMMON-LISP-USER") (codes "A") ≡ true
        → value [] s (call (codes "EXPORT") (a ∷ text (codes "P") ∷ [])) ≡ Err 37
    unfolding value_over
    user_conflicts first conflict = rw (p, first, p, conflict) refl

    second_other : home_by_name s.packages (codes "P") (codes "A") ≡ Some (codes "COMMON-LISP-USER") → is_present s.packages (codes "P") (codes "A") ≡ true → home_by_name s.packages (codes "P") (codes "B") ≡ Some (codes "P")
        → value [] s (call (codes "IMPORT") (quoted (list_of (own (codes "A") ∷ own (codes "B") ∷ [])) ∷ text (codes "P") ∷ [])) ≡ Err 37
    unfolding value_over
    second_other first present second = rw (p, p, first, present, p, second) refl

    exported : home_by_name s.packages (codes "P") (codes "A") ≡ Some (codes "COMMON-LISP-USER") → user_finds_other s.packages (codes "P") (codes "COMMON-LISP-USER") (codes "A") ≡ false
        → is_external s.packages (codes "P") (codes "A") ≡ false
        → value [] s (call (codes "EXPORT") (a ∷ text (codes "P") ∷ [])) ≡ writes t (with_packages s (with_external s.packages (codes "P") (codes "COMMON-LISP-USER") (codes "A")))
    unfolding value_over
    exported first alone hidden = rw (p, first, hidden, p, alone) refl

    -- a symbol that is inherited becomes present
    inherited_imported : home_by_name s.packages (codes "P") (codes "A") ≡ Some (codes "COMMON-LISP-USER") → is_present s.packages (codes "P") (codes "A") ≡ false
        → value [] s (call (codes "IMPORT") (a ∷ text (codes "P") ∷ []))
        ≡ writes t (with_packages s (with_entry s.packages (codes "P") (codes "A") (record { home = codes "COMMON-LISP-USER"; external = false })))
    unfolding value_over
    inherited_imported here absent = rw (p, absent, p, here) refl

    present_imported : home_by_name s.packages (codes "P") (codes "A") ≡ Some (codes "COMMON-LISP-USER") → is_present s.packages (codes "P") (codes "A") ≡ true
        → value [] s (call (codes "IMPORT") (a ∷ text (codes "P") ∷ [])) ≡ gives t s
    unfolding value_over
    present_imported here present = rw (p, present, p, here) refl

    made_in : home_by_name s.packages (codes "P") (codes "Q") ≡ None → nat_le 1000000 (symbol_count s.packages) ≡ false
        → value [] s (call (codes "INTERN") (text (codes "Q") ∷ text (codes "P") ∷ []))
        ≡ writes (symbol (codes "P") (codes "Q")) (with_packages s (with_entry s.packages (codes "P") (codes "Q") (record { home = codes "P"; external = false })))
    unfolding value_over
    made_in none room = rw (p, none, p, room) refl

    imported : home_by_name s.packages (codes "P") (codes "A") ≡ None → is_present s.packages (codes "P") (codes "A") ≡ false
        → value [] s (call (codes "IMPORT") (a ∷ text (codes "P") ∷ []))
        ≡ writes t (with_packages s (with_entry s.packages (codes "P") (codes "A") (record { home = codes "COMMON-LISP-USER"; external = false })))
    unfolding value_over
    imported none absent = rw (p, absent, p, none) refl

    used : finite.contains_key s.packages (codes "Q") ≡ true → is_used s.packages (codes "P") (codes "Q") ≡ false → finds_other_than_shown s.packages (codes "P") (codes "Q") ≡ false
        → value [] s (call (codes "USE-PACKAGE") (text (codes "Q") ∷ text (codes "P") ∷ [])) ≡ writes t (with_packages s (with_used s.packages (codes "P") (codes "Q")))
    unfolding value_over
    used q not_used alike = rw (q, p, not_used, p, q, alike) refl

    inherited : home_by_name s.packages (codes "P") (codes "CAR") ≡ Some (codes "L") → value [] s (call (codes "INTERN") (text (codes "CAR") ∷ text (codes "P") ∷ [])) ≡ gives (symbol (codes "L") (codes "CAR")) s
    unfolding value_over
    inherited here = rw (p, here, p) refl

    too_many : home_by_name s.packages (codes "P") (codes "Q") ≡ None → nat_le 1000000 (symbol_count s.packages) ≡ true → value [] s (call (codes "INTERN") (text (codes "Q") ∷ text (codes "P") ∷ [])) ≡ Err 46
    unfolding value_over
    too_many none full = rw (p, none, p, full) refl

  a_keyword_made : finite.contains_key s.packages keyword ≡ true → home_by_name s.packages keyword (codes "Q") ≡ None → nat_le 1000000 (symbol_count s.packages) ≡ false
      → value [] s (call (codes "INTERN") (text (codes "Q") ∷ text keyword ∷ [])) ≡ writes (named (codes "Q")) (with_packages s (with_entry s.packages keyword (codes "Q") (record { home = keyword; external = true })))
  unfolding value_over
  a_keyword_made there none room = rw (there, none, there, room) refl

  too_many_packages : finite.contains_key s.packages (codes "P") ≡ false → nat_le 1000 (finite.len s.packages) ≡ true → value [] s (call (codes "MAKE-PACKAGE") (text (codes "P") ∷ [])) ≡ Err 46
  unfolding value_over
  too_many_packages new full = rw (new, full) refl

  made : finite.contains_key s.packages (codes "P") ≡ false → nat_le 1000 (finite.len s.packages) ≡ false
      → value [] s (call (codes "MAKE-PACKAGE") (quoted (own (codes "P")) ∷ [])) ≡ writes (text (codes "P")) (with_packages s (with_new_package s.packages (codes "P")))
  unfolding value_over
  made new room = rw (new, room) refl

  -- ---- readtables
  no_table : finite.get s.readtables (codes "X") ≡ None → value [] s (call (codes "READTABLE-CASE") (named (codes "X") ∷ [])) ≡ Err 39
  unfolding value_over
  no_table none = rw none refl

  no_table_changed : finite.get s.readtables (codes "X") ≡ None → value [] s (call (codes "SET-MACRO-CHARACTER") (character 97 ∷ named (codes "NO") ∷ nil ∷ named (codes "X") ∷ [])) ≡ Err 39
  unfolding value_over
  no_table_changed none = rw none refl

  nil_no_name : value [] s (call (codes "READTABLE-CASE") (nil ∷ [])) ≡ Err 33
  unfolding value_over
  nil_no_name = refl

  no_case : value [] s (call (codes "SETF") (call (codes "READTABLE-CASE") (named (codes "X") ∷ []) ∷ named (codes "LOWER") ∷ [])) ≡ Err 33
  unfolding value_over
  no_case = refl

  module _ (table : readtable.Table) where
    module _ (there : finite.get s.readtables standard_name ≡ Some table) where
      standard_case : value [] s (call (codes "SETF") (call (codes "READTABLE-CASE") (named standard_name ∷ []) ∷ named (codes "INVERT") ∷ [])) ≡ Err 40
      unfolding value_over
      standard_case = rw there refl

      standard_first : value [] s (call (codes "SET-MACRO-CHARACTER") (character 97 ∷ named (codes "NO") ∷ nil ∷ named standard_name ∷ [])) ≡ Err 40
      unfolding value_over
      standard_first = rw there refl

      copied_over : value [] s (call (codes "COPY-READTABLE") (nil ∷ named standard_name ∷ [])) ≡ Err 40
      unfolding value_over
      copied_over = rw there refl

      copied : finite.contains_key s.readtables (codes "X") ≡ true
          → value [] s (call (codes "COPY-READTABLE") (nil ∷ named (codes "X") ∷ [])) ≡ writes (named (codes "X")) (record s { readtables = finite.insert s.readtables (codes "X") table })
      unfolding value_over
      copied old = rw (there, old) refl

      standard_first_macro : value [] s (call (codes "GET-MACRO-CHARACTER") (character 97 ∷ nil ∷ [])) ≡ gives (name_or_nil (entry_at table 97).function) s
      unfolding value_over
      standard_first_macro = rw there refl

      no_room : finite.contains_key s.readtables (codes "X") ≡ false → nat_le 64 (finite.len s.readtables) ≡ true → value [] s (call (codes "COPY-READTABLE") (nil ∷ named (codes "X") ∷ [])) ≡ Err 46
      unfolding value_over
      no_room new full = rw (there, new, full) refl

    module _ (there : finite.get s.readtables (codes "X") ≡ Some table) where
      a_case : value [] s (call (codes "READTABLE-CASE") (named (codes "X") ∷ [])) ≡ gives (named (case_name table.letters)) s
      unfolding value_over
      a_case = rw there refl

      no_function : value [] s (call (codes "SET-MACRO-CHARACTER") (character 97 ∷ named (codes "NO") ∷ nil ∷ named (codes "X") ∷ [])) ≡ Err 41
      unfolding value_over
      no_function = rw there refl

      dispatch_is_fixed : value [] s (call (codes "SET-MACRO-CHARACTER") (character 97 ∷ named (codes "STD-DISPATCH") ∷ nil ∷ named (codes "X") ∷ [])) ≡ Err 41
      unfolding value_over
      dispatch_is_fixed = rw there refl

      set_again : value (codes "SQUARE" ∷ []) s (call (codes "SET-MACRO-CHARACTER") (character 91 ∷ named (codes "SQUARE") ∷ nil ∷ named (codes "X") ∷ []))
          ≡ writes t (record s { readtables = finite.insert s.readtables (codes "X") (with_entry_at table 91 (macro_entry (codes "SQUARE") false)) })
      unfolding value_over
      set_again = rw there refl

      cased : value [] s (call (codes "SETF") (call (codes "READTABLE-CASE") (named (codes "X") ∷ []) ∷ named (codes "INVERT") ∷ []))
          ≡ writes (named (codes "INVERT")) (record s { readtables = finite.insert s.readtables (codes "X") (record table { letters = Invert }) })
      unfolding value_over
      cased = rw there refl

      not_dispatching : is_dispatching (entry_at table 97) ≡ false → value [] s (call (codes "SET-DISPATCH-MACRO-CHARACTER") (character 97 ∷ character 53 ∷ named (codes "STD-LIST") ∷ named (codes "X") ∷ [])) ≡ Err 42
      unfolding value_over
      not_dispatching none = rw (there, none) refl

      no_dispatch_to_get : is_dispatching (entry_at table 97) ≡ false → value [] s (call (codes "GET-DISPATCH-MACRO-CHARACTER") (character 97 ∷ character 53 ∷ named (codes "X") ∷ [])) ≡ Err 42
      unfolding value_over
      no_dispatch_to_get none = rw (there, none) refl

      digit : is_dispatching (entry_at table 97) ≡ true → value [] s (call (codes "SET-DISPATCH-MACRO-CHARACTER") (character 97 ∷ character 53 ∷ named (codes "STD-LIST") ∷ named (codes "X") ∷ [])) ≡ Err 43
      unfolding value_over
      digit dispatches = rw (there, dispatches) refl

      first_digit : is_dispatching (entry_at table 97) ≡ true
          → value [] s (call (codes "SET-DISPATCH-MACRO-CHARACTER") (character 97 ∷ character 48 ∷ named (codes "STD-LIST") ∷ named (codes "X") ∷ [])) ≡ Err 43
      unfolding value_over
      first_digit dispatches = rw (there, dispatches) refl

      dispatches_set : is_dispatching (entry_at table 97) ≡ true
          → value [] s (call (codes "SET-DISPATCH-MACRO-CHARACTER") (character 97 ∷ character 98 ∷ named (codes "STD-LIST") ∷ named (codes "X") ∷ []))
          ≡ writes t (record s { readtables = finite.insert s.readtables (codes "X") (with_entry_at table 97 (with_dispatch_function (entry_at table 97) 98 (codes "STD-LIST"))) })
      unfolding value_over
      dispatches_set dispatches = rw (there, dispatches) refl

      dispatches_got : is_dispatching (entry_at table 97) ≡ true
          → value [] s (call (codes "GET-DISPATCH-MACRO-CHARACTER") (character 97 ∷ character 98 ∷ named (codes "X") ∷ [])) ≡ gives (name_or_nil (dispatch_at table 97 98)) s
      unfolding value_over
      dispatches_got dispatches = rw (there, dispatches) refl

      dispatching_made : value [] s (call (codes "MAKE-DISPATCH-MACRO-CHARACTER") (character 64 ∷ t ∷ named (codes "X") ∷ []))
          ≡ writes t (record s { readtables = finite.insert s.readtables (codes "X") (with_entry_at table 64 (dispatching_entry true)) })
      unfolding value_over
      dispatching_made = rw there refl

      syntax_set : value [] s (call (codes "SET-SYNTAX-FROM-CHAR") (character 36 ∷ character 34 ∷ named (codes "X") ∷ named (codes "X") ∷ []))
          ≡ writes t (record s { readtables = finite.insert s.readtables (codes "X") (with_entry_at table 36 (entry_at table 34)) })
      unfolding value_over
      syntax_set = rw there refl

  table_entered : finite.contains_key s.readtables (codes "X") ≡ true → value [] s (call (codes "IN-READTABLE") (named (codes "X") ∷ [])) ≡ writes (named (codes "X")) (record s { current_readtable = codes "X" })
  unfolding value_over
  table_entered there = rw there refl

  no_table_entered : finite.contains_key s.readtables (codes "X") ≡ false → value [] s (call (codes "IN-READTABLE") (named (codes "X") ∷ [])) ≡ Err 39
  unfolding value_over
  no_table_entered none = rw none refl
