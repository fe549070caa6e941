-- Forms of the operators of PAZTURROK that decide, look up, or change a place, and what each gives; what a row needs of the state,
-- it asks for.
use Rattle.std.proofs.Common.{◌≡◌, true, false, [], ◌∷◌, map, negsuc, codes, Some, None, Ok, Err, refl}
use Rattle.std.specs.FinMap as finite
use Rattle.lisp_object.specs.Object.{integer, text, symbol, pair, nil, list_of}
use Rattle.package_table.specs.Lookup.{home_by_name}
use Rattle.package_table.specs.Readers.{package_names}
use Rattle.plist_state.specs.State.{WorldState}
use Rattle.plist_state.specs.Changes.{property, with_property}
use Rattle.lisp_operators.specs.Evaluation.{Evaluation, gives, writes, also}
use Rattle.lisp_operators.specs.Properties.{t, list}
use Rattle.lisp_operators.specs.LookUps.{names_with}
use Rattle.value_functions.specs.Functions.{function_named}
use Rattle.evaluator.specs.Value.{value, value_over}
use Rattle.evaluator.proofs.RowForms.{property_put, own, named, call, own_call, quoted, number, a_symbol, b_symbol, a, b, place, place_or}

nothing_written : {A : Type 0} (o : Evaluation A) → also false o ≡ o
nothing_written (Ok d) = refl
nothing_written (Err code) = refl

module _ (s : WorldState) where
  -- ---- deciding
  none_false : value [] s (own_call (codes "AND") []) ≡ gives t s
  unfolding value_over
  none_false = refl

  false_first : value [] s (own_call (codes "AND") (number 1 ∷ nil ∷ own (codes "X") ∷ [])) ≡ gives nil s
  unfolding value_over
  false_first = refl

  true_first : value [] s (own_call (codes "OR") (nil ∷ number 2 ∷ own (codes "X") ∷ [])) ≡ gives (number 2) s
  unfolding value_over
  true_first = refl

  second_clause : value [] s (own_call (codes "COND") (list_of (nil ∷ own (codes "X") ∷ []) ∷ list_of (number 2 ∷ []) ∷ [])) ≡ gives (number 2) s
  unfolding value_over
  second_clause = refl

  no_clause : value [] s (own_call (codes "COND") (list_of (t ∷ []) ∷ nil ∷ [])) ≡ Err 33
  unfolding value_over
  no_clause = refl

  passed_over : value [] s (own_call (codes "UNLESS") (number 1 ∷ own (codes "X") ∷ [])) ≡ gives nil s
  unfolding value_over
  passed_over = refl

  first_kept : value [] s (own_call (codes "PROG1") (number 1 ∷ number 2 ∷ [])) ≡ gives (number 1) s
  unfolding value_over
  first_kept = refl

  failed : value [] s (own_call (codes "ASSERT") (nil ∷ own (codes "X") ∷ [])) ≡ Err 47
  unfolding value_over
  failed = refl

  -- ---- looking up
  module _ (p : finite.contains_key s.packages (codes "P") ≡ true) where
    symbol_found : home_by_name s.packages (codes "P") (codes "Q") ≡ Some (codes "R") → value [] s (own_call (codes "FIND-SYMBOL") (text (codes "Q") ∷ text (codes "P") ∷ [])) ≡ gives (symbol (codes "R") (codes "Q")) s
    unfolding value_over function_named
    symbol_found home = rw (p, home) refl

    no_symbol : home_by_name s.packages (codes "P") (codes "Q") ≡ None → value [] s (own_call (codes "FIND-SYMBOL") (text (codes "Q") ∷ text (codes "P") ∷ [])) ≡ gives nil s
    unfolding value_over function_named
    no_symbol none = rw (p, none) refl

    with_indicator : value [] s (own_call (codes "SYMBOLS-WITH") (b ∷ text (codes "P") ∷ [])) ≡ list (map (symbol (codes "P")) (names_with s b_symbol (codes "P"))) s
    unfolding value_over function_named
    with_indicator = rw p (nothing_written (list (map (symbol (codes "P")) (names_with s b_symbol (codes "P"))) s))

  no_package : finite.contains_key s.packages (codes "NO") ≡ false → value [] s (own_call (codes "FIND-SYMBOL") (text (codes "Q") ∷ text (codes "NO") ∷ [])) ≡ Err 34
  unfolding value_over function_named
  no_package none = rw none refl

  no_text : value [] s (own_call (codes "FIND-SYMBOL") (a ∷ number 1 ∷ [])) ≡ Err 33
  unfolding value_over function_named
  no_text = refl

  all_packages : value [] s (own_call (codes "LIST-ALL-PACKAGES") []) ≡ list (map text (package_names s.packages)) s
  unfolding value_over function_named
  all_packages = nothing_written (list (map text (package_names s.packages)) s)

  takes_none : value [] s (own_call (codes "LIST-ALL-PACKAGES") (own (codes "X") ∷ [])) ≡ Err 32
  unfolding value_over function_named
  takes_none = refl

  -- ---- places with a default
  counted : property s a_symbol b_symbol ≡ None → value [] s (own_call (codes "INCF") (place_or (number 0) ∷ [])) ≡ writes (number 1) (with_property s a_symbol b_symbol (number 1))
  unfolding value_over function_named
  counted none = rw none refl

  decreased : property s a_symbol b_symbol ≡ Some (number 5) → value [] s (own_call (codes "DECF") (place_or (number 0) ∷ number 7 ∷ []))
      ≡ writes (integer (negsuc 1)) (with_property s a_symbol b_symbol (integer (negsuc 1)))
  unfolding value_over function_named
  decreased five = rw five refl

  nothing_to_decrease : property s a_symbol b_symbol ≡ None → value [] s (own_call (codes "DECF") (place ∷ [])) ≡ Err 33
  unfolding value_over function_named
  nothing_to_decrease none = rw none refl

  beyond : property s a_symbol b_symbol ≡ Some (integer (negsuc 170141183460469231731687303715884105727)) → value [] s (own_call (codes "DECF") (place ∷ [])) ≡ Err 44
  unfolding value_over function_named
  beyond lowest = rw lowest refl

  -- the property is read after the arguments, the default among them
  read_late : value [] s (own_call (codes "INCF") (place_or (call (codes "SETF") (place ∷ number 5 ∷ [])) ∷ []))
      ≡ writes (number 6) (with_property (with_property s a_symbol b_symbol (number 5)) a_symbol b_symbol (number 6))
  unfolding value_over function_named
  read_late = rw (property_put s a_symbol b_symbol (number 5)) refl

  popped : property s a_symbol b_symbol ≡ Some (list_of (number 1 ∷ number 2 ∷ [])) → value [] s (own_call (codes "POP") (place ∷ []))
      ≡ writes (number 1) (with_property s a_symbol b_symbol (list_of (number 2 ∷ [])))
  unfolding value_over function_named
  popped two = rw two refl

  none_popped : property s a_symbol b_symbol ≡ None → value [] s (own_call (codes "POP") (place ∷ [])) ≡ writes nil (with_property s a_symbol b_symbol nil)
  unfolding value_over function_named
  none_popped none = rw none refl

  default_popped : property s a_symbol b_symbol ≡ None → value [] s (own_call (codes "POP") (place_or (quoted (pair (number 1) (number 2))) ∷ []))
      ≡ writes (number 1) (with_property s a_symbol b_symbol (number 2))
  unfolding value_over function_named
  default_popped none = rw none refl

  no_list : property s a_symbol b_symbol ≡ Some (number 7) → value [] s (own_call (codes "POP") (place ∷ [])) ≡ Err 33
  unfolding value_over function_named
  no_list seven = rw seven refl

  -- 33, then 32, before anything is evaluated
  symbol_as_place : value [] s (own_call (codes "POP") (own (codes "X") ∷ [])) ≡ Err 33
  unfolding value_over function_named
  symbol_as_place = refl

  case_as_place : value [] s (own_call (codes "INCF") (call (codes "READTABLE-CASE") (named (codes "USER") ∷ []) ∷ [])) ≡ Err 33
  unfolding value_over function_named
  case_as_place = refl

  short_place : value [] s (own_call (codes "DECF") (call (codes "GET") (own (codes "X") ∷ []) ∷ [])) ≡ Err 32
  unfolding value_over function_named
  short_place = refl

  long_place : value [] s (own_call (codes "POP") (call (codes "GET") (a ∷ b ∷ own (codes "X") ∷ nil ∷ []) ∷ [])) ≡ Err 32
  unfolding value_over function_named
  long_place = refl

  two_places : value [] s (own_call (codes "POP") (place ∷ place ∷ [])) ≡ Err 32
  unfolding value_over function_named
  two_places = refl
