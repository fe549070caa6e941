-- Forms on data and properties, and what each gives, in any state; what a row needs of the state, it asks for.
use Rattle.std.proofs.Common.{◌≡◌, true, false, nat_lt, [], ◌∷◌, pos, negsuc, codes, Some, None, Err, refl}
use Rattle.lisp_object.specs.Object.{Object, integer, text, uninterned, pair, vector, nil, list_of, object_depth, object_size}
use Rattle.plist_state.specs.State.{WorldState}
use Rattle.plist_state.specs.Changes.{plist, property, with_property, without_property, with_base}
use Rattle.lisp_operators.specs.Evaluation.{gives, writes}
use Rattle.lisp_operators.specs.Properties.{t}
use Rattle.evaluator.specs.Value.{value, value_by, value_over}
use Rattle.evaluator.proofs.RowForms.{property_put, own, named, standard, call, quoted, number, a_symbol, b_symbol, a, b, place, base, nested}

module _ (s : WorldState) where
  -- ---- what gives itself
  keyword_itself : value [] s (named (codes "K")) ≡ gives (named (codes "K")) s
  unfolding value_over
  keyword_itself = refl

  t_itself : value [] s t ≡ gives t s
  unfolding value_over
  t_itself = refl

  nil_itself : value [] s nil ≡ gives nil s
  unfolding value_over
  nil_itself = refl

  vector_itself : value [] s (vector (own (codes "A"))) ≡ gives (vector (own (codes "A"))) s
  unfolding value_over
  vector_itself = refl

  current_package : value [] s (standard (codes "*PACKAGE*")) ≡ gives (text s.current_package) s
  unfolding value_over
  current_package = refl

  current_readtable : value [] s (standard (codes "*READTABLE*")) ≡ gives (named s.current_readtable) s
  unfolding value_over
  current_readtable = refl

  read_base : value [] s (standard (codes "*READ-BASE*")) ≡ gives (integer (pos s.read_base)) s
  unfolding value_over
  read_base = refl

  -- ---- 30
  variable : value [] s (own (codes "X")) ≡ Err 30
  unfolding value_over
  variable = refl

  no_value : value_by false [] s (standard (codes "*READ-BASE*")) ≡ Err 30
  unfolding value_over
  no_value = refl

  uninterned_symbol : value [] s (uninterned (codes "X")) ≡ Err 30
  unfolding value_over
  uninterned_symbol = refl

  dotted : value [] s (pair (standard (codes "QUOTE")) (number 1)) ≡ Err 30
  unfolding value_over
  dotted = refl

  number_at_head : value [] s (list_of (number 1 ∷ [])) ≡ Err 30
  unfolding value_over
  number_at_head = refl

  -- ---- 31, before 32
  unknown : value [] s (list_of (own (codes "FROB") ∷ own (codes "A") ∷ [])) ≡ Err 31
  unfolding value_over
  unknown = refl

  no_operator : value [] s (call (codes "FUNCTION") []) ≡ Err 31
  unfolding value_over
  no_operator = refl

  -- ---- 32, before 33
  one_argument : value [] s (call (codes "GET") (number 1 ∷ [])) ≡ Err 32
  unfolding value_over
  one_argument = refl

  four_arguments : value [] s (call (codes "IF") (t ∷ t ∷ t ∷ t ∷ [])) ≡ Err 32
  unfolding value_over
  four_arguments = refl

  -- ---- control
  empty_sequence : value [] s (call (codes "PROGN") []) ≡ gives nil s
  unfolding value_over
  empty_sequence = refl

  chosen : value [] s (call (codes "IF") (nil ∷ own (codes "X") ∷ number 2 ∷ [])) ≡ gives (number 2) s
  unfolding value_over
  chosen = refl

  last_of_sequence : value [] s (call (codes "PROGN") (t ∷ number 2 ∷ [])) ≡ gives (number 2) s
  unfolding value_over
  last_of_sequence = refl

  true_chosen : value [] s (call (codes "IF") (number 0 ∷ number 1 ∷ own (codes "X") ∷ [])) ≡ gives (number 1) s
  unfolding value_over
  true_chosen = refl

  not_chosen : value [] s (call (codes "IF") (nil ∷ own (codes "X") ∷ [])) ≡ gives nil s
  unfolding value_over
  not_chosen = refl

  -- ---- lists, and 45
  a_list : value [] s (call (codes "LIST") (number 1 ∷ a ∷ [])) ≡ gives (list_of (number 1 ∷ own (codes "A") ∷ [])) s
  unfolding value_over
  a_list = refl

  deepest : value [] s (call (codes "LIST") (quoted (nested 99) ∷ [])) ≡ gives (list_of (nested 99 ∷ [])) s
  unfolding value_over
  deepest = refl

  too_deep : value [] s (call (codes "LIST") (quoted (nested 100) ∷ [])) ≡ Err 45
  unfolding value_over
  too_deep = refl

  too_large : (x : Object) → nat_lt 100 (object_depth (list_of (x ∷ []))) ≡ false → nat_lt 1000000 (object_size (list_of (x ∷ []))) ≡ true
      → value [] s (call (codes "LIST") (quoted x ∷ [])) ≡ Err 46
  unfolding value_over
  too_large x shallow large = rw (shallow, large) refl

  -- ---- properties
  absent : property s a_symbol b_symbol ≡ None → value [] s place ≡ gives nil s
  unfolding value_over
  absent none = rw none refl

  present_property : property s a_symbol b_symbol ≡ Some (number 5) → value [] s (call (codes "GET") (a ∷ b ∷ number 1 ∷ [])) ≡ gives (number 5) s
  unfolding value_over
  present_property five = rw five refl

  in_its_place : property s a_symbol b_symbol ≡ None → value [] s (call (codes "GET") (a ∷ b ∷ number 1 ∷ [])) ≡ gives (number 1) s
  unfolding value_over
  in_its_place none = rw none refl

  stored : value [] s (call (codes "SETF") (place ∷ number 7 ∷ [])) ≡ writes (number 7) (with_property s a_symbol b_symbol (number 7))
  unfolding value_over
  stored = refl

  none_removed : property s a_symbol b_symbol ≡ None → value [] s (call (codes "REMPROP") (a ∷ b ∷ [])) ≡ gives nil s
  unfolding value_over
  none_removed none = rw none refl

  taken_away : property s a_symbol b_symbol ≡ Some (number 5) → value [] s (call (codes "REMPROP") (a ∷ b ∷ [])) ≡ writes t (without_property s a_symbol b_symbol)
  unfolding value_over
  taken_away five = rw five refl

  in_turn : plist s a_symbol ≡ (b_symbol, number 1) ∷ (a_symbol, number 2) ∷ []
      → value [] s (call (codes "SYMBOL-PLIST") (a ∷ [])) ≡ gives (list_of (own (codes "B") ∷ number 1 ∷ own (codes "A") ∷ number 2 ∷ [])) s
  unfolding value_over
  in_turn two = rw two refl

  increased : property s a_symbol b_symbol ≡ Some (number 5) → value [] s (call (codes "INCF") (place ∷ [])) ≡ writes (number 6) (with_property s a_symbol b_symbol (number 6))
  unfolding value_over
  increased five = rw five refl

  beyond : property s a_symbol b_symbol ≡ Some (integer (negsuc 170141183460469231731687303715884105727)) → value [] s (call (codes "INCF") (place ∷ integer (negsuc 0) ∷ [])) ≡ Err 44
  unfolding value_over
  beyond lowest = rw lowest refl

  beyond_above : property s a_symbol b_symbol ≡ Some (number 170141183460469231731687303715884105727) → value [] s (call (codes "INCF") (place ∷ [])) ≡ Err 44
  unfolding value_over
  beyond_above highest = rw highest refl

  nothing_to_increase : property s a_symbol b_symbol ≡ None → value [] s (call (codes "INCF") (place ∷ [])) ≡ Err 33
  unfolding value_over
  nothing_to_increase none = rw none refl

  -- the property is read after the arguments
  read_late : value [] s (call (codes "INCF") (place ∷ call (codes "PROGN") (call (codes "SETF") (place ∷ number 5 ∷ []) ∷ number 1 ∷ []) ∷ []))
      ≡ writes (number 6) (with_property (with_property s a_symbol b_symbol (number 5)) a_symbol b_symbol (number 6))
  unfolding value_over
  read_late = rw (property_put s a_symbol b_symbol (number 5)) refl

  pushed_late : value [] s (call (codes "PUSH") (call (codes "SETF") (place ∷ number 1 ∷ []) ∷ place ∷ []))
      ≡ writes (pair (number 1) (number 1)) (with_property (with_property s a_symbol b_symbol (number 1)) a_symbol b_symbol (pair (number 1) (number 1)))
  unfolding value_over
  pushed_late = rw (property_put s a_symbol b_symbol (number 1)) refl

  pushed : property s a_symbol b_symbol ≡ None → value [] s (call (codes "PUSH") (number 1 ∷ place ∷ []))
      ≡ writes (list_of (number 1 ∷ [])) (with_property s a_symbol b_symbol (list_of (number 1 ∷ [])))
  unfolding value_over
  pushed none = rw none refl

  too_deep_to_push : property s a_symbol b_symbol ≡ None → value [] s (call (codes "PUSH") (quoted (nested 100) ∷ place ∷ [])) ≡ Err 45
  unfolding value_over
  too_deep_to_push none = rw none refl

  -- ---- places: 33, then 32, before anything is evaluated
  symbol_as_place : value [] s (call (codes "SETF") (own (codes "A") ∷ own (codes "X") ∷ [])) ≡ Err 33
  unfolding value_over
  symbol_as_place = refl

  nil_as_place : value [] s (call (codes "SETF") (nil ∷ own (codes "X") ∷ [])) ≡ Err 33
  unfolding value_over
  nil_as_place = refl

  dotted_place : value [] s (call (codes "SETF") (pair (standard (codes "GET")) (number 1) ∷ own (codes "X") ∷ [])) ≡ Err 33
  unfolding value_over
  dotted_place = refl

  short_place : value [] s (call (codes "SETF") (call (codes "GET") (a ∷ []) ∷ own (codes "X") ∷ [])) ≡ Err 32
  unfolding value_over
  short_place = refl

  long_place : value [] s (call (codes "SETF") (call (codes "GET") (a ∷ b ∷ nil ∷ []) ∷ number 1 ∷ [])) ≡ Err 32
  unfolding value_over
  long_place = refl

  short_case : value [] s (call (codes "SETF") (call (codes "READTABLE-CASE") [] ∷ number 1 ∷ [])) ≡ Err 32
  unfolding value_over
  short_case = refl

  case_increased : value [] s (call (codes "INCF") (call (codes "READTABLE-CASE") (named (codes "USER") ∷ []) ∷ [])) ≡ Err 33
  unfolding value_over
  case_increased = refl

  short_increased : value [] s (call (codes "INCF") (call (codes "GET") (own (codes "X") ∷ []) ∷ [])) ≡ Err 32
  unfolding value_over
  short_increased = refl

  short_pushed : value [] s (call (codes "PUSH") (own (codes "X") ∷ call (codes "GET") [] ∷ [])) ≡ Err 32
  unfolding value_over
  short_pushed = refl

  variable_pushed : value [] s (call (codes "PUSH") (own (codes "X") ∷ place ∷ [])) ≡ Err 30
  unfolding value_over
  variable_pushed = refl

  base_increased : value [] s (call (codes "INCF") (base ∷ [])) ≡ Err 33
  unfolding value_over
  base_increased = refl

  base_pushed : value [] s (call (codes "PUSH") (own (codes "X") ∷ base ∷ [])) ≡ Err 33
  unfolding value_over
  base_pushed = refl

  no_place_before : value_by false [] s (call (codes "SETF") (base ∷ own (codes "X") ∷ [])) ≡ Err 33
  unfolding value_over
  no_place_before = refl

  -- ---- the read base: the value first, then 33, then 44
  base_set : value [] s (call (codes "SETF") (base ∷ number 36 ∷ [])) ≡ writes (number 36) (with_base s 36)
  unfolding value_over
  base_set = refl

  lowest_base : value [] s (call (codes "SETF") (base ∷ number 2 ∷ [])) ≡ writes (number 2) (with_base s 2)
  unfolding value_over
  lowest_base = refl

  base_of_variable : value [] s (call (codes "SETF") (base ∷ own (codes "X") ∷ [])) ≡ Err 30
  unfolding value_over
  base_of_variable = refl

  base_of_symbol : value [] s (call (codes "SETF") (base ∷ a ∷ [])) ≡ Err 33
  unfolding value_over
  base_of_symbol = refl

  base_too_large : value [] s (call (codes "SETF") (base ∷ number 37 ∷ [])) ≡ Err 44
  unfolding value_over
  base_too_large = refl

  base_too_small : value [] s (call (codes "SETF") (base ∷ number 1 ∷ [])) ≡ Err 44
  unfolding value_over
  base_too_small = refl

  negative_base : value [] s (call (codes "SETF") (base ∷ integer (negsuc 15) ∷ [])) ≡ Err 44
  unfolding value_over
  negative_base = refl
