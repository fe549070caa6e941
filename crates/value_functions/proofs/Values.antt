-- What the functions give.
--     call_storable      of values that may be stored, it may be stored
--     call_numbered      a refusal has a number of evaluation
use Rattle.std.proofs.Common.{◌≡◌, ◌≤◌, ◌^◌, ◌<◌, ℕ, zero, suc, ℤ, pos, negsuc, Bool, true, false, cond, List, [], ◌∷◌, All, map, Option, Some, None, is_some, bytes_eq, int_div, Ok, Err, FitsSigned, nat_lt, refl, subst, arith}
use Rattle.std.specs.Int.{w128}
use Rattle.std.specs.List.{list_all}
use Rattle.std.specs.Option.{option_map_or}
use Rattle.std.specs.Ordering.{int_eq}
use Rattle.std.proofs.lemmas.Bool.{ltb-false, ltb-true}
use Rattle.std.proofs.lemmas.List.Elements.{All-head, All-tail}
use Rattle.lisp_object.specs.Object.{Object, integer, text, symbol, uninterned, pair, vector, nil, is_nil, object_is_list, list_of, object_depth, object_size}
use Rattle.package_table.specs.Table as packages
use Rattle.package_table.proofs.Names.{same_some, none_some}
use Rattle.plist_state.specs.Sound.{IsValue}
use Rattle.lisp_operators.specs.ArgumentKinds.{is_pair, an_integer}
use Rattle.lisp_operators.specs.Properties.{t, is_in_range}
use Rattle.lisp_operators.proofs.Storable.{AreValues, t_value, nil_value, text_value, value_parts, pair_value}
use Rattle.value_functions.specs.declared.functions.ValueFunction.{ValueFunction}
use Rattle.value_functions.specs.declared.functions.ValueFunction.TheVariants as function
use Rattle.value_functions.specs.declared.functions.Extreme.{Extreme}
use Rattle.value_functions.specs.declared.functions.Arithmetic.{Arithmetic}
use Rattle.value_functions.specs.declared.functions.Arithmetic.TheVariants.{Plus, Minus, Times}
use Rattle.value_functions.specs.declared.functions.Division.{Division}
use Rattle.value_functions.specs.declared.functions.Division.TheVariants.{Floor, Mod}
use Rattle.value_functions.specs.declared.functions.OnTexts.{OnTexts}
use Rattle.value_functions.specs.declared.functions.OnTexts.TheVariants.{SameText, TextLess, SymbolName}
use Rattle.value_functions.specs.declared.functions.OnLists.{OnLists}
use Rattle.value_functions.specs.declared.functions.OnLists.TheVariants.{Cons, Car, Cdr, Nth, Member, Assoc, Adjoin}
use Rattle.value_functions.specs.declared.functions.OnSequences.{OnSequences}
use Rattle.value_functions.specs.declared.functions.OnSequences.TheVariants.{Length, Reverse, Remove, Svref}
use Rattle.value_functions.specs.declared.functions.Building.TheVariants.{Append, Vector}
use Rattle.value_functions.specs.FunctionAnswers.{FunctionValue, truth_value, if_of_kind, if_in_range, then_value, if_within}
use Rattle.value_functions.specs.Equality.{is_eql, is_same}
use Rattle.value_functions.specs.Predicates.{has_predicate}
use Rattle.value_functions.specs.Comparisons.{is_number, is_chain, furthest, is_further}
use Rattle.value_functions.specs.Arithmetic.{integer_in, operation, from_left, result_of, rounded_down, left_over, division_value, division}
use Rattle.value_functions.specs.TextValues.{a_symbol_name, a_string, less_at, place_or_nil, on_texts}
use Rattle.value_functions.specs.Lists.{past_end, car, cdr, nth_in, nth_at, member, assoc, on_lists}
use Rattle.value_functions.specs.Sequences.{a_sequence, a_vector, item_in, item_at, object_of_sequence, length_of, reversed, without, on_sequences}
use Rattle.value_functions.specs.Building.{appended_lists}
use Rattle.value_functions.specs.Functions.{most_arguments, function_value, call_value, if_listed}
use Rattle.value_functions.proofs.Made.{IsItem, IsBuilt, made_value, vector_value, sequence_value, sequence_parts, reversed_parts, without_parts, vector_parts, appended_built}
use Rattle.value_functions.proofs.RefusalNumbers.{where_test, where_kind}
pub use Rattle.value_functions.proofs.RefusalNumbers.{IsNumbered, call_numbered}

abbrev IsStorableValue : packages.Table → FunctionValue → Type 0
IsStorableValue u (Ok x) = IsValue u x
IsStorableValue u (Err code) = Unit {0}

-- where it is a value, it may be stored in these packages
pub record IsStorable (u : packages.Table) (v : FunctionValue) : Type 0 where
  pub storable : IsStorableValue u v

module _ (u : packages.Table) where
  held : (x : Object) → IsValue u x → IsStorable u (Ok x)
  held x is = record { storable = is }

  refused : (code : ℕ) → IsStorable u (Err code)
  refused code = record { storable = tt }

  one_storable : (b : Bool) (v w : FunctionValue) → (b ≡ true → IsStorable u v) → (b ≡ false → IsStorable u w) → IsStorable u (cond b v w)
  one_storable b v w first second = where_test (IsStorable u) b v w first second

  kind_storable : {A : Type 0} (o : Option A) (on : A → FunctionValue) → ((x : A) → o ≡ Some x → IsStorable u (on x)) → IsStorable u (if_of_kind o on)
  kind_storable o on each = where_kind (IsStorable u) o on (refused 33) each

  within_storable : (x : Object) → (object_depth x ≤ 100 → IsValue u x) → IsStorable u (if_within x)
  within_storable x is =
      one_storable (nat_lt 100 (object_depth x)) (Err 45) _ (λ _. refused 45)
      (λ shallow. one_storable (nat_lt 1000000 (object_size x)) (Err 46) (Ok x) (λ _. refused 46) (λ _. held x (is (ltb-false 100 (object_depth x) shallow))))

  -- numbers
  range_fits : (n : ℤ) → is_in_range n ≡ true → FitsSigned w128 n
  range_fits (pos n) e = record { sfits = ltb-true n (2 ^ 127) e }
  range_fits (negsuc n) e = record { sfits = ltb-true n (2 ^ 127) e }

  integer_value : (n : ℤ) → FitsSigned w128 n → IsValue u (integer n)
  integer_value n fits = record { object = fits; depth = omega arith; symbols = tt }

  range_storable : (n : ℤ) → IsStorable u (if_in_range n)
  range_storable n = one_storable (is_in_range n) (Ok (integer n)) (Err 44) (λ fits. held (integer n) (integer_value n (range_fits n fits))) (λ _. refused 44)

  left_storable : (f : Arithmetic) (n : ℤ) (ms : List ℤ) → FitsSigned w128 n → IsStorable u (from_left f n ms)
  left_storable f n [] fits = held (integer n) (integer_value n fits)
  left_storable f n (m ∷ ms) fits =
      elim (is_in_range (operation f n m)) as (λ b. is_in_range (operation f n m) ≡ b → IsStorable u (option_map_or (λ k. from_left f k ms) (cond b (Some (operation f n m)) None) (Err 44))) [
        | true ↦ λ within. left_storable f (operation f n m) ms (range_fits (operation f n m) within)
        | false ↦ λ _. refused 44
      ] refl

  none_fits : FitsSigned w128 (pos 0)
  none_fits = record { sfits = ltb-true 0 (2 ^ 127) refl }

  one_fits : FitsSigned w128 (pos 1)
  one_fits = record { sfits = ltb-true 1 (2 ^ 127) refl }

  integer_fits : (x : Object) → IsValue u x → FitsSigned w128 (integer_in x)
  integer_fits (integer n) is = is.object
  integer_fits _ is = none_fits

  result_storable : (f : Arithmetic) (xs : List Object) → AreValues u xs → IsStorable u (result_of f (map integer_in xs))
  result_storable Plus xs are = left_storable Plus (pos 0) (map integer_in xs) none_fits
  result_storable Times xs are = left_storable Times (pos 1) (map integer_in xs) one_fits
  result_storable Minus [] are = refused 33
  result_storable Minus (x ∷ []) are = left_storable Minus (pos 0) (integer_in x ∷ []) none_fits
  result_storable Minus (x ∷ y ∷ ys) are =
      left_storable Minus (integer_in x) (integer_in y ∷ map integer_in ys) (integer_fits x (All-head (IsValue u) x (y ∷ ys) are))

  quotient_storable : (f : Division) (n d : ℤ) → IsStorable u (division_value f n d)
  quotient_storable Floor n d =
      one_storable (int_eq d (pos 0)) (Err 44) _ (λ _. refused 44)
      (λ _. one_storable (is_in_range (int_div n d)) (if_in_range (rounded_down n d)) (Err 44) (λ _. range_storable (rounded_down n d)) (λ _. refused 44))
  quotient_storable Mod n d = one_storable (int_eq d (pos 0)) (Err 44) (if_in_range (left_over n d)) (λ _. refused 44) (λ _. range_storable (left_over n d))

  division_storable : (f : Division) (xs : List Object) → IsStorable u (division f xs)
  division_storable f [] = refused 33
  division_storable f (x ∷ []) = kind_storable (an_integer x) _ (λ n _. quotient_storable f n (pos 1))
  division_storable f (x ∷ y ∷ []) = kind_storable (an_integer x) _ (λ n _. kind_storable (an_integer y) _ (λ d _. quotient_storable f n d))
  division_storable f (x ∷ y ∷ z ∷ zs) = refused 33

  furthest_value : (way : Extreme) (x : Object) (ys : List Object) → IsValue u x → AreValues u ys → IsValue u (furthest way x ys)
  furthest_value way x [] is are = is
  furthest_value way x (y ∷ ys) is are =
      let rest = All-tail (IsValue u) y ys are in
      elim (is_further way x y) as (λ b. IsValue u (cond b (furthest way y ys) (furthest way x ys))) [
        | true ↦ furthest_value way y ys (All-head (IsValue u) y ys are) rest
        | false ↦ furthest_value way x ys is rest
      ]

  -- texts
  symbol_name_value : (x : Object) (name : List ℕ) → a_symbol_name x ≡ Some name → IsValue u x → IsValue u (text name)
  symbol_name_value (symbol home n) name e is = text_value u name (subst (All (λ b. b < 128)) (same_some n name e) is.object.1)
  symbol_name_value (uninterned n) name e is = text_value u name (subst (All (λ b. b < 128)) (same_some n name e) is.object)
  symbol_name_value _ name e is = absurd (none_some name e)

  place_storable : IsValue u nil → (o : Option ℕ) → IsStorable u (place_or_nil o)
  place_storable empty (Some at) = range_storable (pos at)
  place_storable empty None = held nil empty

  second_value : (x y : Object) → AreValues u (x ∷ y ∷ []) → IsValue u y
  second_value x y are = All-head (IsValue u) y [] (All-tail (IsValue u) x (y ∷ []) are)

  module _ (sound : packages.AreSoundPackages u) where
    truth_storable : (b : Bool) → IsStorable u (Ok (truth_value b))
    truth_storable true = held t (t_value u sound)
    truth_storable false = held nil (nil_value u sound)

    texts_storable : (f : OnTexts) (xs : List Object) → AreValues u xs → IsStorable u (on_texts f xs)
    texts_storable SymbolName (x ∷ []) are = kind_storable (a_symbol_name x) _ (λ name e. held (text name) (symbol_name_value x name e (All-head (IsValue u) x [] are)))
    texts_storable SameText (x ∷ y ∷ []) are = kind_storable (a_string x) _ (λ a _. kind_storable (a_string y) _ (λ b _. truth_storable (bytes_eq a b)))
    texts_storable TextLess (x ∷ y ∷ []) are =
        kind_storable (a_string x) _ (λ a _. kind_storable (a_string y) _ (λ b _. place_storable (nil_value u sound) (less_at 0 a b)))
    texts_storable SymbolName (x ∷ y ∷ []) are = kind_storable (a_string x) _ (λ a _. kind_storable (a_string y) _ (λ b _. refused 33))
    texts_storable SameText (x ∷ []) are = refused 33
    texts_storable TextLess (x ∷ []) are = refused 33
    texts_storable f [] are = refused 33
    texts_storable f (x ∷ y ∷ z ∷ zs) are = refused 33

    -- lists
    end_storable : (x : Object) → IsStorable u (past_end x)
    end_storable (symbol home name) = one_storable (is_nil home name) (Ok nil) (Err 33) (λ _. held nil (nil_value u sound)) (λ _. refused 33)
    end_storable _ = refused 33

    car_storable : (x : Object) → IsValue u x → IsStorable u (car x)
    car_storable (pair x rest) is = held x (value_parts u x rest is).0
    car_storable (symbol home name) is = end_storable (symbol home name)
    car_storable _ is = refused 33

    cdr_storable : (x : Object) → IsValue u x → IsStorable u (cdr x)
    cdr_storable (pair x rest) is = held rest (value_parts u x rest is).1
    cdr_storable (symbol home name) is = end_storable (symbol home name)
    cdr_storable _ is = refused 33

    nth_storable : (n : ℕ) (x : Object) → IsValue u x → IsStorable u (nth_in n x)
    nth_storable zero (pair x rest) is = held x (value_parts u x rest is).0
    nth_storable (suc n) (pair x rest) is = nth_storable n rest (value_parts u x rest is).1
    nth_storable zero (symbol home name) is = end_storable (symbol home name)
    nth_storable (suc n) (symbol home name) is = end_storable (symbol home name)
    nth_storable zero _ is = refused 33
    nth_storable (suc n) _ is = refused 33

    place_in_storable : (n : ℤ) (x : Object) → IsValue u x → IsStorable u (nth_at n x)
    place_in_storable (pos n) x is = nth_storable n x is
    place_in_storable (negsuc n) x is = one_storable (object_is_list x) (Err 44) (Err 33) (λ _. refused 44) (λ _. refused 33)

    member_storable : (x list : Object) → IsValue u list → IsStorable u (member x list)
    member_storable x (pair y rest) is =
        one_storable (is_eql x y) (Ok (pair y rest)) (member x rest) (λ _. held (pair y rest) is) (λ _. member_storable x rest (value_parts u y rest is).1)
    member_storable x (symbol home name) is = end_storable (symbol home name)
    member_storable x _ is = refused 33

    assoc_storable : (x list : Object) → IsValue u list → IsStorable u (assoc x list)
    assoc_storable x (pair (pair key value) rest) is =
        let parts = value_parts u (pair key value) rest is in
        one_storable (is_eql x key) (Ok (pair key value)) (assoc x rest) (λ _. held (pair key value) parts.0) (λ _. assoc_storable x rest parts.1)
    assoc_storable x (pair (symbol home name) rest) is =
        one_storable (is_nil home name) (assoc x rest) (Err 33) (λ _. assoc_storable x rest (value_parts u (symbol home name) rest is).1) (λ _. refused 33)
    assoc_storable x (pair _ rest) is = refused 33
    assoc_storable x (symbol home name) is = end_storable (symbol home name)
    assoc_storable x _ is = refused 33

    adjoin_found : (x list : Object) (v : FunctionValue) → IsValue u x → IsValue u list
        → IsStorable u (then_value v (λ found. cond (is_pair found) (Ok list) (if_within (pair x list))))
    adjoin_found x list (Ok found) first second =
        one_storable (is_pair found) (Ok list) (if_within (pair x list)) (λ _. held list second) (λ _. within_storable (pair x list) (pair_value u x list first second))
    adjoin_found x list (Err code) first second = refused code

    lists_storable : (f : OnLists) (xs : List Object) → AreValues u xs → IsStorable u (on_lists f xs)
    lists_storable f [] are = refused 33
    lists_storable f (x ∷ y ∷ z ∷ zs) are = refused 33
    lists_storable Car (x ∷ []) are = car_storable x (All-head (IsValue u) x [] are)
    lists_storable Cdr (x ∷ []) are = cdr_storable x (All-head (IsValue u) x [] are)
    lists_storable Cons (x ∷ y ∷ []) are = within_storable (pair x y) (pair_value u x y (All-head (IsValue u) x (y ∷ []) are) (second_value x y are))
    lists_storable Nth (x ∷ y ∷ []) are = kind_storable (an_integer x) _ (λ n _. place_in_storable n y (second_value x y are))
    lists_storable Member (x ∷ y ∷ []) are = member_storable x y (second_value x y are)
    lists_storable Assoc (x ∷ y ∷ []) are = assoc_storable x y (second_value x y are)
    lists_storable Adjoin (x ∷ y ∷ []) are = adjoin_found x y (member x y) (All-head (IsValue u) x (y ∷ []) are) (second_value x y are)
    lists_storable _ _ are = refused 33

    -- sequences
    item_storable : (n : ℕ) (xs : List Object) → All (IsItem u) xs → IsStorable u (item_in n xs)
    item_storable n [] are = refused 44
    item_storable zero (x ∷ xs) are = held x (All-head (IsItem u) x xs are).value
    item_storable (suc n) (x ∷ xs) are = item_storable n xs (All-tail (IsItem u) x xs are)

    item_at_storable : (xs : List Object) → All (IsItem u) xs → (n : ℤ) → IsStorable u (item_at xs n)
    item_at_storable xs are (pos n) = item_storable n xs are
    item_at_storable xs are (negsuc n) = refused 44

    sequences_storable : (f : OnSequences) (xs : List Object) → AreValues u xs → IsStorable u (on_sequences f xs)
    sequences_storable f [] are = refused 33
    sequences_storable f (x ∷ y ∷ z ∷ zs) are = refused 33
    sequences_storable Length (x ∷ []) are = kind_storable (a_sequence x) _ (λ s _. range_storable (pos (length_of s)))
    sequences_storable Reverse (x ∷ []) are =
        kind_storable (a_sequence x) _
        (λ s e. held (object_of_sequence (reversed s)) (sequence_value u sound (reversed s) (reversed_parts u s (sequence_parts u x s e (All-head (IsValue u) x [] are)))))
    sequences_storable Remove (x ∷ y ∷ []) are =
        kind_storable (a_sequence y) _
        (λ s e. held (object_of_sequence (without x s)) (sequence_value u sound (without x s) (without_parts u x s (sequence_parts u y s e (second_value x y are)))))
    sequences_storable Svref (x ∷ y ∷ []) are =
        kind_storable (a_vector x) _ (λ xs e. kind_storable (an_integer y) _ (λ n _. item_at_storable xs (vector_parts u x xs e (All-head (IsValue u) x (y ∷ []) are)) n))
    sequences_storable _ _ are = refused 33

    -- what is built
    built_storable : (v : FunctionValue) → IsBuilt u v → IsStorable u (then_value v if_within)
    built_storable (Ok x) made = within_storable x (made_value u x made.built)
    built_storable (Err code) made = refused code

    value_storable : (f : ValueFunction) (xs : List Object) → AreValues u xs → IsStorable u (function_value f xs)
    value_storable (function.Equality test) (x ∷ y ∷ []) are = truth_storable (is_same test x y)
    value_storable (function.Predicate test) (x ∷ []) are = truth_storable (has_predicate test x)
    value_storable (function.Comparison test) (x ∷ xs) are =
        one_storable (list_all is_number (x ∷ xs)) (Ok (truth_value (is_chain test x xs))) (Err 33) (λ _. truth_storable (is_chain test x xs)) (λ _. refused 33)
    value_storable (function.Extreme way) (x ∷ xs) are =
        one_storable (list_all is_number (x ∷ xs)) (Ok (furthest way x xs)) (Err 33)
        (λ _. held (furthest way x xs) (furthest_value way x xs (All-head (IsValue u) x xs are) (All-tail (IsValue u) x xs are))) (λ _. refused 33)
    value_storable (function.Arithmetic f) xs are =
        one_storable (list_all (λ x. is_some (an_integer x)) xs) (result_of f (map integer_in xs)) (Err 33) (λ _. result_storable f xs are) (λ _. refused 33)
    value_storable (function.Division f) xs are = division_storable f xs
    value_storable (function.OnTexts f) xs are = texts_storable f xs are
    value_storable (function.OnLists f) xs are = lists_storable f xs are
    value_storable (function.OnSequences f) xs are = sequences_storable f xs are
    value_storable (function.Building Append) xs are = built_storable (appended_lists xs) (appended_built u sound xs are)
    value_storable (function.Building Vector) xs are = within_storable (vector (list_of xs)) (vector_value u sound xs are)
    value_storable _ _ are = refused 33

    listed_storable : (m : Option ℕ) (xs : List Object) (v : FunctionValue) → IsStorable u v → IsStorable u (if_listed m xs v)
    listed_storable (Some n) xs v is = is
    listed_storable None xs v is =
        one_storable (nat_lt 100 (object_depth (list_of xs))) (Err 45) _ (λ _. refused 45)
        (λ _. one_storable (nat_lt 1000000 (object_size (list_of xs))) (Err 46) v (λ _. refused 46) (λ _. is))

    pub call_storable : (f : ValueFunction) (xs : List Object) → AreValues u xs → IsStorable u (call_value f xs)
    call_storable f xs are = listed_storable (most_arguments f) xs (function_value f xs) (value_storable f xs are)
