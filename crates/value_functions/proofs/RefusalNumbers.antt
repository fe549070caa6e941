-- What the functions refuse.
--     call_numbered      a refusal has a number of evaluation
--     where_test, where_kind      what holds of a value that comes after a test, or of an argument of a kind
use Rattle.std.proofs.Common.{◌≡◌, ℕ, zero, suc, ℤ, pos, negsuc, Bool, true, false, cond, List, [], ◌∷◌, map, Option, Some, None, is_some, bytes_eq, int_div, Ok, Err, nat_lt, refl, arith}
use Rattle.std.specs.List.{list_all}
use Rattle.std.specs.Option.{option_map_or}
use Rattle.std.specs.Ordering.{int_eq}
use Rattle.lisp_object.specs.Object.{Object, integer, text, symbol, pair, vector, nil, is_nil, object_is_list, list_of, object_depth, object_size}
use Rattle.lisp_operators.specs.ArgumentKinds.{is_pair, an_integer}
use Rattle.lisp_operators.specs.Properties.{is_in_range}
use Rattle.lisp_operators.proofs.Numbered.{IsNumber}
use Rattle.value_functions.specs.declared.functions.ValueFunction.{ValueFunction}
use Rattle.value_functions.specs.declared.functions.ValueFunction.TheVariants as function
use Rattle.value_functions.specs.declared.functions.Arithmetic.{Arithmetic}
use Rattle.value_functions.specs.declared.functions.Arithmetic.TheVariants.{Plus, Minus, Times}
use Rattle.value_functions.specs.declared.functions.Division.{Division}
use Rattle.value_functions.specs.declared.functions.Division.TheVariants.{Floor, Mod}
use Rattle.value_functions.specs.declared.functions.OnTexts.{OnTexts}
use Rattle.value_functions.specs.declared.functions.OnTexts.TheVariants.{SameText, TextLess, SymbolName}
use Rattle.value_functions.specs.declared.functions.OnLists.{OnLists}
use Rattle.value_functions.specs.declared.functions.OnLists.TheVariants.{Cons, Car, Cdr, Nth, Member, Assoc, Adjoin}
use Rattle.value_functions.specs.declared.functions.OnSequences.{OnSequences}
use Rattle.value_functions.specs.declared.functions.OnSequences.TheVariants.{Length, Reverse, Remove, Svref}
use Rattle.value_functions.specs.declared.functions.Building.TheVariants.{Append, Vector}
use Rattle.value_functions.specs.FunctionAnswers.{FunctionValue, truth_value, if_of_kind, if_in_range, then_value, if_within}
use Rattle.value_functions.specs.Equality.{is_eql, is_same}
use Rattle.value_functions.specs.Predicates.{has_predicate}
use Rattle.value_functions.specs.Comparisons.{is_number, is_chain, furthest}
use Rattle.value_functions.specs.Arithmetic.{integer_in, operation, from_left, result_of, rounded_down, left_over, division_value, division}
use Rattle.value_functions.specs.TextValues.{a_symbol_name, a_string, less_at, place_or_nil, on_texts}
use Rattle.value_functions.specs.Lists.{past_end, car, cdr, nth_in, nth_at, member, assoc, adjoin, on_lists}
use Rattle.value_functions.specs.Sequences.{a_sequence, a_vector, item_in, item_at, object_of_sequence, length_of, reversed, without, on_sequences}
use Rattle.value_functions.specs.Building.{followed_by, appended_lists}
use Rattle.value_functions.specs.Functions.{most_arguments, function_value, call_value, if_listed}

abbrev IsNumberedValue : FunctionValue → Type 0
IsNumberedValue (Ok x) = Unit {0}
IsNumberedValue (Err code) = IsNumber code

-- where it is refused, it has a number of evaluation
pub record IsNumbered (v : FunctionValue) : Type 0 where
  pub number : IsNumberedValue v

module _ (P : FunctionValue → Type 0) where
  pub where_test : (b : Bool) (v w : FunctionValue) → (b ≡ true → P v) → (b ≡ false → P w) → P (cond b v w)
  where_test true v w first second = first refl
  where_test false v w first second = second refl

  pub where_kind : {A : Type 0} (o : Option A) (on : A → FunctionValue) → P (Err 33) → ((x : A) → o ≡ Some x → P (on x)) → P (if_of_kind o on)
  where_kind (Some x) on other each = each x refl
  where_kind None on other each = other

given : (x : Object) → IsNumbered (Ok x)
given x = record { number = tt }

not_of_kind : IsNumbered (Err 33)
not_of_kind = record { number = (omega arith, omega arith) }

out_of_range : IsNumbered (Err 44)
out_of_range = record { number = (omega arith, omega arith) }

too_deep : IsNumbered (Err 45)
too_deep = record { number = (omega arith, omega arith) }

too_large : IsNumbered (Err 46)
too_large = record { number = (omega arith, omega arith) }

one_of : (b : Bool) (v w : FunctionValue) → IsNumbered v → IsNumbered w → IsNumbered (cond b v w)
one_of b v w first second = where_test IsNumbered b v w (λ _. first) (λ _. second)

kind_numbered : {A : Type 0} (o : Option A) (on : A → FunctionValue) → ((x : A) → IsNumbered (on x)) → IsNumbered (if_of_kind o on)
kind_numbered o on each = where_kind IsNumbered o on not_of_kind (λ x _. each x)

then_numbered : (v : FunctionValue) (next : Object → FunctionValue) → IsNumbered v → ((x : Object) → IsNumbered (next x)) → IsNumbered (then_value v next)
then_numbered (Ok x) next before after = after x
then_numbered (Err code) next before after = record { number = before.number }

within_numbered : (x : Object) → IsNumbered (if_within x)
within_numbered x =
    one_of (nat_lt 100 (object_depth x)) (Err 45) _ too_deep (one_of (nat_lt 1000000 (object_size x)) (Err 46) (Ok x) too_large (given x))

range_numbered : (n : ℤ) → IsNumbered (if_in_range n)
range_numbered n = one_of (is_in_range n) (Ok (integer n)) (Err 44) (given (integer n)) out_of_range

-- numbers
left_numbered : (f : Arithmetic) (n : ℤ) (ms : List ℤ) → IsNumbered (from_left f n ms)
left_numbered f n [] = given (integer n)
left_numbered f n (m ∷ ms) =
    elim (is_in_range (operation f n m)) as (λ b. IsNumbered (option_map_or (λ k. from_left f k ms) (cond b (Some (operation f n m)) None) (Err 44))) [
      | true ↦ left_numbered f (operation f n m) ms
      | false ↦ out_of_range
    ]

result_numbered : (f : Arithmetic) (ns : List ℤ) → IsNumbered (result_of f ns)
result_numbered Plus ns = left_numbered Plus (pos 0) ns
result_numbered Times ns = left_numbered Times (pos 1) ns
result_numbered Minus [] = not_of_kind
result_numbered Minus (n ∷ []) = left_numbered Minus (pos 0) (n ∷ [])
result_numbered Minus (n ∷ m ∷ ms) = left_numbered Minus n (m ∷ ms)

quotient_numbered : (f : Division) (n d : ℤ) → IsNumbered (division_value f n d)
quotient_numbered Floor n d =
    one_of (int_eq d (pos 0)) (Err 44) _ out_of_range (one_of (is_in_range (int_div n d)) (if_in_range (rounded_down n d)) (Err 44) (range_numbered (rounded_down n d)) out_of_range)
quotient_numbered Mod n d = one_of (int_eq d (pos 0)) (Err 44) (if_in_range (left_over n d)) out_of_range (range_numbered (left_over n d))

division_numbered : (f : Division) (xs : List Object) → IsNumbered (division f xs)
division_numbered f [] = not_of_kind
division_numbered f (x ∷ []) = kind_numbered (an_integer x) _ (λ n. quotient_numbered f n (pos 1))
division_numbered f (x ∷ y ∷ []) = kind_numbered (an_integer x) _ (λ n. kind_numbered (an_integer y) _ (λ d. quotient_numbered f n d))
division_numbered f (x ∷ y ∷ z ∷ zs) = not_of_kind

-- texts
place_numbered : (o : Option ℕ) → IsNumbered (place_or_nil o)
place_numbered (Some at) = range_numbered (pos at)
place_numbered None = given nil

texts_numbered : (f : OnTexts) (xs : List Object) → IsNumbered (on_texts f xs)
texts_numbered SymbolName (x ∷ []) = kind_numbered (a_symbol_name x) _ (λ name. given (text name))
texts_numbered SameText (x ∷ y ∷ []) = kind_numbered (a_string x) _ (λ a. kind_numbered (a_string y) _ (λ b. given (truth_value (bytes_eq a b))))
texts_numbered TextLess (x ∷ y ∷ []) = kind_numbered (a_string x) _ (λ a. kind_numbered (a_string y) _ (λ b. place_numbered (less_at 0 a b)))
texts_numbered SymbolName (x ∷ y ∷ []) = kind_numbered (a_string x) _ (λ a. kind_numbered (a_string y) _ (λ b. not_of_kind))
texts_numbered SameText (x ∷ []) = not_of_kind
texts_numbered TextLess (x ∷ []) = not_of_kind
texts_numbered f [] = not_of_kind
texts_numbered f (x ∷ y ∷ z ∷ zs) = not_of_kind

-- lists
end_numbered : (x : Object) → IsNumbered (past_end x)
end_numbered (symbol home name) = one_of (is_nil home name) (Ok nil) (Err 33) (given nil) not_of_kind
end_numbered _ = not_of_kind

car_numbered : (x : Object) → IsNumbered (car x)
car_numbered (pair x rest) = given x
car_numbered (symbol home name) = end_numbered (symbol home name)
car_numbered _ = not_of_kind

cdr_numbered : (x : Object) → IsNumbered (cdr x)
cdr_numbered (pair x rest) = given rest
cdr_numbered (symbol home name) = end_numbered (symbol home name)
cdr_numbered _ = not_of_kind

nth_numbered : (n : ℕ) (x : Object) → IsNumbered (nth_in n x)
nth_numbered zero (pair x rest) = given x
nth_numbered (suc n) (pair x rest) = nth_numbered n rest
nth_numbered zero (symbol home name) = end_numbered (symbol home name)
nth_numbered (suc n) (symbol home name) = end_numbered (symbol home name)
nth_numbered zero _ = not_of_kind
nth_numbered (suc n) _ = not_of_kind

place_in_numbered : (n : ℤ) (x : Object) → IsNumbered (nth_at n x)
place_in_numbered (pos n) x = nth_numbered n x
place_in_numbered (negsuc n) x = one_of (object_is_list x) (Err 44) (Err 33) out_of_range not_of_kind

member_numbered : (x list : Object) → IsNumbered (member x list)
member_numbered x (pair y rest) = one_of (is_eql x y) (Ok (pair y rest)) (member x rest) (given (pair y rest)) (member_numbered x rest)
member_numbered x (symbol home name) = end_numbered (symbol home name)
member_numbered x _ = not_of_kind

assoc_numbered : (x list : Object) → IsNumbered (assoc x list)
assoc_numbered x (pair (pair key value) rest) = one_of (is_eql x key) (Ok (pair key value)) (assoc x rest) (given (pair key value)) (assoc_numbered x rest)
assoc_numbered x (pair (symbol home name) rest) = one_of (is_nil home name) (assoc x rest) (Err 33) (assoc_numbered x rest) not_of_kind
assoc_numbered x (pair _ rest) = not_of_kind
assoc_numbered x (symbol home name) = end_numbered (symbol home name)
assoc_numbered x _ = not_of_kind

adjoin_numbered : (x list : Object) → IsNumbered (adjoin x list)
adjoin_numbered x list =
    then_numbered (member x list) _ (member_numbered x list) (λ found. one_of (is_pair found) (Ok list) (if_within (pair x list)) (given list) (within_numbered (pair x list)))

lists_numbered : (f : OnLists) (xs : List Object) → IsNumbered (on_lists f xs)
lists_numbered Car (x ∷ []) = car_numbered x
lists_numbered Cdr (x ∷ []) = cdr_numbered x
lists_numbered Cons (x ∷ y ∷ []) = within_numbered (pair x y)
lists_numbered Nth (x ∷ y ∷ []) = kind_numbered (an_integer x) _ (λ n. place_in_numbered n y)
lists_numbered Member (x ∷ y ∷ []) = member_numbered x y
lists_numbered Assoc (x ∷ y ∷ []) = assoc_numbered x y
lists_numbered Adjoin (x ∷ y ∷ []) = adjoin_numbered x y
lists_numbered f [] = not_of_kind
lists_numbered f (x ∷ y ∷ z ∷ zs) = not_of_kind
lists_numbered _ _ = not_of_kind

-- sequences
item_numbered : (n : ℕ) (xs : List Object) → IsNumbered (item_in n xs)
item_numbered n [] = out_of_range
item_numbered zero (x ∷ xs) = given x
item_numbered (suc n) (x ∷ xs) = item_numbered n xs

item_at_numbered : (xs : List Object) (n : ℤ) → IsNumbered (item_at xs n)
item_at_numbered xs (pos n) = item_numbered n xs
item_at_numbered xs (negsuc n) = out_of_range

sequences_numbered : (f : OnSequences) (xs : List Object) → IsNumbered (on_sequences f xs)
sequences_numbered Length (x ∷ []) = kind_numbered (a_sequence x) _ (λ s. range_numbered (pos (length_of s)))
sequences_numbered Reverse (x ∷ []) = kind_numbered (a_sequence x) _ (λ s. given (object_of_sequence (reversed s)))
sequences_numbered Remove (x ∷ y ∷ []) = kind_numbered (a_sequence y) _ (λ s. given (object_of_sequence (without x s)))
sequences_numbered Svref (x ∷ y ∷ []) = kind_numbered (a_vector x) _ (λ xs. kind_numbered (an_integer y) _ (item_at_numbered xs))
sequences_numbered f [] = not_of_kind
sequences_numbered f (x ∷ y ∷ z ∷ zs) = not_of_kind
sequences_numbered _ _ = not_of_kind

-- what is built
followed_numbered : (x end : Object) → IsNumbered (followed_by x end)
followed_numbered (pair x rest) end = then_numbered (followed_by rest end) _ (followed_numbered rest end) (λ joined. given (pair x joined))
followed_numbered (symbol home name) end = one_of (is_nil home name) (Ok end) (Err 33) (given end) not_of_kind
followed_numbered _ end = not_of_kind

appended_numbered : (xs : List Object) → IsNumbered (appended_lists xs)
appended_numbered [] = given nil
appended_numbered (x ∷ []) = given x
appended_numbered (x ∷ y ∷ ys) = then_numbered (appended_lists (y ∷ ys)) (followed_by x) (appended_numbered (y ∷ ys)) (followed_numbered x)

value_numbered : (f : ValueFunction) (xs : List Object) → IsNumbered (function_value f xs)
value_numbered (function.Equality test) (x ∷ y ∷ []) = given (truth_value (is_same test x y))
value_numbered (function.Predicate test) (x ∷ []) = given (truth_value (has_predicate test x))
value_numbered (function.Comparison test) (x ∷ xs) =
    one_of (list_all is_number (x ∷ xs)) (Ok (truth_value (is_chain test x xs))) (Err 33) (given (truth_value (is_chain test x xs))) not_of_kind
value_numbered (function.Extreme way) (x ∷ xs) =
    one_of (list_all is_number (x ∷ xs)) (Ok (furthest way x xs)) (Err 33) (given (furthest way x xs)) not_of_kind
value_numbered (function.Arithmetic f) xs =
    one_of (list_all (λ x. is_some (an_integer x)) xs) (result_of f (map integer_in xs)) (Err 33) (result_numbered f (map integer_in xs)) not_of_kind
value_numbered (function.Division f) xs = division_numbered f xs
value_numbered (function.OnTexts f) xs = texts_numbered f xs
value_numbered (function.OnLists f) xs = lists_numbered f xs
value_numbered (function.OnSequences f) xs = sequences_numbered f xs
value_numbered (function.Building Append) xs = then_numbered (appended_lists xs) if_within (appended_numbered xs) within_numbered
value_numbered (function.Building Vector) xs = within_numbered (vector (list_of xs))
value_numbered _ _ = not_of_kind

listed_numbered : (m : Option ℕ) (xs : List Object) (v : FunctionValue) → IsNumbered v → IsNumbered (if_listed m xs v)
listed_numbered (Some n) xs v is = is
listed_numbered None xs v is =
    one_of (nat_lt 100 (object_depth (list_of xs))) (Err 45) _ too_deep (one_of (nat_lt 1000000 (object_size (list_of xs))) (Err 46) v too_large is)

pub call_numbered : (f : ValueFunction) (xs : List Object) → IsNumbered (call_value f xs)
call_numbered f xs = listed_numbered (most_arguments f) xs (function_value f xs) (value_numbered f xs)
