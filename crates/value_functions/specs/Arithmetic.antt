-- Sums, differences, products, and division rounded down (standard 12.2), of integers.
use Rattle.std.specs.Prelude.{ℤ, pos, ◌+ℤ◌, ◌-ℤ◌, ◌*ℤ◌, int_lt, int_div, int_rem, ◌&&◌, ◌||◌, is_some, unwrap_or, Bool, if◌then◌else◌, List, [], ◌∷◌, map, Option, Some, None, Ok, Err}
use Rattle.std.specs.List.{list_all}
use Rattle.std.specs.Option.{option_map_or}
use Rattle.std.specs.Ordering.{int_eq}
use Rattle.lisp_object.specs.Object.{Object, integer}
use Rattle.lisp_object.specs.declared.refusal.TheConstants.{ARGUMENT_KIND, INTEGER_RANGE}
use Rattle.lisp_operators.specs.Properties.{is_in_range}
use Rattle.lisp_operators.specs.ArgumentKinds.{an_integer}
use Rattle.value_functions.specs.declared.functions.Arithmetic.{Arithmetic}
use Rattle.value_functions.specs.declared.functions.Arithmetic.TheVariants.{Plus, Minus, Times}
use Rattle.value_functions.specs.declared.functions.Division.{Division}
use Rattle.value_functions.specs.declared.functions.Division.TheVariants.{Floor, Mod}
use Rattle.value_functions.specs.FunctionAnswers.{FunctionValue, if_of_kind, if_in_range}

-- the integer that an object is
abbrev pub integer_in : Object → ℤ
integer_in x = unwrap_or (an_integer x) (pos 0)

-- what each of these functions is of two integers
abbrev pub operation : Arithmetic → ℤ → ℤ → ℤ
operation Plus n m = n +ℤ m
operation Minus n m = n -ℤ m
operation Times n m = n *ℤ m

-- the result of two, where it has at most 128 bits
abbrev pub if_operation : Arithmetic → ℤ → ℤ → Option ℤ
if_operation function n m = if is_in_range (operation function n m) then Some (operation function n m) else None

-- one after the other from the left; each result on the way has at most 128 bits
abbrev pub from_left : Arithmetic → ℤ → List ℤ → FunctionValue
from_left function n [] = Ok (integer n)
from_left function n (m ∷ ms) = option_map_or (λ k. from_left function k ms) (if_operation function n m) (Err INTEGER_RANGE)

-- of no integers 0 or 1, and the difference of one is its negative
abbrev pub result_of : Arithmetic → List ℤ → FunctionValue
result_of Plus ns = from_left Plus (pos 0) ns
result_of Times ns = from_left Times (pos 1) ns
result_of Minus [] = Err ARGUMENT_KIND
result_of Minus (n ∷ []) = from_left Minus (pos 0) (n ∷ [])
result_of Minus (n ∷ ms) = from_left Minus n ms

-- what such a function gives of its arguments, which are integers
abbrev pub arithmetic : Arithmetic → List Object → FunctionValue
arithmetic function xs = if list_all (λ x. is_some (an_integer x)) xs then result_of function (map integer_in xs) else Err ARGUMENT_KIND

-- A quotient that is cut to an integer is over the quotient itself: what is left is under 0 and the divisor over 0, or the other
-- way round.
abbrev pub is_cut_up : ℤ → ℤ → Bool
is_cut_up n d = int_lt (int_rem n d) (pos 0) && int_lt (pos 0) d || int_lt (pos 0) (int_rem n d) && int_lt d (pos 0)

-- the quotient, rounded down
abbrev pub rounded_down : ℤ → ℤ → ℤ
rounded_down n d = if is_cut_up n d then int_div n d -ℤ pos 1 else int_div n d

-- what is left then
abbrev pub left_over : ℤ → ℤ → ℤ
left_over n d = if is_cut_up n d then int_rem n d +ℤ d else int_rem n d

-- FLOOR, its first value, and MOD; by 0 there is neither
abbrev pub division_value : Division → ℤ → ℤ → FunctionValue
division_value Floor n d =
    if int_eq d (pos 0) then Err INTEGER_RANGE
    else (if is_in_range (int_div n d) then if_in_range (rounded_down n d) else Err INTEGER_RANGE)
division_value Mod n d = if int_eq d (pos 0) then Err INTEGER_RANGE else if_in_range (left_over n d)

-- by 1, where no divisor is given
abbrev pub division : Division → List Object → FunctionValue
division function (x ∷ []) = if_of_kind (an_integer x) (λ n. division_value function n (pos 1))
division function (x ∷ y ∷ []) = if_of_kind (an_integer x) (λ n. if_of_kind (an_integer y) (λ d. division_value function n d))
division function _ = Err ARGUMENT_KIND
