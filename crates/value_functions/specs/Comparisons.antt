-- How numbers are to one another (standard 12.2): integers and ratios, by their values.
use Rattle.std.specs.Prelude.{ℕ, ℤ, pos, ◌*ℤ◌, int_lt, Bool, true, false, ◌&&◌, not, if◌then◌else◌, List, [], ◌∷◌, Ok, Err}
use Rattle.std.specs.List.{list_all}
use Rattle.lisp_object.specs.Object.{Object, integer, rational}
use Rattle.lisp_object.specs.declared.refusal.TheConstants.{ARGUMENT_KIND}
use Rattle.value_functions.specs.declared.functions.Comparison.{Comparison}
use Rattle.value_functions.specs.declared.functions.Comparison.TheVariants.{Same, Different, Less, AtMost, Greater, AtLeast}
use Rattle.value_functions.specs.declared.functions.Extreme.{Extreme}
use Rattle.value_functions.specs.declared.functions.Extreme.TheVariants.{Min, Max}
use Rattle.value_functions.specs.FunctionAnswers.{FunctionValue, truth_value}

abbrev pub is_number : Object → Bool
is_number (integer n) = true
is_number (rational n d) = true
is_number _ = false

-- the numerator and the denominator of a number
abbrev pub fraction_of : Object → ℤ × ℕ
fraction_of (integer n) = (n, 1)
fraction_of (rational n d) = (n, d)
fraction_of _ = (pos 0, 1)

-- whether the first number is less than the second
abbrev pub is_less : Object → Object → Bool
is_less x y = int_lt ((fraction_of x).0 *ℤ pos (fraction_of y).1) ((fraction_of y).0 *ℤ pos (fraction_of x).1)

-- whether two numbers are in the order that a comparison asks for
abbrev pub compares : Comparison → Object → Object → Bool
compares Same x y = not (is_less x y) && not (is_less y x)
compares Different x y = not (not (is_less x y) && not (is_less y x))
compares Less x y = is_less x y
compares AtMost x y = not (is_less y x)
compares Greater x y = is_less y x
compares AtLeast x y = not (is_less x y)

-- each of these is so to the next one
abbrev pub is_chain : Comparison → Object → List Object → Bool
is_chain test x [] = true
is_chain test x (y ∷ ys) = compares test x y && is_chain test y ys

-- what a comparison gives of its arguments, which are numbers
abbrev pub comparison : Comparison → List Object → FunctionValue
comparison test [] = Err ARGUMENT_KIND
comparison test (x ∷ xs) = if list_all is_number (x ∷ xs) then Ok (truth_value (is_chain test x xs)) else Err ARGUMENT_KIND

-- the first of the least, or of the greatest
abbrev pub is_further : Extreme → Object → Object → Bool
is_further Min x y = is_less y x
is_further Max x y = is_less x y

-- the least or the greatest of these
abbrev pub furthest : Extreme → Object → List Object → Object
furthest way x [] = x
furthest way x (y ∷ ys) = if is_further way x y then furthest way y ys else furthest way x ys

-- what MIN and MAX give of their arguments, which are numbers
abbrev pub extreme : Extreme → List Object → FunctionValue
extreme way [] = Err ARGUMENT_KIND
extreme way (x ∷ xs) = if list_all is_number (x ∷ xs) then Ok (furthest way x xs) else Err ARGUMENT_KIND
