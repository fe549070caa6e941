-- When two objects are the same (standard 5.3).
use Rattle.std.specs.Prelude.{ℕ, ◌==◌, Bool, false, ◌&&◌, List, [], ◌∷◌, Ok, Err}
use Rattle.std.specs.Str.{bytes_eq}
use Rattle.std.specs.Ordering.{int_eq}
use Rattle.lisp_object.specs.Object.{Object, integer, rational, character, text, symbol, pair}
use Rattle.lisp_object.specs.declared.refusal.TheConstants.{ARGUMENT_KIND}
use Rattle.value_functions.specs.declared.functions.Equality.{Equality}
use Rattle.value_functions.specs.declared.functions.Equality.TheVariants.{Eql, Equal}
use Rattle.value_functions.specs.FunctionAnswers.{FunctionValue, truth_value}

-- EQL: one number of one type, one character, or one interned symbol. Values have no identity: a text, a pair, a vector or an
-- uninterned symbol is EQL to nothing, as two that were made apart are not.
abbrev pub is_eql : Object → Object → Bool
is_eql (integer m) (integer n) = int_eq m n
is_eql (rational m d) (rational n e) = int_eq m n && d == e
is_eql (character c) (character d) = c == d
is_eql (symbol home name) (symbol other named) = bytes_eq home other && bytes_eq name named
is_eql _ _ = false

-- EQUAL: texts and pairs by what they hold, and all else by EQL
abbrev pub is_equal : Object → Object → Bool
is_equal (text a) (text b) = bytes_eq a b
is_equal (pair a b) (pair c d) = is_equal a c && is_equal b d
is_equal x y = is_eql x y

-- whether two objects are one to EQL, or to EQUAL
abbrev pub is_same : Equality → Object → Object → Bool
is_same Eql x y = is_eql x y
is_same Equal x y = is_equal x y

-- what EQL and EQUAL give of their two arguments
abbrev pub equality : Equality → List Object → FunctionValue
equality test (x ∷ y ∷ []) = Ok (truth_value (is_same test x y))
equality test _ = Err ARGUMENT_KIND
