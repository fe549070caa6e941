-- The value of a quotient (standard 2.3.1, 2.3.2): an integer, or a ratio reduced by the greatest number that divides both parts.
use Rattle.std.specs.Prelude.{ℕ, zero, suc, ◌/◌, ◌%◌, ◌==◌, ℤ, pos, Bool, ◌&&◌, if◌then◌else◌, Option, None, Some, unsigned_abs, int_div}
use Rattle.lisp_object.specs.Object.{Object, integer, rational}

-- whether the first divides the second
abbrev pub divides : ℕ → ℕ → Bool
divides k n = n % k == 0

-- the greatest number up to the third that divides the first two
unfoldable pub greatest_divisor : ℕ → ℕ → ℕ → ℕ
greatest_divisor a b zero = 0
greatest_divisor a b (suc k) = if divides (suc k) a && divides (suc k) b then suc k else greatest_divisor a b k

-- the greatest number that divides both, where the second is over 0
abbrev pub gcd : ℕ → ℕ → ℕ
gcd a b = greatest_divisor a b b

-- both parts divided by the third; with the denominator 1 it is an integer
abbrev pub divided : ℤ → ℕ → ℕ → Object
divided n d g = if d / g == 1 then integer (int_div n (pos g)) else rational (int_div n (pos g)) (d / g)

-- no value where the denominator is 0
abbrev pub quotient : ℤ → ℕ → Option Object
quotient n d = if d == 0 then None else Some (divided n d (gcd (unsigned_abs n) d))
