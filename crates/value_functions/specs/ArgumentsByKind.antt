-- What an argument is, where it is of a kind.
use Rattle.std.specs.Prelude.{ℕ, ℤ, Option, Some, None}
use Rattle.lisp_object.specs.Object.{Object, rational}

-- the numerator and the denominator of a ratio that is no integer
abbrev pub a_ratio : Object → Option (ℤ × ℕ)
a_ratio (rational n d) = Some (n, d)
a_ratio _ = None
