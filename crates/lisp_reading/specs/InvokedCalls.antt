-- The call that invoked a function.
use Rattle.std.specs.Prelude.{ℕ, Option, unwrap_or}
use Rattle.lisp_reading.specs.declared.way.Function.{Function}
use Rattle.lisp_reading.specs.declared.way.Function.TheVariants.{Standard as AStandard, User}
use Rattle.lisp_reading.specs.declared.way.Keep.{Keep}
use Rattle.lisp_reading.specs.declared.way.Keep.TheVariants.{Kept, Dropped}

-- the function, the macro character, the sub-character in upper case and the number
pub record InvokedCall : Type 0 where
  pub function : Function
  pub character : ℕ
  pub sub : Option ℕ
  pub number : Option ℕ

-- the caller: the sub-character where there is one
abbrev pub caller : InvokedCall → ℕ
caller call = unwrap_or call.sub call.character

-- what it does with the characters of a line: a function of a user is given them
abbrev pub keep_of : Function → Keep
keep_of (AStandard kind) = Dropped
keep_of (User name) = Kept
