-- Numbers at the front of bytes.
use Rattle.std.specs.Prelude.{ℕ, ◌≡◌, ◌+◌, ◌*◌, ◌-◌, ◌<◌, ◌≤◌, ◌⊎◌, List, [], ◌∷◌, ◌++◌, Option, Some, None, Result, Ok, Err, unwrap_or, IsSome}
use Rattle.std.specs.Borrow.{Bor}
use Rattle.std.specs.Fmt.{decimal}
use Rattle.message_frames.specs.declared.words.NotWhole.{NotWhole}
use Rattle.message_frames.specs.declared.number.Role.{Role}
use Rattle.message_frames.specs.declared.number.Role.TheVariants.{Digit, End, Other}
use Rattle.message_frames.specs.Words.{Reads}

-- a number, and the byte that ends it
abbrev pub number_word : ℕ → ℕ → List ℕ
number_word end number = decimal number ++ end ∷ []

-- a number that was found, and what stands after it
abbrev pub found_of : Result (ℕ × Bor (List ℕ)) NotWhole → Result (ℕ × List ℕ) NotWhole
found_of (Ok found) = Ok (found.0, found.1.now)
found_of (Err fault) = Err fault

-- what was read at the front of these bytes is a number up to this one, that ends at this byte
abbrev pub ReadsNumber : ℕ → ℕ → List ℕ → Result (ℕ × Bor (List ℕ)) NotWhole → Type 0
ReadsNumber end most bytes result = Reads (number_word end) (λ n. n ≤ most) bytes (found_of result)

-- the digits of a number so far
abbrev pub digits_of : Option ℕ → List ℕ
digits_of None = []
digits_of (Some number) = decimal number

-- a decimal digit
abbrev pub IsDigit : ℕ → Type 0
IsDigit byte = (48 ≤ byte) × (byte ≤ 57)

-- this byte is a digit that may come after those of a number, and more is the number then
pub record AddsDigit (number : Option ℕ) (byte most more : ℕ) : Type 0 where
  pub digit : IsDigit byte
  pub first : number ≡ Some 0 → ⊥
  pub worth : more ≡ unwrap_or number 0 * 10 + (byte - 48)
  pub within : more ≤ most

-- it is none, or the digit before it is a leading zero, or the number would be too great
abbrev pub AddsNone : Option ℕ → ℕ → ℕ → Type 0
AddsNone number byte most = (IsDigit byte → ⊥) ⊎ (number ≡ Some 0) ⊎ (IsDigit byte × (most < unwrap_or number 0 * 10 + (byte - 48)))

-- what a byte is after the digits of a number
abbrev pub HasRole : ℕ → Option ℕ → ℕ → ℕ → Role → Type 0
HasRole byte number most end (Digit more) = AddsDigit number byte most more
HasRole byte number most end (End whole) = (number ≡ Some whole) × (byte ≡ end)
HasRole byte number most end Other = AddsNone number byte most × (IsSome number → byte ≡ end → ⊥)
