-- Ratios in lowest terms (standard 2.3.2): a denominator over 1 that has no divisor but 1 in common with the numerator.
use Rattle.std.specs.Prelude.{ℕ, ◌<◌, ℤ, unsigned_abs}
use Rattle.std.specs.Int.{IsGcd}

-- a ratio in lowest terms
pub record IsLowest (n : ℤ) (d : ℕ) : Type 0 where
  pub over_one : 1 < d
  pub coprime : IsGcd (unsigned_abs n) d 1
