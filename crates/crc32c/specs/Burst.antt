-- Damage that stands together.
use Rattle.std.specs.Prelude.{◌≡◌, ◌≢◌, ℕ, ◌≤◌, List, ◌++◌, length}
use Rattle.crc32c.specs.Register.{text_bits}

-- These two texts differ, in no bits but some of so many that stand together.
pub record IsBurst (most : ℕ) (text other : List ℕ) : Type 0 where
  pub front : List ℕ
  pub was : List ℕ
  pub is : List ℕ
  pub behind : List ℕ
  pub of_text : text_bits text ≡ front ++ was ++ behind
  pub of_other : text_bits other ≡ front ++ is ++ behind
  pub as_long : length is ≡ length was
  pub within : length was ≤ most
  pub differ : is ≢ was
