-- The characters of the standard character set and its semi-standard ones: the bytes below 128.
use Rattle.std.specs.Prelude.{ℕ, Bool, nat_lt}

-- a character of the language: a byte below 128
abbrev pub is_ascii : ℕ → Bool
is_ascii byte = nat_lt byte 128
