-- Text for a line of a terminal.
use Rattle.std.specs.Prelude.{ℕ, ◌+◌, ◌/◌, ◌%◌, ◌||◌, if◌then◌else◌, List, [], ◌∷◌, nat_eq, nat_lt}
use Rattle.std.specs.List.{flat_map}

-- a digit in base 16: 0 to 9, A to F
abbrev pub hexadecimal : ℕ → ℕ
hexadecimal value = if nat_lt value 10 then 48 + value else 55 + value

-- a backslash as two; a control character, and a byte over 126, as a backslash, an x and two digits; any other as it is
abbrev pub escaped_byte : ℕ → List ℕ
escaped_byte byte =
    if nat_eq byte 92 then 92 ∷ 92 ∷ []
    else (if nat_lt byte 32 || nat_lt 126 byte then 92 ∷ 120 ∷ hexadecimal (byte / 16) ∷ hexadecimal (byte % 16) ∷ []
    else byte ∷ [])

-- a text as a terminal shows it: each byte as a line can have it
abbrev pub shown_for_terminal : List ℕ → List ℕ
shown_for_terminal text = flat_map escaped_byte text
