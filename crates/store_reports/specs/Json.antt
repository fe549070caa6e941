-- Text of JSON (RFC 8259).
use Rattle.std.specs.Prelude.{ℕ, ◌/◌, ◌%◌, ◌^◌, ◌||◌, if◌then◌else◌, List, [], ◌∷◌, ◌++◌, decimal, nat_eq, nat_lt}
use Rattle.std.specs.List.{flat_map}
use Rattle.store_reports.specs.EscapedText.{hexadecimal}

-- A character of a string: a quotation mark and a backslash behind a backslash; a control character, and a byte over 126, as its number in four
-- digits of base 16; any other as it is.
abbrev pub json_byte : ℕ → List ℕ
json_byte byte =
    if nat_eq byte 34 || nat_eq byte 92 then 92 ∷ byte ∷ []
    else (if nat_lt byte 32 || nat_lt 126 byte then 92 ∷ 117 ∷ 48 ∷ 48 ∷ hexadecimal (byte / 16) ∷ hexadecimal (byte % 16) ∷ []
    else byte ∷ [])

-- a string of these characters
unfoldable pub json_string : List ℕ → List ℕ
json_string text = 34 ∷ [] ++ flat_map json_byte text ++ 34 ∷ []

-- a number; from 2^53 on, where many readers keep no more of it, its digits as a string
unfoldable pub json_number : ℕ → List ℕ
json_number n = if nat_lt n (2 ^ 53) then decimal n else 34 ∷ [] ++ decimal n ++ 34 ∷ []

-- a member of an object: its name, and a string or a number
unfoldable pub string_member : List ℕ → List ℕ → List ℕ
string_member name text = json_string name ++ 58 ∷ [] ++ json_string text

-- a member of an object of JSON, which is a number
unfoldable pub number_member : List ℕ → ℕ → List ℕ
number_member name n = json_string name ++ 58 ∷ [] ++ json_number n
