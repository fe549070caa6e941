-- How names are written (standard 22.1.3.3): as they are if they read back so, and else between bars.
use Rattle.std.specs.Prelude.{ℕ, ◌==◌, Bool, false, ◌&&◌, ◌||◌, nat_lt, nat_le, if◌then◌else◌, List, [], ◌∷◌, ◌++◌, codes}
use Rattle.std.specs.List.{list_any, list_all, flat_map}
use Rattle.std.specs.Char.{is_ascii_digit, is_ascii_uppercase}
use Rattle.std.specs.Str.{byte}

-- whether the character is one of these
abbrev pub is_one_of : List ℕ → ℕ → Bool
is_one_of characters c = list_any (λ d. d == c) characters

-- each character, with a backslash before those that pass the test (standard 2.1.4.6)
abbrev pub with_backslashes : (ℕ → Bool) → List ℕ → List ℕ
with_backslashes test = flat_map (λ c. if test c then codes "\\" ++ c ∷ [] else c ∷ [])

-- what a plain name may begin with: a capital letter or one of these
abbrev pub begins_plain : ℕ → Bool
begins_plain c = is_ascii_uppercase c || is_one_of (codes "*!$<>=?%&_") c

-- what may come after it
abbrev pub goes_on_plain : ℕ → Bool
goes_on_plain c = begins_plain c || is_ascii_digit c || is_one_of (codes "+-/") c

-- a name that reads back as itself: it is no number, has no package marker, and no character in it changes
abbrev pub is_plain : List ℕ → Bool
is_plain [] = false
is_plain (c ∷ cs) = begins_plain c && list_all goes_on_plain cs

-- of syntax type invalid in the standard readtable (standard 2.1.4.3): the codes that no character of the standard has
abbrev pub is_invalid : ℕ → Bool
is_invalid c = nat_lt c 8 || c == 11 || (nat_le 14 c && nat_lt c 32)

-- what needs a backslash between bars (standard 2.1.4.5)
abbrev pub is_escaped_in_bars : ℕ → Bool
is_escaped_in_bars c = c == byte "|" || c == byte "\\" || is_invalid c

-- a name as it is where it is plain, and else between bars
abbrev pub printed_name : List ℕ → List ℕ
printed_name name =
    if is_plain name then name else codes "|" ++ with_backslashes is_escaped_in_bars name ++ codes "|"
