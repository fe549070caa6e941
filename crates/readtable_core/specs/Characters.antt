-- The 128 characters: the syntax type of each in the standard readtable (standard 2.1.4), and the traits of each, which are
-- the same in every readtable (standard 2.1.4.2). Both are finite tables, read from the top. A number beyond 127 is no
-- character: it is of type invalid and has the trait invalid.
use Rattle.std.specs.Prelude.{ℕ, Bool, true, false, nat_le, ◌==◌, ◌&&◌, ◌||◌, ◌-◌, if◌then◌else◌, List, [], ◌∷◌}
use Rattle.std.specs.Char.{char_set_contains}
use Rattle.readtable_core.specs.declared.characters.Syntax.{Syntax}
use Rattle.readtable_core.specs.declared.characters.Syntax.TheVariants.{Whitespace, Constituent, TerminatingMacro, NonTerminatingMacro, SingleEscape, MultipleEscape, Invalid}
use Rattle.readtable_core.specs.declared.characters.Traits.{Traits}
use Rattle.readtable_core.specs.declared.characters.Traits.TheVariants.{Invalid as InvalidTrait, PackageMarker, PlusSign, MinusSign, RatioMarker, Dot, Digit, Letter, Alphabetic}

-- the numbers of the syntax types in files
abbrev pub syntax_number : Syntax → ℕ
syntax_number Whitespace = 0
syntax_number Constituent = 1
syntax_number TerminatingMacro = 2
syntax_number NonTerminatingMacro = 3
syntax_number SingleEscape = 4
syntax_number MultipleEscape = 5
syntax_number Invalid = 6

abbrev pub is_upper_case : ℕ → Bool
is_upper_case c = nat_le 65 c && nat_le c 90

abbrev pub is_lower_case : ℕ → Bool
is_lower_case c = nat_le 97 c && nat_le c 122

abbrev pub is_digit : ℕ → Bool
is_digit c = nat_le 48 c && nat_le c 57

-- a lower-case letter becomes its upper-case letter, and all else stays
abbrev pub upper_case : ℕ → ℕ
upper_case c = if is_lower_case c then c - 32 else c

-- Tab, Newline, Page, Return, Space, Rubout
abbrev pub standard_whitespace : List ℕ
standard_whitespace = 9 ∷ 10 ∷ 12 ∷ 13 ∷ 32 ∷ 127 ∷ []

-- the double quote, the quote, both parentheses, comma, semicolon, backquote
abbrev pub standard_terminating : List ℕ
standard_terminating = 34 ∷ 39 ∷ 40 ∷ 41 ∷ 44 ∷ 59 ∷ 96 ∷ []

-- 35 is #, 92 the backslash, 124 the bar, and 8 Backspace. Printing characters run from 33 to 126.
abbrev pub standard_syntax : ℕ → Syntax
standard_syntax c =
    if char_set_contains standard_whitespace c then Whitespace
    else (if char_set_contains standard_terminating c then TerminatingMacro
    else (if c == 35 then NonTerminatingMacro
    else (if c == 92 then SingleEscape
    else (if c == 124 then MultipleEscape
    else (if c == 8 || (nat_le 33 c && nat_le c 126) then Constituent
    else Invalid)))))

-- 58 is the colon, 43 plus, 45 minus, 47 the slash, 46 the dot
abbrev pub traits : ℕ → Traits
traits c =
    if nat_le c 32 || nat_le 127 c then InvalidTrait
    else (if c == 58 then PackageMarker
    else (if c == 43 then PlusSign
    else (if c == 45 then MinusSign
    else (if c == 47 then RatioMarker
    else (if c == 46 then Dot
    else (if is_digit c then Digit
    else (if is_upper_case c || is_lower_case c then Letter
    else Alphabetic)))))))

-- whether a token may not have this character unless it is escaped
abbrev pub is_invalid_trait : Traits → Bool
is_invalid_trait InvalidTrait = true
is_invalid_trait _ = false

-- an unescaped constituent with this trait is refused in a token
abbrev pub has_invalid_trait : ℕ → Bool
has_invalid_trait c = is_invalid_trait (traits c)
