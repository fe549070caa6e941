-- Names, symbols and texts as they stand in the forms of a world, which are read in COMMON-LISP-USER.
use Rattle.std.specs.Prelude.{ℕ, ◌+◌, ◌/◌, ◌%◌, ◌==◌, Bool, false, ◌&&◌, ◌||◌, nat_lt, if◌then◌else◌, List, [], ◌∷◌, ◌++◌, length, codes}
use Rattle.std.specs.List.{list_all, flat_map}
use Rattle.std.specs.Char.{is_ascii_digit, is_ascii_uppercase}
use Rattle.std.specs.Str.{byte, bytes_eq}
use Rattle.package_table.specs.Table.{Name, common_lisp_user, keyword}
use Rattle.canon_printer.specs.Names.{with_backslashes, is_escaped_in_bars}
use Rattle.canon_printer.specs.Written.{printed_text, printed_character}

-- a form on a line of its own
abbrev pub world_form_line : List ℕ → List ℕ
world_form_line form = form ++ 10 ∷ []

-- ---- symbols

-- whether a character after the first needs no mark round the token
abbrev pub is_plain_after : ℕ → Bool
is_plain_after c = is_ascii_uppercase c || is_ascii_digit c || c == byte "-"

-- a name that every Lisp reads as it stands: a capital letter, and then capital letters, digits and hyphens
abbrev pub is_portable_name : Name → Bool
is_portable_name [] = false
is_portable_name (c ∷ cs) = is_ascii_uppercase c && list_all is_plain_after cs

-- a name as a part of a token: as it stands, or between bars
abbrev pub name_text : Name → List ℕ
name_text name = if is_portable_name name then name else codes "|" ++ with_backslashes is_escaped_in_bars name ++ codes "|"

-- what comes before the name of a symbol
abbrev pub prefix_text : Name → List ℕ
prefix_text home =
    if bytes_eq home keyword then codes ":"
    else (if bytes_eq home common_lisp_user then [] else name_text home ++ codes "::")

-- the token of a symbol
unfoldable pub symbol_text : Name → Name → List ℕ
symbol_text home name = prefix_text home ++ name_text name

-- how many characters of that token come before the name
abbrev pub token_prefix_length : Name → ℕ
token_prefix_length home = if bytes_eq home keyword then 1 else (if bytes_eq home common_lisp_user then 0 else length home + 2)

-- whether the token of a symbol has more characters than a token in a form may have
unfoldable pub is_too_long : Name → Name → Bool
is_too_long home name = nat_lt 4096 (token_prefix_length home + length name)

-- ---- calls

-- a text as an argument
abbrev pub text_argument : List ℕ → List ℕ
text_argument bytes = codes " " ++ printed_text bytes

-- a call of an operator with texts
unfoldable pub call_text : List ℕ → List Name → List ℕ
call_text operator texts = codes "(" ++ operator ++ flat_map text_argument texts ++ codes ")"

-- What evaluates to a symbol: its token between these marks. A symbol whose token is too long is what INTERN finds.
unfoldable pub value_text : (before after : List ℕ) → Name → Name → List ℕ
value_text before after home name =
    if is_too_long home name then call_text (codes "INTERN") (name ∷ home ∷ [])
    else before ++ symbol_text home name ++ after

-- a symbol as an argument that is evaluated
abbrev pub quoted_text : Name → Name → List ℕ
quoted_text = value_text (codes "'") []

-- a keyword, as an argument of a form
abbrev pub keyword_argument : Name → List ℕ
keyword_argument name = codes " " ++ symbol_text keyword name

-- a character, as an argument of a form
abbrev pub character_argument : ℕ → List ℕ
character_argument c = codes " " ++ printed_character c

-- ---- what a terminal is told

-- a digit of base 16
abbrev pub hex_digit : ℕ → ℕ
hex_digit n = if nat_lt n 10 then n + 48 else n + 87

-- a character that a terminal would obey, by its number in base 16; each other one as it is
abbrev pub told_character : ℕ → List ℕ
told_character c = if nat_lt c 32 || c == 127 then codes "\\x" ++ hex_digit (c / 16) ∷ hex_digit (c % 16) ∷ [] else c ∷ []

-- a text for a terminal
abbrev pub told_text : List ℕ → List ℕ
told_text = flat_map told_character
