-- Rows of the definition, under the standard readtable with some functions of a user, and the limits of a form.
use Rattle.std.proofs.Common.{◌≡◌, ℕ, ◌++◌, List, [], ◌∷◌, replicate, set, Option, Some, None, pos, codes, refl}
use Rattle.std.specs.Prelude.{if◌then◌else◌}
use Rattle.std.specs.Str.{bytes_eq}
use Rattle.lisp_object.specs.Object.{Object, integer, symbol, uninterned, character, vector, nil, list_of, text as text_object}
use Rattle.readtable_core.specs.Tables.{Table, CharacterEntry, standard, entry_at}
use Rattle.readtable_core.specs.declared.characters.Syntax.TheVariants.{Whitespace, TerminatingMacro}
use Rattle.package_table.specs.Table.{initial}
use Rattle.token_scan.specs.Tokens.{outside}
use Rattle.token_meaning.specs.Numerals as numerals
use Rattle.std_macros.specs.Values.{last_of}
use Rattle.user_macros.specs.declared.call.Gather.{Gather}
use Rattle.user_macros.specs.declared.call.Gather.TheVariants as ways
use Rattle.user_macros.specs.Calls.{Material, MacroCall, MacroAnswer, value, no_value}
use Rattle.user_macros.specs.Calls as words
use Rattle.lisp_reading.specs.Plans.{then_plan, loop_in, run}
use Rattle.lisp_reading.specs.Setting.{Setting}
use Rattle.lisp_reading.specs.Reading.{ReadingResult, form, empty, refused, inner, reads_in, reads}

-- ---- a small setting

abbrev user : List ℕ → Object
user own = symbol (codes "COMMON-LISP-USER") own

abbrev lisp : List ℕ → Object
lisp own = symbol (codes "COMMON-LISP") own

-- the functions of the user
abbrev way_of : List ℕ → Option Gather
way_of f =
    if bytes_eq f (codes "MUTE") then Some ways.Token
    else (if bytes_eq f (codes "LIST-OF") then Some (ways.Until 93)
    else (if bytes_eq f (codes "NEXT") then Some ways.Next
    else (if bytes_eq f (codes "TEXT") then Some (ways.Text 125)
    else (if bytes_eq f (codes "SAME") then Some ways.TextSame
    else (if bytes_eq f (codes "LINE") then Some ways.Line
    else (if bytes_eq f (codes "TOKEN") then Some ways.Token
    else (if bytes_eq f (codes "SKIP") then Some ways.Next
    else (if bytes_eq f (codes "REFUSE") then Some ways.Nothing
    else (if bytes_eq f (codes "ALIEN") then Some ways.Nothing
    else (if bytes_eq f (codes "CALL") then Some ways.Nothing
    else None))))))))))

abbrev of_material : Material → Object
of_material words.Material.nothing = lisp (codes "NIL")
of_material (words.Material.one x) = list_of (user (codes "ONE") ∷ x ∷ [])
of_material (words.Material.many xs) = vector (list_of xs)
of_material (words.Material.text cs) = text_object cs

abbrev number_or : Option ℕ → Object
number_or None = nil
number_or (Some n) = integer (pos n)

abbrev answer_of : List ℕ → MacroCall → MacroAnswer
answer_of f call =
    if bytes_eq f (codes "MUTE") then no_value
    else (if bytes_eq f (codes "SKIP") then no_value
    else (if bytes_eq f (codes "REFUSE") then words.MacroAnswer.refused 7
    else (if bytes_eq f (codes "ALIEN") then value (lisp (codes "ALIEN"))
    else (if bytes_eq f (codes "CALL") then value (list_of (integer (pos call.character) ∷ number_or call.sub ∷ number_or call.number ∷ []))
    else value (of_material call.gathered)))))

abbrev at_char : Table → ℕ → CharacterEntry → Table
at_char table c e = record table { entries = set table.entries c e }

abbrev macro_entry : List ℕ → CharacterEntry
macro_entry f = record { syntax = TerminatingMacro; function = Some f; dispatch = [] }

-- [ LIST-OF, ! NEXT, { TEXT, $ SAME, & LINE, ~ TOKEN, ^ SKIP, ] REFUSE, #M (also #m) CALL
unfoldable own_table : Table
own_table =
    at_char (at_char (at_char (at_char (at_char (at_char (at_char (at_char (at_char standard
    91 (macro_entry (codes "LIST-OF"))) 33 (macro_entry (codes "NEXT"))) 123 (macro_entry (codes "TEXT"))) 36 (macro_entry (codes "SAME")))
    38 (macro_entry (codes "LINE"))) 126 (macro_entry (codes "TOKEN"))) 94 (macro_entry (codes "SKIP"))) 93 (macro_entry (codes "REFUSE")))
    35 (record (entry_at standard 35) { dispatch = set (entry_at standard 35).dispatch 77 (Some (codes "CALL")) })

abbrev small : Table → Setting
small table = record {
  limits = record { text = 1048576; token = 4096; nesting = 100 };
  table = table;
  base = 10;
  packages = initial;
  current = codes "COMMON-LISP-USER";
  way = way_of;
  answer = answer_of;
}

-- ---- rows: a text, and its outcome

abbrev outcomes : (List ℕ → ReadingResult) → List (List ℕ × ReadingResult) → List ReadingResult
outcomes f [] = []
outcomes f (r ∷ rs) = f r.0 ∷ outcomes f rs

abbrev expected : List (List ℕ × ReadingResult) → List ReadingResult
expected [] = []
expected (r ∷ rs) = r.1 ∷ expected rs

-- everything that a row computes through
unfoldable read : List ℕ → ReadingResult
unfolding reads reads_in run then_plan inner loop_in outside numerals.numeral_value own_table standard last_of
read text = reads (small own_table) text

abbrev first_rows : List (List ℕ × ReadingResult)
first_rows =
    (codes "  ", empty)
    ∷ (codes " 12 (3)", form (integer (pos 12)) 1 3 4)
    ∷ (codes "()", form nil 0 2 2)
    ∷ (codes "(1 . (1)) ", form (list_of (integer (pos 1) ∷ integer (pos 1) ∷ [])) 0 9 9)
    ∷ (codes "(1 . 2 3)", refused 5 8)
    ∷ (codes "(1 . )", refused 5 5)
    ∷ (replicate 101 40, refused 22 100)
    ∷ (codes "^1 2", form (integer (pos 2)) 3 4 4)
    ∷ (codes "(^1 2^3)", form (list_of (integer (pos 2) ∷ [])) 0 8 8)
    ∷ (codes " (1 ])", refused 20 5)
    ∷ (codes "#12m ", form (list_of (integer (pos 35) ∷ integer (pos 77) ∷ integer (pos 12) ∷ [])) 0 4 4)
    ∷ (codes "#12k", refused 14 3)
    ∷ (codes "$a b$c", form (text_object (codes "a b")) 0 5 5)
    ∷ (codes "&a b", form (text_object (codes "a b")) 0 4 4)
    ∷ (codes "~ a", form (text_object (codes "")) 0 1 2)
    ∷ (codes "(~a|B c|\\d)", form (list_of (text_object (codes "aB cd") ∷ [])) 0 11 11)
    ∷ (codes "#|1|#2", form (integer (pos 2)) 5 6 6)
    ∷ (codes "#|1#|2|#3|#4", form (integer (pos 4)) 11 12 12)
    ∷ (codes "12\"3\"", form (integer (pos 12)) 0 2 2)
    ∷ (codes "#\\)", form (character 41) 0 3 3)
    ∷ (codes "(1 2", refused 1 4)
    ∷ (codes "'1 ", form (list_of (lisp (codes "QUOTE") ∷ integer (pos 1) ∷ [])) 0 2 3)
    ∷ (codes "(')", refused 4 2)
    ∷ (codes "#1000000m", refused 15 7)
    ∷ []

first_rows_read : outcomes read first_rows ≡ expected first_rows
unfolding read
first_rows_read = refl

-- ---- a readtable whose closing brackets are whitespace

abbrev blank_entry : CharacterEntry
blank_entry = record { syntax = Whitespace; function = None; dispatch = [] }

unfoldable read_blank : List ℕ → ReadingResult
unfolding reads reads_in run then_plan inner loop_in outside numerals.numeral_value own_table standard last_of
read_blank text = reads (small (at_char (at_char own_table 93 blank_entry) 41 blank_entry)) text

abbrev blank_rows : List (List ℕ × ReadingResult)
blank_rows =
    (codes "[1 2]", refused 1 5)
    ∷ (codes "[1 2 ]", form (vector (list_of (integer (pos 1) ∷ integer (pos 2) ∷ []))) 0 6 6)
    ∷ (codes "'(1(2)3)", refused 1 8)
    -- a call without a value discards the whitespace of the object that it gathered, and none of a token
    ∷ (codes "[^1]]", form (vector nil) 0 5 5)
    ∷ []

blank_rows_read : outcomes read_blank blank_rows ≡ expected blank_rows
unfolding read_blank
blank_rows_read = refl

unfoldable read_mute : List ℕ → ReadingResult
unfolding reads reads_in run then_plan inner loop_in outside numerals.numeral_value own_table standard last_of
read_mute text = reads (small (at_char (at_char own_table 93 blank_entry) 37 (macro_entry (codes "MUTE")))) text

blank_after_mute : read_mute (codes "[%a]") ≡ form (vector nil) 0 4 4
unfolding read_mute
blank_after_mute = refl

-- ---- small limits

unfoldable read_short : List ℕ → ReadingResult
unfolding reads reads_in run then_plan inner loop_in outside numerals.numeral_value own_table standard last_of
read_short text = reads (record (small own_table) { limits = record { text = 5; token = 3; nesting = 2 } }) text

abbrev short_rows : List (List ℕ × ReadingResult)
short_rows =
    (codes "(1 2)", form (list_of (integer (pos 1) ∷ integer (pos 2) ∷ [])) 0 5 5)
    ∷ (codes "(1 23", refused 1 5)
    ∷ (codes "(1 2 3)", refused 23 5)
    ∷ (codes "(1 234ef)", refused 23 5)
    ∷ (codes "abcd", refused 24 3)
    -- blanks before a form are not counted
    ∷ (codes "     ^1 (1 2)", form (list_of (integer (pos 1) ∷ integer (pos 2) ∷ [])) 8 13 13)
    -- the end of the input where a token of the last bytes is not closed
    ∷ (codes "(|ab", refused 1 4)
    ∷ (codes "(|abc", refused 1 5)
    ∷ (codes "(|abc|)", refused 23 5)
    ∷ (codes "abc\\", refused 1 4)
    ∷ []

short_rows_read : outcomes read_short short_rows ≡ expected short_rows
unfolding read_short
short_rows_read = refl

-- ---- a text of over 200 bytes

long_text : read (34 ∷ replicate 200 97 ++ 34 ∷ []) ≡ form (text_object (replicate 200 97)) 0 202 202
unfolding read
long_text = refl

-- ---- refusals

abbrev refusal_rows : List (List ℕ × ReadingResult)
refusal_rows =
    (codes "(1 ,2)", refused 25 3)
    ∷ (codes "#.a", refused 25 1)
    ∷ (codes "#r1", refused 15 1)
    ∷ (codes "#37r1", refused 15 3)
    ∷ (34 ∷ 195 ∷ [], refused 2 1)
    ∷ (codes "#1" ++ 195 ∷ [], refused 2 2)
    ∷ (codes "#|a" ++ 195 ∷ [], refused 2 3)
    ∷ (replicate 100 40 ++ codes "#m", refused 21 102)
    ∷ (replicate 99 40 ++ codes "#m", refused 1 101)
    ∷ (codes "!", refused 1 1)
    ∷ (codes "#(1 .)", refused 5 5)
    ∷ (codes ". ", refused 5 1)
    ∷ (codes "(1 . #|x|#)", refused 5 10)
    ∷ (codes "('1  2)", form (list_of (list_of (lisp (codes "QUOTE") ∷ integer (pos 1) ∷ []) ∷ integer (pos 2) ∷ [])) 0 7 7)
    ∷ []

refusal_rows_read : outcomes read refusal_rows ≡ expected refusal_rows
unfolding read
refusal_rows_read = refl

-- ---- packages, characters, rationals, vectors

abbrev value_rows : List (List ℕ × ReadingResult)
value_rows =
    (codes ":k ", form (symbol (codes "KEYWORD") (codes "K")) 0 2 3)
    ∷ (codes "NOPE::", refused 10 6)
    ∷ (codes "1.5", refused 7 3)
    ∷ (codes "(...)", refused 6 4)
    ∷ (codes "#\\Sp|ace| ", form (character 32) 0 9 10)
    ∷ (codes "#\\foo)", refused 16 5)
    ∷ (codes "#xFF", form (integer (pos 255)) 0 4 4)
    ∷ (codes "#36rZ ", form (integer (pos 35)) 0 5 6)
    ∷ (codes "#b1. ", refused 17 4)
    ∷ (codes "#3(1)", form (vector (list_of (integer (pos 1) ∷ integer (pos 1) ∷ integer (pos 1) ∷ []))) 0 5 5)
    ∷ (codes "#2(1 2 3)", refused 18 9)
    ∷ (codes "#:1 ", form (uninterned (codes "1")) 0 3 4)
    ∷ (codes "#:a:b", refused 19 5)
    ∷ (codes "1.5" ++ 195 ∷ [], refused 2 3)
    ∷ []

value_rows_read : outcomes read value_rows ≡ expected value_rows
unfolding read
value_rows_read = refl
