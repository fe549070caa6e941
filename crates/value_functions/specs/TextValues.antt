-- Texts, and the names of symbols (standard 16.2, 10.2).
use Rattle.std.specs.Prelude.{ℕ, ◌+◌, ◌==◌, nat_lt, pos, if◌then◌else◌, List, [], ◌∷◌, Option, Some, None, Ok, Err}
use Rattle.std.specs.Str.{bytes_eq}
use Rattle.lisp_object.specs.Object.{Object, character, text, symbol, uninterned, nil}
use Rattle.lisp_object.specs.declared.refusal.TheConstants.{ARGUMENT_KIND}
use Rattle.value_functions.specs.declared.functions.OnTexts.{OnTexts}
use Rattle.value_functions.specs.declared.functions.OnTexts.TheVariants.{SameText, TextLess, SymbolName}
use Rattle.value_functions.specs.FunctionAnswers.{FunctionValue, truth_value, if_of_kind, if_in_range}

-- the characters of a symbol's name
abbrev pub a_symbol_name : Object → Option (List ℕ)
a_symbol_name (symbol home name) = Some name
a_symbol_name (uninterned name) = Some name
a_symbol_name _ = None

-- the characters that a string designator stands for (standard 16.2, string): a text, a symbol or a character
abbrev pub a_string : Object → Option (List ℕ)
a_string (text characters) = Some characters
a_string (symbol home name) = Some name
a_string (uninterned name) = Some name
a_string (character c) = Some (c ∷ [])
a_string _ = None

-- Where the first text is less than the second: the place of the first character at which they are not the same, the first text
-- beginning at this place. A text is less than a longer one that begins with it.
abbrev pub less_at : ℕ → List ℕ → List ℕ → Option ℕ
less_at at [] [] = None
less_at at [] (d ∷ ds) = Some at
less_at at (c ∷ cs) [] = None
less_at at (c ∷ cs) (d ∷ ds) = if c == d then less_at (at + 1) cs ds else (if nat_lt c d then Some at else None)

-- a place as an integer, and NIL where there is none
abbrev pub place_or_nil : Option ℕ → FunctionValue
place_or_nil (Some at) = if_in_range (pos at)
place_or_nil None = Ok nil

-- what a function of two texts gives
abbrev pub of_strings : OnTexts → List ℕ → List ℕ → FunctionValue
of_strings SameText a b = Ok (truth_value (bytes_eq a b))
of_strings TextLess a b = place_or_nil (less_at 0 a b)
of_strings SymbolName a b = Err ARGUMENT_KIND

-- what a function of two texts gives of two arguments, which are texts or symbols
abbrev pub with_text : OnTexts → Object → Object → FunctionValue
with_text function x y = if_of_kind (a_string x) (λ a. if_of_kind (a_string y) (of_strings function a))

-- what a function of one argument gives
abbrev pub of_text : OnTexts → Object → FunctionValue
of_text SymbolName x = if_of_kind (a_symbol_name x) (λ name. Ok (text name))
of_text _ x = Err ARGUMENT_KIND

-- what a function on texts gives of its arguments: one or two of them
abbrev pub on_texts : OnTexts → List Object → FunctionValue
on_texts function (x ∷ []) = of_text function x
on_texts function (x ∷ y ∷ []) = with_text function x y
on_texts function _ = Err ARGUMENT_KIND
