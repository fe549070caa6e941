-- The kinds of arguments, and what an argument of each stands for.
use Rattle.std.specs.Prelude.{ℕ, ℤ, Bool, true, false, if◌then◌else◌, List, [], ◌∷◌, Option, Some, None, option_map}
use Rattle.std.specs.Str.{bytes_eq}
use Rattle.std.specs.Option.{option_and_then}
use Rattle.lisp_object.specs.Object.{Object, integer, character, text, symbol, pair, nil, is_nil}
use Rattle.readtable_core.specs.declared.table.Case.{Case}
use Rattle.readtable_core.specs.declared.table.Case.TheVariants.{Upcase, Downcase, Preserve, Invert}
use Rattle.readtable_core.specs.Cases.{case_name}
use Rattle.package_table.specs.Table.{Name, keyword}
use Rattle.plist_state.specs.Properties.{Symbol}
use Rattle.plist_state.specs.State.{standard_name}

-- the symbol that an object is, if it is one with a home
abbrev pub a_symbol : Object → Option Symbol
a_symbol (symbol home name) = Some (home, name)
a_symbol _ = None

-- a designator of a name (standard 11.1): a text, or a symbol, which stands for its name
abbrev pub a_name : Object → Option Name
a_name (text characters) = Some characters
a_name (symbol home name) = Some name
a_name _ = None

-- the characters of a text
abbrev pub a_text : Object → Option Name
a_text (text characters) = Some characters
a_text _ = None

-- the number that an integer is
abbrev pub an_integer : Object → Option ℤ
an_integer (integer n) = Some n
an_integer _ = None

-- the code of a character
abbrev pub a_character : Object → Option ℕ
a_character (character c) = Some c
a_character _ = None

-- a keyword, which names a readtable, a function or a case
abbrev pub a_keyword : Object → Option Name
a_keyword (symbol home name) = if bytes_eq home keyword then Some name else None
a_keyword _ = None

-- a readtable to take from: a keyword, or NIL for the standard one
abbrev pub a_source : Object → Option Name
a_source (symbol home name) = if is_nil home name then Some standard_name else a_keyword (symbol home name)
a_source _ = None

-- the case of a keyword's name (standard 23.1.2)
abbrev pub case_named : Name → Option Case
case_named name =
    if bytes_eq name (case_name Upcase) then Some Upcase
    else (if bytes_eq name (case_name Downcase) then Some Downcase
    else (if bytes_eq name (case_name Preserve) then Some Preserve
    else (if bytes_eq name (case_name Invert) then Some Invert
    else None)))

-- the case that a keyword names
abbrev pub a_case : Object → Option Case
a_case x = option_and_then case_named (a_keyword x)

module _ {A : Type 0} (kind : Object → Option A) where
  -- a proper list of such
  abbrev pub each_of : Object → Option (List A)
  each_of (pair x xs) = option_and_then (λ y. option_map (λ ys. y ∷ ys) (each_of xs)) (kind x)
  each_of (symbol home name) = if is_nil home name then Some [] else None
  each_of _ = None

  -- one such, or a list of them; NIL is the empty list
  abbrev pub one_or_each : Object → Option (List A)
  one_or_each (pair x xs) = each_of (pair x xs)
  one_or_each (symbol home name) = if is_nil home name then Some [] else option_map (λ y. y ∷ []) (kind (symbol home name))
  one_or_each x = option_map (λ y. y ∷ []) (kind x)

  -- what the first of these arguments stands for, and else what is put in its place
  abbrev pub given_or : A → List Object → Option A
  given_or default [] = Some default
  given_or default (x ∷ xs) = kind x

-- the first of these arguments, and NIL where there is none
abbrev pub given_or_nil : List Object → Object
given_or_nil [] = nil
given_or_nil (x ∷ xs) = x

-- NIL is false (standard 1.4.1.4.1)
abbrev pub is_true : Object → Bool
is_true (symbol home name) = if is_nil home name then false else true
is_true _ = true

-- whether it is a list with an item
abbrev pub is_pair : Object → Bool
is_pair (pair x xs) = true
is_pair _ = false
