-- How objects are written (standard 22.1.3). What comes before the name of an interned symbol is left open here:
-- `prefix home name`. Printed.antt says what it is.
use Rattle.std.specs.Global.{Vec}
use Rattle.std.specs.Prelude.{◌≡◌, ℕ, ℤ, ◌==◌, Bool, false, ◌||◌, if◌then◌else◌, List, [], ◌∷◌, ◌++◌, codes, decimal}
use Rattle.std.specs.Fmt.{signed_decimal}
use Rattle.std.specs.List.{flat_map}
use Rattle.std.specs.Str.{byte}
use Rattle.lisp_object.specs.Object.{Object, integer, rational, character, text, symbol, uninterned, pair, vector, is_nil}
use Rattle.canon_printer.specs.Names.{with_backslashes, printed_name}

-- a numerator and a denominator (standard 22.1.3.1.2)
abbrev pub printed_ratio : ℤ → ℕ → List ℕ
printed_ratio n d = signed_decimal n ++ codes "/" ++ decimal d

-- the names of characters (standard 13.1.7); another character is written as it is
abbrev pub character_name : ℕ → List ℕ
character_name c =
    if c == 8 then codes "Backspace" else
    (if c == 9 then codes "Tab" else
    (if c == 10 then codes "Newline" else
    (if c == 12 then codes "Page" else
    (if c == 13 then codes "Return" else
    (if c == 32 then codes "Space" else
    (if c == 127 then codes "Rubout" else c ∷ []))))))

-- a character (standard 22.1.3.2)
abbrev pub printed_character : ℕ → List ℕ
printed_character c = codes "#\\" ++ character_name c

-- what needs a backslash in a string (standard 22.1.3.4)
abbrev pub is_escaped_in_text : ℕ → Bool
is_escaped_in_text c = c == byte "\"" || c == byte "\\"

-- a string (standard 22.1.3.4)
abbrev pub printed_text : List ℕ → List ℕ
printed_text bytes = codes "\"" ++ with_backslashes is_escaped_in_text bytes ++ codes "\""

-- a symbol without a home package (standard 22.1.3.3.1)
abbrev pub printed_uninterned : List ℕ → List ℕ
printed_uninterned name = codes "#:" ++ printed_name name

-- whether it ends a list that has no object after a dot
abbrev pub ends_list : Object → Bool
ends_list (symbol home name) = is_nil home name
ends_list _ = false

module _ (prefix : List ℕ → List ℕ → List ℕ) where
  -- an object that has no parts (standard 22.1.3.1 to 22.1.3.4)
  abbrev pub written_atom : Object → List ℕ
  written_atom (integer n) = signed_decimal n
  written_atom (rational n d) = printed_ratio n d
  written_atom (character c) = printed_character c
  written_atom (text bytes) = printed_text bytes
  written_atom (symbol home name) = prefix home name ++ printed_name name
  written_atom (uninterned name) = printed_uninterned name
  written_atom _ = []

  abbrev mutual
    -- an object: a list (standard 22.1.3.5), a vector (standard 22.1.3.7), or one that has no parts
    pub written : Object → List ℕ
    written (pair a b) = codes "(" ++ written a ++ written_rest b
    written (vector xs) = codes "#(" ++ written_elements xs
    written x = written_atom x

    -- what comes after an element of a list, up to the parenthesis that closes the list: an end other than NIL has a
    -- dot before it
    pub written_rest : Object → List ℕ
    written_rest (pair a b) = codes " " ++ written a ++ written_rest b
    written_rest (vector xs) = codes " . #(" ++ written_elements xs ++ codes ")"
    written_rest x = if ends_list x then codes ")" else codes " . " ++ written_atom x ++ codes ")"

    -- the elements of a vector, up to the parenthesis that closes it
    pub written_elements : Object → List ℕ
    written_elements (pair a b) = written a ++ written_rest b
    written_elements _ = codes ")"

  -- what comes after the first one of a row of objects: each after a space
  abbrev pub written_others : List Object → List ℕ
  written_others = flat_map (λ x. codes " " ++ written x)

  -- objects in a row, with a space between them
  abbrev pub written_items : List Object → List ℕ
  written_items [] = []
  written_items (x ∷ xs) = written x ++ written_others xs

-- a call has added this to the text
abbrev pub AddsText : Vec ℕ → Vec ℕ → List ℕ → Type 0
AddsText before later added = later.items ≡ before.items ++ added
