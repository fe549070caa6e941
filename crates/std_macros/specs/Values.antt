-- The value of each standard function, for what was gathered (standard 2.4).
use Rattle.std.specs.Prelude.{ℕ, ◌-◌, ◌==◌, ◌&&◌, not, nat_lt, Bool, false, if◌then◌else◌, List, [], ◌∷◌, ◌++◌, length, map, replicate, Option, Some, None, Result, Ok, Err, codes}
use Rattle.std.specs.List.{list_any}
use Rattle.std.specs.Char.{to_ascii_lowercase}
use Rattle.std.specs.Str.{bytes_eq}
use Rattle.lisp_object.specs.Object.{Object, character, text, symbol, uninterned, vector, pairs, list_of, object_size}
use Rattle.readtable_core.specs.declared.table.Case.{Case}
use Rattle.token_scan.specs.declared.mark.Mark.{Mark}
use Rattle.token_scan.specs.Marks.{characters}
use Rattle.token_meaning.specs.declared.refusal.MeaningRefusal.{MeaningRefusal}
use Rattle.token_meaning.specs.Folding.{folded_marks}
use Rattle.token_meaning.specs.Meanings.{is_package_marker, rational_of}
use Rattle.std_macros.specs.declared.kind.Standard.{Standard}
use Rattle.std_macros.specs.declared.kind.Standard.TheVariants.{List as AList, Close, Quote, Comment, String, Out, Char, Function, Vector, Uninterned, Block, Binary, Octal, Hex, Radix}
use Rattle.std_macros.specs.declared.refusal.StdRefusal.{StdRefusal}
use Rattle.std_macros.specs.declared.refusal.StdRefusal.TheVariants.{StrayClose, Rational, NumericArgument, CharacterName, RadixToken, VectorLength, UninternedToken, OutOfProfile}
use Rattle.std_macros.specs.Kinds.{radix_of}

-- what was gathered
pub data Material : Type 0 where
  nothing : Material
  one : Object → Material
  many : List Object → Material
  -- objects, and the one after the dot
  dotted : List Object → Object → Material
  letters : List ℕ → Material
  marked : List Mark → Material

-- an object, or no value, or a refusal
abbrev pub Value : Type 0
Value = Result (Option Object) StdRefusal

-- a call that gives one object
abbrev pub gives_one : Object → Value
gives_one x = Ok (Some x)

-- a call that gives nothing
abbrev pub no_value : Value
no_value = Ok None

-- ---- one object, headed by a symbol

-- a list of this symbol of COMMON-LISP and the object
abbrev pub headed : List ℕ → Object → Object
headed name x = list_of (symbol (codes "COMMON-LISP") name ∷ x ∷ [])

-- a list of this name and the object that was gathered, as `'X` gives
abbrev pub headed_value : List ℕ → Material → Value
headed_value name (one x) = gives_one (headed name x)
headed_value name _ = no_value

-- ---- lists and texts

-- the list of what was gathered
abbrev pub list_value : Material → Value
list_value (many xs) = gives_one (list_of xs)
list_value (dotted xs tail) = gives_one (pairs xs tail)
list_value _ = no_value

-- the text of what was gathered
abbrev pub text_value : Material → Value
text_value (letters cs) = gives_one (text cs)
text_value _ = no_value

-- ---- characters

-- whether the case of letters aside this is the name
abbrev pub is_named : List ℕ → List ℕ → Bool
is_named name wanted = bytes_eq (map to_ascii_lowercase name) (map to_ascii_lowercase wanted)

-- the character of this name (standard 13.1.7)
abbrev pub code_named : List ℕ → Option ℕ
code_named name =
    if is_named name (codes "Space") then Some 32
    else (if is_named name (codes "Newline") then Some 10
    else (if is_named name (codes "Tab") then Some 9
    else (if is_named name (codes "Page") then Some 12
    else (if is_named name (codes "Return") then Some 13
    else (if is_named name (codes "Linefeed") then Some 10
    else (if is_named name (codes "Backspace") then Some 8
    else (if is_named name (codes "Rubout") then Some 127
    else None)))))))

-- the character, or the refusal where no character has the name
abbrev pub character_or_refused : Option ℕ → Value
character_or_refused (Some c) = gives_one (character c)
character_or_refused None = Err CharacterName

-- one character alone is itself, and all else a name
abbrev pub character_of : List ℕ → Value
character_of (c ∷ []) = gives_one (character c)
character_of name = character_or_refused (code_named name)

-- the character that a token names
abbrev pub character_value : Material → Value
character_value (marked marks) = character_of (characters marks)
character_value _ = no_value

-- ---- vectors

-- the last one, if there is one
unfoldable pub last_of : List Object → Option Object
last_of [] = None
last_of (x ∷ []) = Some x
last_of (x ∷ y ∷ ys) = last_of (y ∷ ys)

-- what is repeated may be of size 1,000,000 at most
abbrev pub bounded_value : Bool → Object → Value
bounded_value repeated x = if repeated && nat_lt 1000000 (object_size x) then Err VectorLength else gives_one x

-- A vector of this length: the last object is repeated where they are fewer.
abbrev pub vector_with : ℕ → List Object → Option Object → Value
vector_with n xs None = if n == 0 then gives_one (vector (list_of [])) else Err VectorLength
vector_with n xs (Some last) =
    if nat_lt n (length xs) then Err VectorLength
    else bounded_value (nat_lt (length xs) n) (vector (list_of (xs ++ replicate (n - length xs) last)))

-- a vector, of the length that was written if one was
abbrev pub vector_of : Option ℕ → List Object → Value
vector_of None xs = gives_one (vector (list_of xs))
vector_of (Some n) xs = vector_with n xs (last_of xs)

-- the vector of what was gathered
abbrev pub vector_value : Option ℕ → Material → Value
vector_value number (many xs) = vector_of number xs
vector_value number _ = no_value

-- ---- uninterned symbols

-- there is a mark, and no package marker
abbrev pub is_own_name : List Mark → Bool
is_own_name [] = false
is_own_name (m ∷ ms) = not (list_any is_package_marker (m ∷ ms))

-- the symbol of no package with this name
abbrev pub uninterned_of : Case → List Mark → Value
uninterned_of case marks =
    if is_own_name marks then gives_one (uninterned (characters (folded_marks case marks))) else Err UninternedToken

-- the symbol of no package that a token names
abbrev pub uninterned_value : Case → Material → Value
uninterned_value case (marked marks) = uninterned_of case marks
uninterned_value case _ = no_value

-- ---- rationals

-- the number, or the refusal where the token is none in its base
abbrev pub rational_or_refused : Option (Result Object MeaningRefusal) → Value
rational_or_refused None = Err RadixToken
rational_or_refused (Some (Ok x)) = gives_one x
rational_or_refused (Some (Err refusal)) = Err (Rational refusal)

-- the number that a token is in this base
abbrev pub rational_value : ℕ → Material → Value
rational_value base (marked marks) = rational_or_refused (rational_of base marks)
rational_value base _ = no_value

-- a call without a base is refused before its token
abbrev pub radix_value : Option ℕ → Material → Value
radix_value None material = Err NumericArgument
radix_value (Some base) material = rational_value base material

-- ---- all of them

-- The value of a standard function, under this case of the readtable, for the number of the call and what was gathered. What
-- does not fit the way of the function gives no value.
abbrev pub value_of : Standard → Case → Option ℕ → Material → Value
value_of AList case number material = list_value material
value_of Close case number material = Err StrayClose
value_of Quote case number material = headed_value (codes "QUOTE") material
value_of Comment case number material = no_value
value_of String case number material = text_value material
value_of Out case number material = Err OutOfProfile
value_of Char case number material = character_value material
value_of Function case number material = headed_value (codes "FUNCTION") material
value_of Vector case number material = vector_value number material
value_of Uninterned case number material = uninterned_value case material
value_of Block case number material = no_value
value_of Binary case number material = rational_value 2 material
value_of Octal case number material = rational_value 8 material
value_of Hex case number material = rational_value 16 material
value_of Radix case number material = radix_value (radix_of number) material
