-- The meaning of a token (standard 2.3): a number, a dot, or a name with its package prefix. Numbers and dots are looked for
-- only where no character was escaped and no bar is there.
use Rattle.std.specs.Prelude.{ℕ, Bool, true, false, ◌==◌, if◌then◌else◌, List, [], ◌∷◌, length, Option, Some, None, Result, Ok, Err}
use Rattle.std.specs.List.{list_all, slice_split}
use Rattle.lisp_object.specs.Object.{Object}
use Rattle.token_scan.specs.declared.mark.Mark.{Mark}
use Rattle.token_scan.specs.declared.mark.Mark.TheVariants.{Plain, Quoted, Bar}
use Rattle.token_scan.specs.Marks.{characters}
use Rattle.token_meaning.specs.declared.refusal.MeaningRefusal.{MeaningRefusal}
use Rattle.token_meaning.specs.declared.refusal.MeaningRefusal.TheVariants.{DotsOnly, PackageMarkers}
use Rattle.token_meaning.specs.declared.token.TokenName.{TokenName}
use Rattle.token_meaning.specs.declared.token.TokenName.TheVariants.{Unqualified, Keyword, External, Internal}
use Rattle.token_meaning.specs.Numbers.{is_point, number_in_base, rational_number}

-- what a token means
pub data Meaning : Type 0 where
  number : Object → Meaning
  dot : Meaning
  name : TokenName → Meaning

-- ---- marks

-- whether the mark is a character that is not escaped
abbrev pub is_unescaped : Mark → Bool
is_unescaped (Plain c) = true
is_unescaped (Quoted c) = false
is_unescaped Bar = false

-- a colon that was not escaped (standard 2.3.5)
abbrev pub is_package_marker : Mark → Bool
is_package_marker (Plain c) = c == 58
is_package_marker (Quoted c) = false
is_package_marker Bar = false

-- ---- names

-- The package patterns (standard 2.3.5), of the parts of a token that was cut at each package marker: a name alone; a
-- keyword; a prefix and a name, with one marker or two between them. Each part named has a mark; bars alone are marks.
abbrev pub pattern : List (List Mark) → Result Meaning MeaningRefusal
pattern (whole ∷ []) = Ok (name (Unqualified (characters whole)))
pattern ([] ∷ (m ∷ ms) ∷ []) = Ok (name (Keyword (characters (m ∷ ms))))
pattern ((p ∷ ps) ∷ (m ∷ ms) ∷ []) = Ok (name (External (characters (p ∷ ps)) (characters (m ∷ ms))))
pattern ((p ∷ ps) ∷ [] ∷ (m ∷ ms) ∷ []) = Ok (name (Internal (characters (p ∷ ps)) (characters (m ∷ ms))))
pattern _ = Err PackageMarkers

-- a name, by the package markers in it (standard 2.3.5)
abbrev pub name_of_marks : List Mark → Result Meaning MeaningRefusal
name_of_marks marks = pattern (slice_split is_package_marker marks)

-- ---- tokens

-- one dot alone is the dot of a list; several mean nothing (standard 2.3.3)
abbrev pub dots_of : List ℕ → Result Meaning MeaningRefusal
dots_of text = if length text == 1 then Ok dot else Err DotsOnly

-- a number as what a token means, or why it is refused
abbrev pub number_meaning : Result Object MeaningRefusal → Result Meaning MeaningRefusal
number_meaning (Ok x) = Ok (number x)
number_meaning (Err refusal) = Err refusal

-- what is no number is a name
abbrev pub number_or_name : Option (Result Object MeaningRefusal) → List Mark → Result Meaning MeaningRefusal
number_or_name (Some given) marks = number_meaning given
number_or_name None marks = name_of_marks marks

-- The meaning of a token with these marks, their case folded, in a base from 2 to 36.
abbrev pub meaning_of : ℕ → List Mark → Result Meaning MeaningRefusal
meaning_of base marks =
    if list_all is_unescaped marks
    then (if list_all is_point (characters marks) then dots_of (characters marks)
    else number_or_name (number_in_base base (characters marks)) marks)
    else name_of_marks marks

-- The marks of a token as an integer or a ratio of digits in the base, with no decimal point; None where they are none.
abbrev pub rational_of : ℕ → List Mark → Option (Result Object MeaningRefusal)
rational_of base marks = if list_all is_unescaped marks then rational_number base (characters marks) else None
