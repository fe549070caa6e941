-- What becomes of the letters of a token (standard 23.1.2). Only characters that were not escaped change.
use Rattle.std.specs.Prelude.{ℕ, ◌+◌, Bool, false, not, if◌then◌else◌, List, map}
use Rattle.std.specs.List.{list_any}
use Rattle.readtable_core.specs.Characters.{is_upper_case, is_lower_case, upper_case}
use Rattle.readtable_core.specs.declared.table.Case.{Case}
use Rattle.readtable_core.specs.declared.table.Case.TheVariants.{Upcase, Downcase, Preserve, Invert}
use Rattle.token_scan.specs.declared.mark.Mark.{Mark}
use Rattle.token_scan.specs.declared.mark.Mark.TheVariants.{Plain, Quoted, Bar}

-- an upper-case letter becomes its lower-case letter, and all else stays
abbrev pub lower_case : ℕ → ℕ
lower_case c = if is_upper_case c then c + 32 else c

-- the mark with its character changed, where that was not escaped
abbrev pub on_plain : (ℕ → ℕ) → Mark → Mark
on_plain change (Plain c) = Plain (change c)
on_plain change (Quoted c) = Quoted c
on_plain change Bar = Bar

-- each letter that is not escaped in upper case
abbrev pub in_upper_case : List Mark → List Mark
in_upper_case marks = map (on_plain upper_case) marks

-- each letter that is not escaped in lower case
abbrev pub in_lower_case : List Mark → List Mark
in_lower_case marks = map (on_plain lower_case) marks

-- whether it is a character that passes and was not escaped
abbrev pub is_unescaped_and : (ℕ → Bool) → Mark → Bool
is_unescaped_and test (Plain c) = test c
is_unescaped_and test (Quoted c) = false
is_unescaped_and test Bar = false

-- whether a letter that is not escaped is in upper case
abbrev pub has_upper_case : List Mark → Bool
has_upper_case marks = list_any (is_unescaped_and is_upper_case) marks

-- whether a letter that is not escaped is in lower case
abbrev pub has_lower_case : List Mark → Bool
has_lower_case marks = list_any (is_unescaped_and is_lower_case) marks

-- all the letters in the other case where they have one case, and as they are where they have both
abbrev pub inverted_marks : List Mark → List Mark
inverted_marks marks =
    if not (has_upper_case marks) then in_upper_case marks
    else (if not (has_lower_case marks) then in_lower_case marks else marks)

-- the marks of a whole token, its package prefix included, by the case of the readtable
abbrev pub folded_marks : Case → List Mark → List Mark
folded_marks Upcase marks = in_upper_case marks
folded_marks Downcase marks = in_lower_case marks
folded_marks Preserve marks = marks
folded_marks Invert marks = inverted_marks marks
