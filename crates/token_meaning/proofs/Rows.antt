-- Rows of the definitions.
use Rattle.std.proofs.Common.{◌≡◌, ℕ, ◌++◌, List, [], ◌∷◌, map, replicate, pos, negsuc, codes, refl, None, Some, Ok, Err}
use Rattle.std.specs.Prelude.{Option, Result}
use Rattle.lisp_object.specs.Object.{Object, integer, rational}
use Rattle.lisp_object.specs.Quotient.{greatest_divisor}
use Rattle.readtable_core.specs.declared.table.Case.{Case}
use Rattle.readtable_core.specs.declared.table.Case.TheVariants.{Upcase, Downcase, Preserve, Invert}
use Rattle.token_scan.specs.declared.mark.Mark.{Mark}
use Rattle.token_scan.specs.declared.mark.Mark.TheVariants.{Plain, Quoted, Bar}
use Rattle.token_meaning.specs.declared.refusal.MeaningRefusal.{MeaningRefusal}
use Rattle.token_meaning.specs.declared.refusal.MeaningRefusal.TheVariants.{DotsOnly, FloatToken, NumberRange, ZeroDenominator, PackageMarkers}
use Rattle.token_meaning.specs.declared.token.TokenName.TheVariants.{Unqualified, Keyword, External, Internal}
use Rattle.token_meaning.specs.Folding.{folded_marks}
use Rattle.token_meaning.specs.Numerals.{numeral_value}
use Rattle.token_meaning.specs.Meanings.{Meaning, number, dot, name, meaning_of, rational_of}

-- base, marks of a token, and what it means
tokens : List (ℕ × (List Mark × Result Meaning MeaningRefusal))
tokens =
    -- ratio
    (10, (map Plain (codes "+4/6"), Ok (number (rational (pos 2) 3)))) ∷
    -- point at the end
    (10, (map Plain (codes "1."), Ok (number (integer (pos 1))))) ∷
    -- exponent
    (10, (map Plain (codes "1e5"), Err FloatToken)) ∷
    -- digit before exponent marker
    (16, (map Plain (codes "1e5"), Ok (number (integer (pos 485))))) ∷
    -- lowest integer
    (10, (map Plain (codes "-170141183460469231731687303715884105728"), Ok (number (integer (negsuc 170141183460469231731687303715884105727))))) ∷
    -- below the lowest
    (10, (map Plain (codes "-170141183460469231731687303715884105729"), Err NumberRange)) ∷
    -- above the highest
    (10, (map Plain (codes "170141183460469231731687303715884105728"), Err NumberRange)) ∷
    -- zero denominator
    (10, (map Plain (codes "1/00"), Err ZeroDenominator)) ∷
    -- zero by zero
    (10, (map Plain (codes "0/0"), Err ZeroDenominator)) ∷
    -- zero denominator first
    (10, (map Plain (replicate 40 57 ++ codes "/0"), Err ZeroDenominator)) ∷
    -- minus zero
    (10, (map Plain (codes "-0/5"), Ok (number (integer (pos 0))))) ∷
    -- two dots
    (10, (map Plain (codes ".."), Err DotsOnly)) ∷
    -- one dot
    (10, (map Plain (codes "."), Ok dot)) ∷
    -- plus and dot
    (10, (map Plain (codes "+."), Ok (name (Unqualified (codes "+."))))) ∷
    -- minus
    (10, (map Plain (codes "-"), Ok (name (Unqualified (codes "-"))))) ∷
    -- plus one
    (10, (map Plain (codes "+1"), Ok (number (integer (pos 1))))) ∷
    -- one plus
    (10, (map Plain (codes "1+"), Ok (name (Unqualified (codes "1+"))))) ∷
    -- point first
    (10, (map Plain (codes ".5"), Err FloatToken)) ∷
    -- point and exponent
    (10, (map Plain (codes "1.e-5"), Err FloatToken)) ∷
    -- point behind a ratio
    (10, (map Plain (codes "1/2."), Ok (name (Unqualified (codes "1/2."))))) ∷
    -- digits of base 36
    (36, (map Plain (codes "rZ"), Ok (number (integer (pos 1007))))) ∷
    -- no digit of base 2
    (2, (map Plain (codes "12"), Ok (name (Unqualified (codes "12"))))) ∷
    -- decimal in base 2
    (2, (map Plain (codes "29."), Ok (number (integer (pos 29))))) ∷
    -- keyword
    (10, (map Plain (codes ":12"), Ok (name (Keyword (codes "12"))))) ∷
    -- prefix
    (10, (map Plain (codes "a:b"), Ok (name (External (codes "a") (codes "b"))))) ∷
    -- prefix and two
    (10, (map Plain (codes "a::b"), Ok (name (Internal (codes "a") (codes "b"))))) ∷
    -- nothing behind
    (10, (map Plain (codes "a:"), Err PackageMarkers)) ∷
    -- two and no prefix
    (10, (map Plain (codes "::a"), Err PackageMarkers)) ∷
    -- three markers
    (10, (map Plain (codes "a:::b"), Err PackageMarkers)) ∷
    -- markers apart
    (10, (map Plain (codes "A:B:C"), Err PackageMarkers)) ∷
    -- escaped digit
    (10, (Quoted 49 ∷ [], Ok (name (Unqualified (codes "1"))))) ∷
    -- escaped colon
    (10, (Plain 97 ∷ Quoted 58 ∷ Plain 98 ∷ [], Ok (name (Unqualified (codes "a:b"))))) ∷
    -- bars alone
    (10, (Bar ∷ Bar ∷ Plain 58 ∷ Bar ∷ Bar ∷ [], Ok (name (External [] [])))) ∷
    -- bar in a name
    (10, (Plain 65 ∷ Bar ∷ Quoted 32 ∷ [], Ok (name (Unqualified (codes "A "))))) ∷ []

tokens_mean : map (λ r. meaning_of r.0 r.1.0) tokens ≡ map (λ r. r.1.1) tokens
unfolding tokens numeral_value greatest_divisor
tokens_mean = refl

-- base, marks of a token, and the rational that it is
rationals : List (ℕ × (List Mark × Option (Result Object MeaningRefusal)))
rationals =
    -- hexadecimal
    (16, (map Plain (codes "-Ff/1e"), Some (Ok (rational (negsuc 16) 2)))) ∷
    -- no trailing point
    (16, (map Plain (codes "12."), None)) ∷
    -- no escaped rational
    (10, (Plain 49 ∷ Bar ∷ [], None)) ∷ []

rationals_mean : map (λ r. rational_of r.0 r.1.0) rationals ≡ map (λ r. r.1.1) rationals
unfolding rationals numeral_value greatest_divisor
rationals_mean = refl

-- case, marks of a token, and these marks folded
cases : List (Case × (List Mark × List Mark))
cases =
    -- down
    (Downcase, (map Plain (codes "aB-1"), map Plain (codes "ab-1"))) ∷
    -- kept
    (Preserve, (map Plain (codes "aB-1"), map Plain (codes "aB-1"))) ∷
    -- inverted both
    (Invert, (map Plain (codes "Foo"), map Plain (codes "Foo"))) ∷
    -- inverted lower
    (Invert, (map Plain (codes "foo"), map Plain (codes "FOO"))) ∷
    -- inverted prefix
    (Invert, (map Plain (codes "FOO:BAR"), map Plain (codes "foo:bar"))) ∷
    -- inverted prefix apart
    (Invert, (map Plain (codes "foo:BAR"), map Plain (codes "foo:BAR"))) ∷
    -- up
    (Upcase, (Plain 97 ∷ Bar ∷ Quoted 98 ∷ [], Plain 65 ∷ Bar ∷ Quoted 98 ∷ [])) ∷
    -- inverted beside escapes
    (Invert, (Plain 97 ∷ Quoted 66 ∷ [], Plain 65 ∷ Quoted 66 ∷ [])) ∷ []

marks_fold : map (λ r. folded_marks r.0 r.1.0) cases ≡ map (λ r. r.1.1) cases
unfolding cases
marks_fold = refl
