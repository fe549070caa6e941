-- The name of a token of ASCII characters is ASCII.
use Rattle.std.proofs.Common.{◌≡◌, ℕ, Bool, true, false, ◌&&◌, List, [], ◌∷◌, Result, Ok, Err, refl, subst}
use Rattle.std.specs.Prelude.{if◌then◌else◌}
use Rattle.std.specs.List.{list_all, slice_split, onto_first}
use Rattle.std.proofs.lemmas.Bool.{and_parts, and_from}
use Rattle.lisp_object.specs.Ascii.{is_ascii}
use Rattle.token_scan.specs.declared.mark.Mark.{Mark}
use Rattle.token_scan.specs.declared.mark.Mark.TheVariants.{Plain, Quoted, Bar}
use Rattle.token_scan.specs.Marks.{characters, is_ascii_mark, are_ascii}
use Rattle.token_meaning.specs.declared.refusal.MeaningRefusal.{MeaningRefusal}
use Rattle.token_meaning.specs.declared.token.TokenName.{TokenName}
use Rattle.token_meaning.specs.Meanings.{Meaning, number, dot, name, is_package_marker, pattern, name_of_marks}
use Rattle.token_meaning.specs.Results.{is_ascii_name}

-- what is said of a meaning: a name is ASCII
abbrev AsciiName : Result Meaning MeaningRefusal → Type 0
AsciiName (Ok (name own)) = is_ascii_name own ≡ true
AsciiName (Ok (number x)) = Unit {0}
AsciiName (Ok dot) = Unit {0}
AsciiName (Err refusal) = Unit {0}

pub ascii_characters : (marks : List Mark) → are_ascii marks ≡ true → list_all is_ascii (characters marks) ≡ true
ascii_characters [] e = refl
ascii_characters (Plain c ∷ ms) e = let both = and_parts (is_ascii c) (are_ascii ms) e in and_from _ _ both.0 (ascii_characters ms both.1)
ascii_characters (Quoted c ∷ ms) e = let both = and_parts (is_ascii c) (are_ascii ms) e in and_from _ _ both.0 (ascii_characters ms both.1)
ascii_characters (Bar ∷ ms) e = ascii_characters ms e

onto : (m : Mark) (ps : List (List Mark)) → is_ascii_mark m ≡ true → list_all are_ascii ps ≡ true → list_all are_ascii (onto_first m ps) ≡ true
onto m [] e f = and_from _ _ (and_from _ _ e refl) refl
onto m (p ∷ ps) e f =
    let both = and_parts (are_ascii p) (list_all are_ascii ps) f in
    and_from _ _ (and_from _ _ e both.0) both.1

parts_ascii : (marks : List Mark) → are_ascii marks ≡ true → list_all are_ascii (slice_split is_package_marker marks) ≡ true
parts_ascii [] e = refl
parts_ascii (m ∷ ms) e =
    let both = and_parts (is_ascii_mark m) (are_ascii ms) e in
    elim (is_package_marker m)
    as (λ b. list_all are_ascii (if b then [] ∷ slice_split is_package_marker ms else onto_first m (slice_split is_package_marker ms)) ≡ true)
    [ true ↦ parts_ascii ms both.1 | false ↦ onto m _ both.0 (parts_ascii ms both.1) ]

first : (p : List Mark) (ps : List (List Mark)) → list_all are_ascii (p ∷ ps) ≡ true → list_all is_ascii (characters p) ≡ true
first p ps e = ascii_characters p (and_parts (are_ascii p) (list_all are_ascii ps) e).0

rest : (p : List Mark) (ps : List (List Mark)) → list_all are_ascii (p ∷ ps) ≡ true → list_all are_ascii ps ≡ true
rest p ps e = (and_parts (are_ascii p) (list_all are_ascii ps) e).1

pattern_ascii : (parts : List (List Mark)) → list_all are_ascii parts ≡ true → AsciiName (pattern parts)
pattern_ascii [] e = tt
pattern_ascii (whole ∷ []) e = first whole [] e
pattern_ascii ([] ∷ [] ∷ []) e = tt
pattern_ascii ([] ∷ (m ∷ ms) ∷ []) e = first (m ∷ ms) [] (rest [] ((m ∷ ms) ∷ []) e)
pattern_ascii ([] ∷ [] ∷ x ∷ xs) e = tt
pattern_ascii ([] ∷ (m ∷ ms) ∷ x ∷ xs) e = tt
pattern_ascii ((p ∷ ps) ∷ [] ∷ []) e = tt
pattern_ascii ((p ∷ ps) ∷ (m ∷ ms) ∷ []) e = and_from _ _ (first (p ∷ ps) ((m ∷ ms) ∷ []) e) (first (m ∷ ms) [] (rest (p ∷ ps) ((m ∷ ms) ∷ []) e))
pattern_ascii ((p ∷ ps) ∷ (m ∷ ms) ∷ x ∷ xs) e = tt
pattern_ascii ((p ∷ ps) ∷ [] ∷ [] ∷ []) e = tt
pattern_ascii ((p ∷ ps) ∷ [] ∷ (m ∷ ms) ∷ []) e =
    and_from _ _ (first (p ∷ ps) ([] ∷ (m ∷ ms) ∷ []) e) (first (m ∷ ms) [] (rest [] ((m ∷ ms) ∷ []) (rest (p ∷ ps) ([] ∷ (m ∷ ms) ∷ []) e)))
pattern_ascii ((p ∷ ps) ∷ [] ∷ [] ∷ y ∷ ys) e = tt
pattern_ascii ((p ∷ ps) ∷ [] ∷ (m ∷ ms) ∷ y ∷ ys) e = tt

pub ascii_name : (marks : List Mark) (own : TokenName) → name_of_marks marks ≡ Ok (name own) → are_ascii marks ≡ true → is_ascii_name own ≡ true
ascii_name marks own given e = subst AsciiName given (pattern_ascii (slice_split is_package_marker marks) (parts_ascii marks e))
