-- The package patterns, of what is before the first package marker and after it.
use Rattle.std.proofs.Common.{◌≡◌, Bool, true, false, not, ◌&&◌, ◌||◌, if◌then◌else◌, List, [], ◌∷◌, Option, None, Some, Ok, Err, refl, subst}
use Rattle.std.specs.Option.{option_map}
use Rattle.std.specs.List.{list_any, slice_split, onto_first}
use Rattle.token_scan.specs.declared.mark.Mark.{Mark}
use Rattle.token_meaning.specs.declared.refusal.MeaningRefusal.TheVariants.{PackageMarkers}
use Rattle.token_meaning.specs.declared.token.TokenName.TheVariants.{Unqualified, Keyword, External, Internal}
use Rattle.token_meaning.specs.Numerals.{is_empty, cut_at_first, with_first}
use Rattle.token_scan.specs.Marks.{characters}
use Rattle.token_meaning.specs.Meanings.{name, is_package_marker, pattern, name_of_marks}
use Rattle.token_meaning.specs.Results.{begins_with_marker, is_one_part}

-- ---- the parts between package markers

abbrev parts : List Mark → List (List Mark)
parts marks = slice_split is_package_marker marks

-- there is a first part
record First (ps : List (List Mark)) : Type 0 where
  first : List Mark
  rest : List (List Mark)
  is : ps ≡ first ∷ rest

-- and a second
record Second (ps : List (List Mark)) : Type 0 where
  first : List Mark
  second : List Mark
  rest : List (List Mark)
  is : ps ≡ first ∷ second ∷ rest

onto_one : (m : Mark) (ps : List (List Mark)) → First (onto_first m ps)
onto_one m [] = record { first = m ∷ []; rest = []; is = refl }
onto_one m (x ∷ xs) = record { first = m ∷ x; rest = xs; is = refl }

onto_two : (m : Mark) (ps : List (List Mark)) → Second ps → Second (onto_first m ps)
onto_two m ps two = record { first = m ∷ two.first; second = two.second; rest = two.rest; is = rw two.is refl }

one_part : (marks : List Mark) → First (parts marks)
one_part [] = record { first = []; rest = []; is = refl }
one_part (m ∷ ms) =
    elim (is_package_marker m) as (λ b. First (if b then [] ∷ parts ms else onto_first m (parts ms)))
    [ true ↦ record { first = []; rest = parts ms; is = refl } | false ↦ onto_one m (parts ms) ]

behind_first : (ps : List (List Mark)) → First ps → Second ([] ∷ ps)
behind_first ps one = record { first = []; second = one.first; rest = one.rest; is = rw one.is refl }

two_parts : (marks : List Mark) → list_any is_package_marker marks ≡ true → Second (parts marks)
two_parts [] h = absurd cc
two_parts (m ∷ ms) h =
    elim (is_package_marker m) as (λ b. (b || list_any is_package_marker ms) ≡ true → Second (if b then [] ∷ parts ms else onto_first m (parts ms)))
    [ true ↦ λ e. behind_first (parts ms) (one_part ms) | false ↦ λ e. onto_two m (parts ms) (two_parts ms e) ] h

whole_part : (marks : List Mark) → list_any is_package_marker marks ≡ false → parts marks ≡ marks ∷ []
whole_part [] h = refl
whole_part (m ∷ ms) h =
    elim (is_package_marker m) as (λ b. (b || list_any is_package_marker ms) ≡ false → (if b then [] ∷ parts ms else onto_first m (parts ms)) ≡ (m ∷ ms) ∷ [])
    [ true ↦ λ e. absurd cc | false ↦ λ e. rw (whole_part ms e) refl ] h

not_true : (b : Bool) → not b ≡ true → b ≡ false
not_true true e = absurd cc
not_true false e = refl

not_false : (b : Bool) → not b ≡ false → b ≡ true
not_false true e = refl
not_false false e = absurd cc

-- ---- one package marker

nothing_behind : (prefix : List Mark) → pattern (prefix ∷ [] ∷ []) ≡ Err PackageMarkers
nothing_behind [] = refl
nothing_behind (p ∷ ps) = refl

one_more : (prefix : List Mark) (m : Mark) (own : List Mark) (more : List Mark) (rest : List (List Mark)) → pattern (prefix ∷ (m ∷ own) ∷ more ∷ rest) ≡ Err PackageMarkers
one_more [] m own more rest = refl
one_more (p ∷ ps) m own more rest = refl

one_apart : (prefix : List Mark) (m : Mark) (ps : List (List Mark)) → Second ps → pattern (prefix ∷ onto_first m ps) ≡ Err PackageMarkers
one_apart prefix m ps two = rw two.is (one_more prefix m two.first two.second two.rest)

pub one_refused : (prefix own : List Mark) → begins_with_marker own ≡ false → is_one_part own ≡ false → pattern (prefix ∷ slice_split is_package_marker own) ≡ Err PackageMarkers
one_refused prefix [] first one = nothing_behind prefix
one_refused prefix (m ∷ ms) first one =
    elim (is_package_marker m)
    as (λ b. b ≡ false → not (b || list_any is_package_marker ms) ≡ false → pattern (prefix ∷ (if b then [] ∷ parts ms else onto_first m (parts ms))) ≡ Err PackageMarkers)
    [ true ↦ λ e f. absurd cc | false ↦ λ e f. one_apart prefix m (parts ms) (two_parts ms (not_false _ f)) ] first one

pub keyword_given : (prefix own : List Mark) → is_empty prefix ≡ true → is_one_part own ≡ true
    → pattern (prefix ∷ slice_split is_package_marker own) ≡ Ok (name (Keyword (characters own)))
keyword_given [] [] none one = absurd cc
keyword_given [] (m ∷ ms) none one = rw (whole_part (m ∷ ms) (not_true _ one)) refl
keyword_given (p ∷ ps) own none one = absurd cc

pub external_given : (prefix own : List Mark) → is_empty prefix ≡ false → is_one_part own ≡ true
    → pattern (prefix ∷ slice_split is_package_marker own) ≡ Ok (name (External (characters prefix) (characters own)))
external_given [] own some one = absurd cc
external_given (p ∷ ps) [] some one = absurd cc
external_given (p ∷ ps) (m ∷ ms) some one = rw (whole_part (m ∷ ms) (not_true _ one)) refl

-- ---- two package markers

two_more : (p : Mark) (ps own more : List Mark) (rest : List (List Mark)) → pattern ((p ∷ ps) ∷ [] ∷ own ∷ more ∷ rest) ≡ Err PackageMarkers
two_more p ps [] more rest = refl
two_more p ps (m ∷ ms) more rest = refl

two_apart : (p : Mark) (ps : List Mark) (qs : List (List Mark)) → Second qs → pattern ((p ∷ ps) ∷ [] ∷ qs) ≡ Err PackageMarkers
two_apart p ps qs two = rw two.is (two_more p ps two.first two.second two.rest)

pub no_prefix : (prefix own : List Mark) → is_empty prefix ≡ true → pattern (prefix ∷ [] ∷ slice_split is_package_marker own) ≡ Err PackageMarkers
no_prefix [] own none = refl
no_prefix (p ∷ ps) own none = absurd cc

pub two_refused : (prefix own : List Mark) → is_empty prefix ≡ false → is_one_part own ≡ false → pattern (prefix ∷ [] ∷ slice_split is_package_marker own) ≡ Err PackageMarkers
two_refused [] own some one = absurd cc
two_refused (p ∷ ps) [] some one = refl
two_refused (p ∷ ps) (m ∷ ms) some one = two_apart p ps (parts (m ∷ ms)) (two_parts (m ∷ ms) (not_false _ one))

pub internal_given : (prefix own : List Mark) → is_empty prefix ≡ false → is_one_part own ≡ true
    → pattern (prefix ∷ [] ∷ slice_split is_package_marker own) ≡ Ok (name (Internal (characters prefix) (characters own)))
internal_given [] own some one = absurd cc
internal_given (p ∷ ps) [] some one = absurd cc
internal_given (p ∷ ps) (m ∷ ms) some one = rw (whole_part (m ∷ ms) (not_true _ one)) refl

-- ---- the first package marker

behind_none : (m : Mark) (o : Option (List Mark × List Mark)) → option_map (with_first m) o ≡ None → o ≡ None
behind_none m None e = refl
behind_none m (Some parts) e = absurd cc

none_marked : (marks : List Mark) → cut_at_first is_package_marker marks ≡ None → list_any is_package_marker marks ≡ false
none_marked [] e = refl
none_marked (m ∷ ms) e =
    elim (is_package_marker m)
    as (λ b. (if b then Some ([], ms) else option_map (with_first m) (cut_at_first is_package_marker ms)) ≡ None → (b || list_any is_package_marker ms) ≡ false)
    [ true ↦ λ f. absurd cc | false ↦ λ f. none_marked ms (behind_none m _ f) ] e

pub unmarked : (marks : List Mark) → cut_at_first is_package_marker marks ≡ None → name_of_marks marks ≡ Ok (name (Unqualified (characters marks)))
unmarked marks e = rw (whole_part marks (none_marked marks e)) refl

-- the parts of a token are what is before the first package marker and the parts after it
abbrev CutParts : List (List Mark) → Option (List Mark × List Mark) → Type 0
CutParts whole None = Unit {0}
CutParts whole (Some pair) = whole ≡ pair.0 ∷ parts pair.1

more_parts : (m : Mark) (ps : List (List Mark)) (o : Option (List Mark × List Mark)) → CutParts ps o → CutParts (onto_first m ps) (option_map (with_first m) o)
more_parts m ps None h = tt
more_parts m ps (Some pair) h = rw h refl

cut_parts : (marks : List Mark) → CutParts (parts marks) (cut_at_first is_package_marker marks)
cut_parts [] = tt
cut_parts (m ∷ ms) =
    elim (is_package_marker m)
    as (λ b. CutParts (if b then [] ∷ parts ms else onto_first m (parts ms)) (if b then Some ([], ms) else option_map (with_first m) (cut_at_first is_package_marker ms)))
    [ true ↦ refl | false ↦ more_parts m (parts ms) (cut_at_first is_package_marker ms) (cut_parts ms) ]

pub marked : (marks prefix rest : List Mark) → cut_at_first is_package_marker marks ≡ Some (prefix, rest) → parts marks ≡ prefix ∷ parts rest
marked marks prefix rest e = subst (λ o. CutParts (parts marks) o) e (cut_parts marks)
