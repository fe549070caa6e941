-- What the marks of names mean.
use Rattle.std.proofs.Common.{◌≡◌, ℕ, Bool, true, false, not, ◌&&◌, List, [], ◌∷◌, ◌++◌, None, Ok, refl, sym, ap, subst, ◌∙◌}
use Rattle.std.specs.Prelude.{◌==◌, if◌then◌else◌}
use Rattle.std.specs.List.{list_all, list_any, slice_split}
use Rattle.std.proofs.lemmas.Bool.{and_parts, or_parts, not-true, eqb-true}
use Rattle.readtable_core.specs.Characters.{upper_case}
use Rattle.token_scan.specs.declared.mark.Mark.{Mark}
use Rattle.token_scan.specs.declared.mark.Mark.TheVariants.{Plain, Quoted, Bar}
use Rattle.token_meaning.specs.declared.token.TokenName.TheVariants.{Unqualified, Keyword, External, Internal}
use Rattle.token_scan.specs.Marks.{characters}
use Rattle.token_meaning.specs.Numerals.{is_digit_in, is_sign, is_empty}
use Rattle.token_meaning.specs.Numbers.{is_point, number_in_base}
use Rattle.token_meaning.specs.Folding.{in_upper_case}
use Rattle.token_meaning.specs.Meanings.{name, is_unescaped as is_plain_mark, is_package_marker, pattern, name_of_marks, dots_of, number_or_name, meaning_of}
use Rattle.token_meaning.specs.Results.{is_one_part}
use Rattle.token_meaning.proofs.NumberFronts.{begins_number, no_number}
use Rattle.token_meaning.proofs.Parts.{cut_with, cut_without}
use Rattle.token_meaning.proofs.Patterns.{unmarked, marked, keyword_given, external_given, internal_given}
use Rattle.canon_printer.specs.Names as names
use Rattle.world_text.proofs.Marked.{plain_marks, quoted_marks, name_marks}
use Rattle.world_text.proofs.Characters.{is_kept, is_bare, plain_kept, no_number_begins}
use Rattle.world_text.proofs.Spelling.{IsAscii, first, others, all_go_on, goes_on_kept}

-- ---- a token that begins so is a name

abbrev pub begins_name : Mark → Bool
begins_name (Plain c) = not (begins_number c)
begins_name (Quoted c) = true
begins_name Bar = true

pub record BeginsName (marks : List Mark) : Type 0 where
  pub mark : Mark
  pub more : List Mark
  pub is : marks ≡ mark ∷ more
  pub passes : begins_name mark ≡ true

by_mark : (m : Mark) (ms : List Mark) → begins_name m ≡ true → meaning_of 10 (m ∷ ms) ≡ name_of_marks (m ∷ ms)
by_mark (Quoted c) ms e = refl
by_mark Bar ms e = refl
by_mark (Plain c) ms e =
    let fails : begins_number c ≡ false = not-true _ e in
    let later = (or_parts (is_digit_in 10 c) _ fails).1 in
    let no_point : is_point c ≡ false = (or_parts (is_sign c) (is_point c) later).1 in
    let none : number_in_base 10 (c ∷ characters ms) ≡ None = no_number (c ∷ characters ms) fails in
    elim (list_all is_plain_mark ms)
    as (λ b. (if b then (if is_point c && list_all is_point (characters ms) then dots_of (c ∷ characters ms) else number_or_name (number_in_base 10 (c ∷ characters ms)) (Plain c ∷ ms)) else name_of_marks (Plain c ∷ ms)) ≡ name_of_marks (Plain c ∷ ms)) [
      | true ↦ rw (no_point, none) refl
      | false ↦ refl
    ]

pub means_name : (marks : List Mark) → BeginsName marks → meaning_of 10 marks ≡ name_of_marks marks
means_name marks h = subst (λ (ms : List Mark). meaning_of 10 ms ≡ name_of_marks ms) (sym h.is) (by_mark h.mark h.more h.passes)

pub begins_both : (marks more : List Mark) → BeginsName marks → BeginsName (marks ++ more)
begins_both marks more h = record { mark = h.mark; more = h.more ++ more; is = ap (λ (ms : List Mark). ms ++ more) h.is; passes = h.passes }

-- ---- the marks of a name

-- no package marker among them, there are some, they keep their case, and their characters are the name
pub record IsNameMarks (text : List ℕ) (marks : List Mark) : Type 0 where
  pub unmarked : list_any is_package_marker marks ≡ false
  pub starts : BeginsName marks
  pub folded : in_upper_case marks ≡ marks
  pub same : characters marks ≡ text

plain_unmarked : (text : List ℕ) → IsAscii text → list_all names.goes_on_plain text ≡ true → list_any is_package_marker (plain_marks text) ≡ false
plain_unmarked [] ascii e = refl
plain_unmarked (c ∷ cs) ascii e =
    let both = and_parts (names.goes_on_plain c) (list_all names.goes_on_plain cs) e in
    let no : (c == 58) ≡ false = not-true _ (and_parts (is_kept c) _ (plain_kept c (first c cs ascii) both.0)).1 in
    rw (no, plain_unmarked cs (others c cs ascii) both.1) refl

pub plain_folded : (text : List ℕ) → list_all is_kept text ≡ true → in_upper_case (plain_marks text) ≡ plain_marks text
plain_folded [] e = refl
plain_folded (c ∷ cs) e =
    let both = and_parts (is_kept c) (list_all is_kept cs) e in
    let kept : upper_case c ≡ c = eqb-true _ _ (and_parts (is_bare c) (upper_case c == c) both.0).1 in
    λ i. Plain (kept i) ∷ plain_folded cs both.1 i

pub plain_characters : (text : List ℕ) → characters (plain_marks text) ≡ text
plain_characters [] = refl
plain_characters (c ∷ cs) = ap (λ (ds : List ℕ). c ∷ ds) (plain_characters cs)

plain_name : (text : List ℕ) → IsAscii text → names.is_plain text ≡ true → IsNameMarks text (plain_marks text)
plain_name [] ascii e = absurd cc
plain_name (c ∷ cs) ascii e =
    let go = all_go_on (c ∷ cs) e in
    record {
      unmarked = plain_unmarked (c ∷ cs) ascii go;
      starts = record { mark = Plain c; more = plain_marks cs; is = refl; passes = no_number_begins c (first c cs ascii) (and_parts (names.begins_plain c) _ e).0 };
      folded = plain_folded (c ∷ cs) (goes_on_kept (c ∷ cs) ascii go);
      same = plain_characters (c ∷ cs);
    }

quoted_unmarked : (text : List ℕ) → list_any is_package_marker (quoted_marks text ++ Bar ∷ []) ≡ false
quoted_unmarked [] = refl
quoted_unmarked (c ∷ cs) = quoted_unmarked cs

quoted_folded : (text : List ℕ) → in_upper_case (quoted_marks text ++ Bar ∷ []) ≡ quoted_marks text ++ Bar ∷ []
quoted_folded [] = refl
quoted_folded (c ∷ cs) = ap (λ (ms : List Mark). Quoted c ∷ ms) (quoted_folded cs)

quoted_characters : (text : List ℕ) → characters (quoted_marks text ++ Bar ∷ []) ≡ text
quoted_characters [] = refl
quoted_characters (c ∷ cs) = ap (λ (ds : List ℕ). c ∷ ds) (quoted_characters cs)

pub quoted_name : (text : List ℕ) → IsNameMarks text (Bar ∷ (quoted_marks text ++ Bar ∷ []))
quoted_name text = record {
  unmarked = quoted_unmarked text;
  starts = record { mark = Bar; more = quoted_marks text ++ Bar ∷ []; is = refl; passes = refl };
  folded = ap (λ (ms : List Mark). Bar ∷ ms) (quoted_folded text);
  same = quoted_characters text;
}

pub is_name : (text : List ℕ) → IsAscii text → IsNameMarks text (name_marks text)
is_name text ascii =
    elim (names.is_plain text)
    as (λ b. names.is_plain text ≡ b → IsNameMarks text (if b then plain_marks text else Bar ∷ (quoted_marks text ++ Bar ∷ []))) [
      | true ↦ plain_name text ascii
      | false ↦ λ _. quoted_name text
    ] refl

-- ---- what they mean alone and after a prefix

pub alone : (own : List ℕ) (marks : List Mark) → IsNameMarks own marks → name_of_marks marks ≡ Ok (name (Unqualified own))
alone own marks h = unmarked marks (cut_without is_package_marker marks h.unmarked) ∙ ap (λ (s : List ℕ). Ok (name (Unqualified s))) h.same

pub not_empty : (marks : List Mark) → BeginsName marks → is_empty marks ≡ false
not_empty marks h = ap is_empty h.is

one_part : (own : List ℕ) (marks : List Mark) → IsNameMarks own marks → is_one_part marks ≡ true
one_part own marks h = rw (not_empty marks h.starts, h.unmarked) refl

pub keyworded : (own : List ℕ) (marks : List Mark) → IsNameMarks own marks → name_of_marks (Plain 58 ∷ marks) ≡ Ok (name (Keyword own))
keyworded own marks h = keyword_given [] marks refl (one_part own marks h) ∙ ap (λ (s : List ℕ). Ok (name (Keyword s))) h.same

pub prefixed : (home own : List ℕ) (front marks : List Mark) → IsNameMarks home front → IsNameMarks own marks → name_of_marks (front ++ Plain 58 ∷ marks) ≡ Ok (name (External home own))
prefixed home own front marks g h =
    let at : slice_split is_package_marker (front ++ Plain 58 ∷ marks) ≡ front ∷ slice_split is_package_marker marks
    = marked (front ++ Plain 58 ∷ marks) front marks (cut_with is_package_marker front (Plain 58) marks g.unmarked refl) in
    ap pattern at ∙ external_given front marks (not_empty front g.starts) (one_part own marks h)
    ∙ (λ i. Ok (name (External (g.same i) (h.same i))))

pub twice_prefixed : (home own : List ℕ) (front marks : List Mark) → IsNameMarks home front → IsNameMarks own marks → name_of_marks (front ++ Plain 58 ∷ Plain 58 ∷ marks) ≡ Ok (name (Internal home own))
twice_prefixed home own front marks g h =
    let at : slice_split is_package_marker (front ++ Plain 58 ∷ Plain 58 ∷ marks) ≡ front ∷ [] ∷ slice_split is_package_marker marks
    = marked (front ++ Plain 58 ∷ Plain 58 ∷ marks) front (Plain 58 ∷ marks) (cut_with is_package_marker front (Plain 58) (Plain 58 ∷ marks) g.unmarked refl) in
    ap pattern at ∙ internal_given front marks (not_empty front g.starts) (one_part own marks h)
    ∙ (λ i. Ok (name (Internal (g.same i) (h.same i))))
