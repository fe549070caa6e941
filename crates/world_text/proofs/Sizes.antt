-- How many characters the token of an atom has.
use Rattle.std.proofs.Common.{◌≡◌, ℕ, ◌+◌, Bool, true, false, List, [], ◌∷◌, ◌++◌, length, refl, arith}
use Rattle.std.specs.Prelude.{if◌then◌else◌, ◌&&◌}
use Rattle.std.specs.Str.{bytes_eq}
use Rattle.lisp_object.specs.Object.{symbol}
use Rattle.token_scan.specs.declared.mark.Mark.{Mark}
use Rattle.token_scan.specs.declared.mark.Mark.TheVariants.{Plain, Quoted, Bar}
use Rattle.token_scan.specs.Marks.{character_count}
use Rattle.token_scan.proofs.Spelled.{plain_counts, quoted_counts, bar_counts}
use Rattle.package_table.specs.Table.{Name, Table, keyword}
use Rattle.canon_printer.specs.Names as names
use Rattle.package_table.specs.Lookup.{is_symbol, is_external}
use Rattle.canon_printer.specs.Printed.{is_accessible}
use Rattle.world_text.specs.PrintedTokens.{token_length}
use Rattle.world_text.proofs.Marked.{plain_marks, quoted_marks, name_marks, printed_marks}

pub count_both : (xs ys : List Mark) → character_count (xs ++ ys) ≡ character_count xs + character_count ys
count_both [] ys = omega arith
count_both (Plain c ∷ xs) ys = omega (arith, plain_counts c (xs ++ ys), plain_counts c xs, count_both xs ys)
count_both (Quoted c ∷ xs) ys = omega (arith, quoted_counts c (xs ++ ys), quoted_counts c xs, count_both xs ys)
count_both (Bar ∷ xs) ys = omega (arith, bar_counts (xs ++ ys), bar_counts xs, count_both xs ys)

pub plain_count : (cs : List ℕ) → character_count (plain_marks cs) ≡ length cs
plain_count [] = refl
plain_count (c ∷ cs) = omega (arith, plain_counts c (plain_marks cs), plain_count cs)

quoted_count : (cs : List ℕ) → character_count (quoted_marks cs) ≡ length cs
quoted_count [] = refl
quoted_count (c ∷ cs) = omega (arith, quoted_counts c (quoted_marks cs), quoted_count cs)

pub barred_count : (cs : List ℕ) → character_count (Bar ∷ (quoted_marks cs ++ Bar ∷ [])) ≡ length cs
barred_count cs =
    let none : character_count (Bar ∷ []) ≡ 0 = refl in
    omega (arith, bar_counts (quoted_marks cs ++ Bar ∷ []), count_both (quoted_marks cs) (Bar ∷ []), quoted_count cs)

pub name_count : (name : List ℕ) → character_count (name_marks name) ≡ length name
name_count name =
    elim (names.is_plain name) as (λ b. character_count (if b then plain_marks name else Bar ∷ (quoted_marks name ++ Bar ∷ [])) ≡ length name) [
      | true ↦ plain_count name
      | false ↦ barred_count name
    ]

-- the characters of the token of a symbol are counted by its length
pub symbol_count : (t : Table) (current home own : Name) → character_count (printed_marks t current (symbol home own)) ≡ token_length t current (symbol home own)
symbol_count t current home own = by_case (is_accessible t current home own) (bytes_eq home keyword) (is_symbol t home own && is_external t home own)
  where
    one : character_count (Plain 58 ∷ []) ≡ 1
    one = refl

    two : character_count (Plain 58 ∷ Plain 58 ∷ []) ≡ 2
    two = refl

    by_case : (a k e : Bool) → character_count ((if a then [] else (if k then Plain 58 ∷ [] else (if e then name_marks home ++ Plain 58 ∷ [] else name_marks home ++ Plain 58 ∷ Plain 58 ∷ []))) ++ name_marks own)
        ≡ (if a then 0 else (if k then 1 else (if e then length home + 1 else length home + 2))) + length own
    by_case true k e = omega (arith, name_count own)
    by_case false true e = omega (arith, plain_counts 58 (name_marks own), name_count own)
    by_case false false true = omega (arith, one, count_both (name_marks home ++ Plain 58 ∷ []) (name_marks own), count_both (name_marks home) (Plain 58 ∷ []), name_count home, name_count own)
    by_case false false false = omega (arith, two, count_both (name_marks home ++ Plain 58 ∷ Plain 58 ∷ []) (name_marks own), count_both (name_marks home) (Plain 58 ∷ Plain 58 ∷ []), name_count home, name_count own)
