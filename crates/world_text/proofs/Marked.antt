-- The marks of the printed text of an atom that is one token, and how many characters they are.
use Rattle.std.proofs.Common.{ℕ, List, [], ◌∷◌, ◌++◌, map}
use Rattle.std.specs.Prelude.{if◌then◌else◌, ◌&&◌}
use Rattle.std.specs.Str.{bytes_eq}
use Rattle.token_scan.specs.declared.mark.Mark.{Mark}
use Rattle.token_scan.specs.declared.mark.Mark.TheVariants.{Plain, Quoted, Bar}
use Rattle.lisp_object.specs.Object.{Object, symbol}
use Rattle.package_table.specs.Table.{Name, Table, keyword}
use Rattle.package_table.specs.Lookup.{is_symbol, is_external}
use Rattle.canon_printer.specs.Names.{is_plain}
use Rattle.canon_printer.specs.Printed.{is_accessible, printed}

abbrev pub plain_marks : List ℕ → List Mark
plain_marks text = map (λ c. Plain c) text

abbrev pub quoted_marks : List ℕ → List Mark
quoted_marks text = map (λ c. Quoted c) text

-- a name as it is, or between bars
abbrev pub name_marks : List ℕ → List Mark
name_marks name = if is_plain name then plain_marks name else Bar ∷ (quoted_marks name ++ Bar ∷ [])

module _ (packages : Table) (current : Name) where
  -- 58 is the colon
  abbrev pub prefix_marks : Name → Name → List Mark
  prefix_marks home name =
      if is_accessible packages current home name then []
      else (if bytes_eq home keyword then Plain 58 ∷ []
      else (if is_symbol packages home name && is_external packages home name then name_marks home ++ Plain 58 ∷ []
      else name_marks home ++ Plain 58 ∷ Plain 58 ∷ []))

  abbrev pub printed_marks : Object → List Mark
  printed_marks (symbol home name) = prefix_marks home name ++ name_marks name
  printed_marks x = plain_marks (printed packages current x)
