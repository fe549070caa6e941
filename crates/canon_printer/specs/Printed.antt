-- The text of an object, as the printer writes it with these packages in the current one (standard 22.1.3).
use Rattle.std.specs.Prelude.{Bool, false, ◌&&◌, if◌then◌else◌, List, [], ◌++◌, ℕ, codes, Option}
use Rattle.std.specs.Option.{option_map_or}
use Rattle.std.specs.Str.{bytes_eq}
use Rattle.lisp_object.specs.Object.{Object}
use Rattle.package_table.specs.Table.{Name, Table, keyword}
use Rattle.package_table.specs.Lookup.{home_by_name, is_symbol, is_external}
use Rattle.canon_printer.specs.Names.{printed_name}
use Rattle.canon_printer.specs.Written.{written}

-- whether a symbol was found, and this is its home
abbrev pub has_home : Option Name → Name → Bool
has_home found_home home = option_map_or (λ h. bytes_eq h home) found_home false

module _ (packages : Table) (current : Name) where
  -- the current package finds this very symbol by its name (it is accessible, standard 11.1.1.2.3)
  abbrev pub is_accessible : Name → Name → Bool
  is_accessible home name = has_home (home_by_name packages current name) home

  -- what comes before a symbol's name (standard 22.1.3.3.1): nothing if it is accessible, one package marker if its
  -- home has this very symbol external, else two
  abbrev pub printed_prefix : Name → Name → List ℕ
  printed_prefix home name =
      if is_accessible home name then []
      else (if bytes_eq home keyword then codes ":"
      else (if is_symbol packages home name && is_external packages home name then printed_name home ++ codes ":"
      else printed_name home ++ codes "::"))

  abbrev pub printed_symbol : Name → Name → List ℕ
  printed_symbol home name = printed_prefix home name ++ printed_name name

  -- the empty list is the symbol NIL of COMMON-LISP, and printed as any symbol is
  abbrev pub printed : Object → List ℕ
  printed = written printed_prefix
