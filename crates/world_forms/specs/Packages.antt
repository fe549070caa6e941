-- The forms that make the packages of a world, in the order of their names. Symbols come before uses: a name that was inherited
-- would not be interned.
use Rattle.std.specs.Prelude.{ℕ, Bool, ◌&&◌, ◌||◌, if◌then◌else◌, List, [], ◌∷◌, ◌++◌, codes}
use Rattle.std.specs.List.{flat_map}
use Rattle.std.specs.Str.{bytes_eq}
use Rattle.package_table.specs.Table.{Name, Table, common_lisp, common_lisp_user, keyword, initial}
use Rattle.package_table.specs.Lookup.{is_present}
use Rattle.package_table.specs.Readers.{package_names, used_names, own_names, external_names, imports}
use Rattle.canon_printer.specs.Written.{printed_text}
use Rattle.world_forms.specs.NameTokens.{world_form_line, call_text, value_text}

-- a package that is there from the first
unfoldable pub is_first : Name → Bool
is_first p = bytes_eq p common_lisp || (bytes_eq p common_lisp_user || bytes_eq p keyword)

-- the form that makes a package, if it is not there from the first
unfoldable pub package_line : Name → List ℕ
package_line p = if is_first p then [] else world_form_line (call_text (codes "MAKE-PACKAGE") (p ∷ []))

-- the form that makes a symbol at home in p, if it is not there from the first, as 22 of KEYWORD are
unfoldable pub own_line : Name → Name → List ℕ
own_line p n = if is_present initial p n then [] else world_form_line (call_text (codes "INTERN") (n ∷ p ∷ []))

-- an operator, a symbol in a list, since NIL alone would be the empty list, and the name of a package
unfoldable pub change_line : List ℕ → (home name : Name) → Name → List ℕ
change_line operator home name p =
    world_form_line (codes "(" ++ operator ++ codes " " ++ value_text (codes "'(") (codes ")") home name ++ codes " " ++ printed_text p ++ codes ")")

-- the line that makes a symbol of another home present in p
abbrev pub import_line : Name → Name × Name → List ℕ
import_line p r = change_line (codes "IMPORT") r.1 r.0 p

-- the line with the form that makes a symbol external
abbrev pub export_form_line : Name → Name → List ℕ
export_form_line p n = change_line (codes "EXPORT") p n p

-- the form that makes p use a package, but for the use that is there from the first
unfoldable pub use_line : Name → Name → List ℕ
use_line p u =
    if bytes_eq p common_lisp_user && bytes_eq u common_lisp then []
    else world_form_line (call_text (codes "USE-PACKAGE") (u ∷ p ∷ []))

module _ (t : Table) where
  -- the forms that make the symbols at home in a package
  unfoldable pub own_lines : Name → List ℕ
  own_lines p = flat_map (own_line p) (own_names t p)

  -- The forms that import symbols into a package from other homes, and make symbols external. Nothing for COMMON-LISP, which
  -- never changes, and for KEYWORD, of which all are external.
  unfoldable pub shown_lines : Name → List ℕ
  shown_lines p =
      if bytes_eq p common_lisp || bytes_eq p keyword then []
      else flat_map (import_line p) (imports t p) ++ flat_map (export_form_line p) (external_names t p)

  -- the forms by which a package uses those that it uses
  unfoldable pub use_package_lines : Name → List ℕ
  use_package_lines p = flat_map (use_line p) (used_names t p)

  -- all lines of the packages: what makes them, their own symbols, what they show, what they use
  unfoldable pub package_lines : List ℕ
  package_lines =
      flat_map package_line (package_names t) ++ flat_map own_lines (package_names t)
      ++ flat_map shown_lines (package_names t) ++ flat_map use_package_lines (package_names t)
