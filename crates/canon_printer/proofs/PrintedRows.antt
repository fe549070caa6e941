-- Objects as they are printed, where the packages find these symbols.
use Rattle.std.proofs.Common.{◌≡◌, Some, None, true, false, pos, codes, refl, [], ◌∷◌}
use Rattle.std.specs.Fmt.{digits}
use Rattle.lisp_object.specs.Object.{integer, character, text, symbol, uninterned, pair, vector, nil, list_of}
use Rattle.package_table.specs.Table.{Name, Table, Present, entry_at, common_lisp, keyword}
use Rattle.package_table.specs.Lookup.{home_by_name}
use Rattle.canon_printer.specs.Printed.{printed}

abbrev shown : Name → Present
shown home = record { home = home; external = true }

abbrev hidden : Name → Present
hidden home = record { home = home; external = false }

module _ (t : Table) (p : Name) where
  -- P has a NIL of its own
  other_nil : home_by_name t p (codes "NIL") ≡ Some (codes "P") → entry_at t common_lisp (codes "NIL") ≡ Some (shown common_lisp)
      → printed t p (list_of (symbol (codes "P") (codes "NIL") ∷ nil ∷ [])) ≡ codes "(NIL COMMON-LISP:NIL)"
  other_nil own standard = rw (own, standard) refl

  keyword_elsewhere : home_by_name t p (codes "K") ≡ None → printed t p (symbol keyword (codes "K")) ≡ codes ":K"
  keyword_elsewhere none = rw none refl

  -- X is external in P, and Y is not
  after_markers : home_by_name t p (codes "X") ≡ None → home_by_name t p (codes "Y z") ≡ None
      → entry_at t (codes "P") (codes "X") ≡ Some (shown (codes "P")) → entry_at t (codes "P") (codes "Y z") ≡ Some (hidden (codes "P"))
      → printed t p (pair (symbol (codes "P") (codes "X")) (symbol (codes "P") (codes "Y z"))) ≡ codes "(P:X . P::|Y z|)"
  after_markers x y one two = rw (x, y, one, two) refl

  atoms : printed t p (vector (list_of (integer (pos 1) ∷ text (codes "a\"\\") ∷ character 10 ∷ uninterned (codes "1+") ∷ uninterned [] ∷ []))) ≡ codes "#(1 \"a\\\"\\\\\" #\\Newline #:|1+| #:||)"
  unfolding digits
  atoms = refl
