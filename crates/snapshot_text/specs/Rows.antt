-- The rows of property lists, as they stand in a text and are read one after the other.
use Rattle.std.specs.Prelude.{ℕ, ◌≡◌, cond, List, [], map, take, drop, slice_index_or, None}
use Rattle.std.specs.List.{list_any}
use Rattle.std.specs.Ordering.{eq_by_cmp}
use Rattle.std.specs.FinMap as finite
use Rattle.lisp_object.specs.Object.{list_of}
use Rattle.package_table.specs.Table.{common_lisp_user}
use Rattle.canon_printer.specs.Written.{written_rest}
use Rattle.canon_printer.specs.Printed.{printed, printed_prefix}
use Rattle.plist_state.specs.Properties.{Symbol, symbol_cmp}
use Rattle.plist_state.specs.State.{WorldState}
use Rattle.plist_state.specs.Readers.{symbols_with_properties}
use Rattle.world_text.specs.ObjectTexts.{row_of}
use Rattle.snapshot_text.specs.BuiltWorlds.{with_properties, built_with_packages}

-- the symbol of the row at an index
abbrev pub row_symbol_at : WorldState → ℕ → Symbol
row_symbol_at s n = slice_index_or (symbols_with_properties s) n ([], [])

-- the text of the row at an index
abbrev pub row_text : WorldState → ℕ → List ℕ
row_text s n = printed s.packages common_lisp_user (row_of s (row_symbol_at s n))

-- the text from the end of the row before an index to the parenthesis that closes the rows: each row after a space
abbrev pub text_after : WorldState → ℕ → List ℕ
text_after s n = written_rest (printed_prefix s.packages common_lisp_user) (list_of (map (row_of s) (drop n (symbols_with_properties s))))

-- The world has the packages of s and, of its property lists, those in the rows before an index.
pub record HasRowsUpTo (s : WorldState) (n : ℕ) (now : WorldState) : Type 0 where
  pub rest : now ≡ with_properties (built_with_packages s) now.properties
  pub lists : (q : Symbol) → finite.get now.properties q
      ≡ cond (list_any (eq_by_cmp symbol_cmp q) (take n (symbols_with_properties s))) (finite.get s.properties q) None
