use Rattle.std.proofs.Common.{◌≡◌, Option, None, Some, ℕ, sym}
use Rattle.std.specs.Option.{option_copied}
use Rattle.std.specs.Borrow.{Bor}
use Rattle.property_rows.specs.Rows.{PropertyRow}
use Rattle.plist_state.specs.Views.{Rows, row_at, items_in}
use Rattle.plist_state.specs.RowIndexes.{Indexes, IsIndexedIn, AreRowIndexes}
use Rattle.plist_state.proofs.ListRows.{lent, list_found, proper_found}
use Rattle.plist_state.proofs.Indexing.{IsIndexed-nil}
use Rattle.plist_state.proofs.rows.row.Goals as goal

indexed_found : (rows : Rows) (indexes : Indexes) (x : ℕ) (row : Option (Bor PropertyRow)) → option_copied row ≡ row_at rows x → AreRowIndexes rows indexes → IsIndexedIn indexes x (items_in row)
indexed_found rows indexes x None is all = λ i there. IsIndexed-nil i.entries
indexed_found rows indexes x (Some row) is all = all x row.now (sym is)

pub returns-clause-list : goal.returns-clause-list
returns-clause-list c = list_found c.args.rows.now.items c.args.number c.get.result (lent c.args.rows.now.items c.deref.result.now c.args.number c.get.result c.deref.ensures.value c.get.ensures.lookup)

pub returns-clause-proper : goal.returns-clause-proper
returns-clause-proper c = proper_found c.args.rows.now.items c.args.number c.get.result (lent c.args.rows.now.items c.deref.result.now c.args.number c.get.result c.deref.ensures.value c.get.ensures.lookup) c.requires

pub returns-clause-indexed : goal.returns-clause-indexed
returns-clause-indexed c = λ indexes all. indexed_found c.args.rows.now.items indexes c.args.number c.get.result (lent c.args.rows.now.items c.deref.result.now c.args.number c.get.result c.deref.ensures.value c.get.ensures.lookup) all
