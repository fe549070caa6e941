use Rattle.std.proofs.Common.{◌-◌, ◌≤◌, ℕ, length, refl, arith}
use Rattle.plist_state.proofs.Indices.{item_at}
use Rattle.plist_state.proofs.Indexing.{above_last}
use Rattle.plist_state.proofs.row_index.next_order.Goals as goal

pub returns-in-Some : goal.returns-in-Some
returns-in-Some c = λ rising k less.
    let items = c.args.row.now.items in
    let last : ℕ = (item_at items (length items - 1)).order in
    let not_below : last ≤ c.last_order.result = c.last_order.ensures (omega (arith, less)) in
    above_last items last refl rising k less c.in-Some.next (let is = c.in-Some.ensures in omega (arith, is.1, not_below))
