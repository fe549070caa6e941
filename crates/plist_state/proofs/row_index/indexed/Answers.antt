use Rattle.std.proofs.Common.{◌≡◌, ℕ, refl, sym, ap, ◌∙◌}
use Rattle.plist_state.specs.RowIndexes.{orders, indexed_order}
use Rattle.plist_state.proofs.Indexing.{nth_is, unknown, unmatched, mismatched, matched}
use Rattle.plist_state.proofs.row_index.indexed.Goals as goal

pub returns-in_default : goal.returns-in_default
returns-in_default c = sym (unknown c.args.index.now.entries c.args.row.now.items c.requires c.args.indicator (sym c.in_default.ensures.value))

pub returns-in_default-by_order : goal.returns-in_default-by_order
returns-in_default-by_order c =
    sym (unmatched c.args.index.now.entries c.args.row.now.items c.requires c.args.indicator c.in-Some.order.now (sym c.in-Some.ensures.value) (c.in_default-by_order.ensures.absent refl))

pub returns-then-indicator : goal.returns-then-indicator
returns-then-indicator c =
    let items = c.args.row.now.items in
    let found = c.in-Some-by_order.ensures.found in
    let here : (indexed_order (orders items) c.in-Some-by_order.place).0 ≡ c.indicator.result = ap (λ (e : ℕ × ℕ). e.0) (nth_is items c.in-Some-by_order.place) ∙ sym c.indicator.ensures in
    sym (matched c.args.index.now.entries items c.requires c.args.indicator c.in-Some.order.now (sym c.in-Some.ensures.value) c.in-Some-by_order.place found.0 found.1 (here ∙ c.if-indicator.true))

pub returns-else-indicator : goal.returns-else-indicator
returns-else-indicator c =
    let items = c.args.row.now.items in
    let found = c.in-Some-by_order.ensures.found in
    let here : (indexed_order (orders items) c.in-Some-by_order.place).0 ≡ c.indicator.result = ap (λ (e : ℕ × ℕ). e.0) (nth_is items c.in-Some-by_order.place) ∙ sym c.indicator.ensures in
    sym (mismatched c.args.index.now.entries items c.requires c.args.indicator c.in-Some.order.now (sym c.in-Some.ensures.value) c.in-Some-by_order.place found.0 found.1 (λ same. c.if-indicator.false (sym here ∙ same)))
