use Rattle.std.proofs.Common.{◌≡◌, ◌<◌, ◌≤◌, length, sym, subst, ◌∙◌, arith}
use Rattle.std.proofs.lemmas.List.{length-map}
use Rattle.plist_state.specs.RowIndexes.{order_of, orders, indexed_order, IsRowIndex}
use Rattle.plist_state.proofs.Placing.{inserted}
use Rattle.plist_state.proofs.Indexing.{nth_read, IsIndexed-next, below_next, passed}
use Rattle.plist_state.proofs.row_index.index_of.Goals as goal

pub loop-place-preserved : goal.loop-place-preserved
loop-place-preserved c =
    let items = c.args.row.now.items in
    let n = c.loop-place.place in
    let i = c.indicator-indicator.result in
    let o = c.order-order.result in
    let less : n < length items = omega (arith, c.loop-place-test.true, c.len-count.ensures) in
    let here : indexed_order (orders items) n ≡ (i, o) = nth_read items n i o c.indicator-indicator.ensures c.order-order.ensures in
    let high : c.loop-place.next ≤ o = omega (arith, c.if-order-next.false) in
    let put = inserted c.loop-place.index.entries c.insert.new.self.entries i o c.in_ok-insert.ensures.entries in
    let new = sym c.contains_key.ensures ∙ c.if-contains_key.false in
    let above = c.in-Some.ensures in (
      IsIndexed-next c.loop-place.index.entries c.insert.new.self.entries items n c.loop-place.next i o less here c.loop-place.invariant.0 c.loop-place.invariant.1 high new put,
      below_next c.loop-place.index.entries c.insert.new.self.entries items n c.loop-place.next i o less here c.loop-place.invariant.0 c.loop-place.invariant.1 high new put c.in-Some.above (omega (arith, above.1)),
    )

pub returns : goal.returns
returns c =
    let items = c.args.row.now.items in
    let long : length (orders items) ≡ length items = length-map items order_of in
    subst (IsRowIndex c.loop-place.index.entries) (passed c.loop-place.place (orders items) (omega (arith, long, c.loop-place-test.false, c.len-count.ensures))) c.loop-place.invariant.0
