use Rattle.std.proofs.Common.{◌≡◌, ◌+◌, ◌-◌, ◌/◌, ◌<◌, ℕ, length, sym, ap, ◌∙◌, arith}
use Rattle.std.proofs.lemmas.List.{length-map}
use Rattle.plist_state.specs.RowIndexes.{order_of, orders, indexed_order}
use Rattle.plist_state.proofs.Indexing.{nth_is}
use Rattle.plist_state.proofs.row_index.by_order.Goals as goal

pub loop-first-preserved-then-here-order-2 : goal.loop-first-preserved-then-here-order-2
loop-first-preserved-then-here-order-2 c =
    let items = c.args.row.now.items in
    let m : ℕ = c.loop-first.first + (c.loop-first.end - c.loop-first.first) / 2 in
    let long : length (orders items) ≡ length items = length-map items order_of in
    let here : (indexed_order (orders items) m).1 ≡ c.order-here.result = ap (λ (p : ℕ × ℕ). p.1) (nth_is items m) ∙ sym c.order-here.ensures in
    let bound = c.loop-first.invariant.0 in
    let within : m < length items = omega (arith, c.loop-first-test.true, bound) in (
      bound,
      (
        λ k less. grind (arith, long, here, within, less, c.if-here-order-2.true, c.requires k m, λ (same : k ≡ m). ap (λ j. (indexed_order (orders items) j).1) same),
        c.loop-first.invariant.1.1,
      ),
    )

pub loop-first-preserved : goal.loop-first-preserved
loop-first-preserved c =
    let items = c.args.row.now.items in
    let m : ℕ = c.loop-first.first + (c.loop-first.end - c.loop-first.first) / 2 in
    let long : length (orders items) ≡ length items = length-map items order_of in
    let here : (indexed_order (orders items) m).1 ≡ c.order-here.result = ap (λ (p : ℕ × ℕ). p.1) (nth_is items m) ∙ sym c.order-here.ensures in
    let bound = c.loop-first.invariant.0 in (
      omega (arith, c.loop-first-test.true, bound),
      (
        c.loop-first.invariant.1.0,
        λ k le lt. grind (arith, long, here, le, lt, c.if-here-order.false, c.if-here-order-2.false, c.requires m k, λ (same : k ≡ m). ap (λ j. (indexed_order (orders items) j).1) same),
      ),
    )
