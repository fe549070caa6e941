use Rattle.std.proofs.Common.{sym, ◌∙◌, arith}
use Rattle.property_rows.proofs.Packed.{placed, unplaced}
use Rattle.property_rows.proofs.row.Row.search.Goals as goal

pub returns-then-indicator : goal.returns-then-indicator
returns-then-indicator c =
    sym (placed c.args.self.now.items c.args.indicator c.loop-index.index (omega (arith, c.loop-index-test.true, c.len-count.ensures)) (sym c.indicator.ensures ∙ c.if-indicator.true) c.loop-index.invariant)

pub returns : goal.returns
returns c =
    sym (unplaced c.args.self.now.items c.args.indicator (λ k less. c.loop-index.invariant k (omega (arith, less, c.loop-index-test.false, c.len-count.ensures))))
