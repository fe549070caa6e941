use Rattle.std.proofs.Common.{length, ap, arith}
use Rattle.property_rows.specs.Rows.{PropertyRow}
use Rattle.property_rows.proofs.Counted.{there_and_gone, gone_short}
use Rattle.property_rows.proofs.row.Row.len.Goals as goal

pub overflow_sub-result : goal.overflow_sub-result
overflow_sub-result c =
    let short = gone_short c.self.inside.slots.items in
    let of = ap (λ l. length l) c.as_slice.ensures.value in
    let gone = c.gone.ensures in
    let count = c.len.ensures in
    grind (arith, short, gone, count, c.as_slice.ensures.value)

pub returns : goal.returns
returns c =
    let both = there_and_gone c.self.inside.slots.items in
    let is = ap (λ (row : PropertyRow). length row.items) c.self.view_is in
    let gone = c.gone.ensures in
    let count = c.len.ensures in
    grind (arith, both, is, gone, count, c.as_slice.ensures.value)
