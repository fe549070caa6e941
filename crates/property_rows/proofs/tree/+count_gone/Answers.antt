use Rattle.std.proofs.Common.{ℕ, ◌/◌, ◌%◌, ◌+◌, ap, ◌∙◌, arith}
use Rattle.std.specs.List.{slice_index_or}
use Rattle.property_rows.specs.declared.slot.Slot.{Slot}
use Rattle.property_rows.proofs.Counted.{middle, gone_parts, gone_fits}
use Rattle.property_rows.proofs.tree.+count_gone.Goals as goal

pub count_gone-requires-2 : goal.count_gone-requires-2
count_gone-requires-2 t c =
    let p = middle c.args.size c.args.slots.now c.index-slots-half.result c.if-size-eq0.false c.if-slots-half.false c.requires in
    (omega (arith, c.if-size-eq0.false, c.decreases), p.later)

pub returns : goal.returns
returns t c =
    let p = middle c.args.size c.args.slots.now c.index-slots-half.result c.if-size-eq0.false c.if-slots-half.false c.requires in
    let s : Slot = slice_index_or c.args.slots.now (c.args.size / 2) c.index-slots-half.result in
    ap (λ (n : ℕ). s.gone / 2 + s.gone % 2 + n) c.count_gone-2.ensures ∙ gone_parts _ _ _ _ p

pub overflow_add-result-2 : goal.overflow_add-result-2
overflow_add-result-2 t c =
    let p = middle c.args.size c.args.slots.now c.index-slots-half.result c.if-size-eq0.false c.if-slots-half.false c.requires in
    let sum = gone_parts _ _ _ _ p in
    let fits = gone_fits c.args.size c.args.slots.now c.requires in
    omega (arith, sum, fits, c.count_gone-2.ensures, c.ranges.size)
