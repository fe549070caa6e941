use Rattle.std.proofs.Common.{ℕ, ◌+◌, ◌-◌, ◌/◌, ◌%◌, ap, ◌∙◌, arith}
use Rattle.std.specs.List.{slice_index_or}
use Rattle.property_rows.specs.declared.slot.Slot.{Slot}
use Rattle.property_rows.proofs.Counted.{middle, place_behind, gone_under, after_long}
use Rattle.property_rows.proofs.tree.+gone_before.Goals as goal

pub gone_before-requires-2 : goal.gone_before-requires-2
gone_before-requires-2 t c =
    let p = middle c.args.size c.args.slots.now c.index-slots-half.result c.if-size-eq0.false c.if-slots-half.false c.requires.tree in
    let long = after_long (c.args.size / 2) c.args.slots.now in
    (omega (arith, c.if-size-eq0.false, c.decreases), (p.later, omega (arith, long, c.requires.place, c.if-place-half.false)))

pub returns : goal.returns
returns t c =
    let p = middle c.args.size c.args.slots.now c.index-slots-half.result c.if-size-eq0.false c.if-slots-half.false c.requires.tree in
    let s : Slot = slice_index_or c.args.slots.now (c.args.size / 2) c.index-slots-half.result in
    ap (λ (n : ℕ). s.gone / 2 + s.gone % 2 + n) c.gone_before-2.ensures
    ∙ place_behind _ _ _ _ p c.if-slots-half.false c.args.place (c.args.place - c.args.size / 2 - 1) (omega (arith, c.if-place-half.false))

pub overflow_add-result-2 : goal.overflow_add-result-2
overflow_add-result-2 t c =
    let p = middle c.args.size c.args.slots.now c.index-slots-half.result c.if-size-eq0.false c.if-slots-half.false c.requires.tree in
    let sum = place_behind _ _ _ _ p c.if-slots-half.false c.args.place (c.args.place - c.args.size / 2 - 1) (omega (arith, c.if-place-half.false)) in
    let under = gone_under c.args.slots.now c.args.place c.requires.place in
    omega (arith, sum, under, c.gone_before-2.ensures, c.ranges.place)
