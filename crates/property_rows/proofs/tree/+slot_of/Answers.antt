use Rattle.std.proofs.Common.{ℕ, ◌/◌, ◌+◌, ap, ◌∙◌, arith}
use Rattle.property_rows.proofs.Counted.{middle, half_gone, in_front, in_middle, behind, slot_short, tree_fits}
use Rattle.property_rows.proofs.tree.+slot_of.Goals.{else-index-before-2-via-then-index-before-2+else-gone-eq0, else-index-before-2-via-else-index-before-2}
use Rattle.property_rows.proofs.tree.+slot_of.Goals as goal

pub overflow_sub-before : goal.overflow_sub-before
overflow_sub-before t c =
    half_gone _ _ _ _ (middle c.args.size c.args.slots.now c.index-slots-half.result c.if-size-eq0.false c.if-slots-half.false c.requires) c.if-slots-half.false

pub returns-then-index-before : goal.returns-then-index-before
returns-then-index-before t c =
    c.slot_of-then-index-before.ensures
    ∙ in_front _ _ _ _ (middle c.args.size c.args.slots.now c.index-slots-half.result c.if-size-eq0.false c.if-slots-half.false c.requires) c.if-slots-half.false c.args.index c.if-index-before.true

pub returns-then-gone-eq0 : goal.returns-then-gone-eq0
returns-then-gone-eq0 t c =
    in_middle _ _ _ _ (middle c.args.size c.args.slots.now c.index-slots-half.result c.if-size-eq0.false c.if-slots-half.false c.requires) c.if-slots-half.false c.args.index c.if-index-before-2.true c.if-gone-eq0.true

pub slot_of-requires-2 : goal.slot_of-requires-2
slot_of-requires-2 t c =
    let p = middle c.args.size c.args.slots.now c.index-slots-half.result c.if-size-eq0.false c.if-slots-half.false c.requires in
    (omega (arith, c.if-size-eq0.false, c.decreases), p.later)

pub returns : goal.returns
returns t c =
    let p = middle c.args.size c.args.slots.now c.index-slots-half.result c.if-size-eq0.false c.if-slots-half.false c.requires in
    ap (λ (n : ℕ). c.args.size / 2 + 1 + n) c.slot_of-2.ensures
    ∙ behind _ _ _ _ p c.if-slots-half.false c.args.index c.if-index-before.false
    (elim c.else-index-before-2.branch [
      | else-index-before-2-via-then-index-before-2+else-gone-eq0 w ↦ λ e none. w.if-gone-eq0.false none
      | else-index-before-2-via-else-index-before-2 w ↦ λ e none. w.if-index-before-2.false e
    ])

pub overflow_add-result-2 : goal.overflow_add-result-2
overflow_add-result-2 t c =
    let p = middle c.args.size c.args.slots.now c.index-slots-half.result c.if-size-eq0.false c.if-slots-half.false c.requires in
    let is = behind _ _ _ _ p c.if-slots-half.false c.args.index c.if-index-before.false
    (elim c.else-index-before-2.branch [
      | else-index-before-2-via-then-index-before-2+else-gone-eq0 w ↦ λ e none. w.if-gone-eq0.false none
      | else-index-before-2-via-else-index-before-2 w ↦ λ e none. w.if-index-before-2.false e
    ]) in
    let short = slot_short c.args.slots.now c.args.index in
    let fits = tree_fits c.args.size c.args.slots.now c.requires in
    omega (arith, c.slot_of-2.ensures, is, short, fits, c.ranges.size)
