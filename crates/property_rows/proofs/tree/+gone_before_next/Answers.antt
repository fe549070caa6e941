use Rattle.std.proofs.Common.{◌≡◌, ◌/◌, arith}
use Rattle.property_rows.specs.Slots.{blank}
use Rattle.property_rows.proofs.Counted.{middle, gone_short, next_lower, next_half, next_middle, after_long}
use Rattle.property_rows.proofs.tree.+gone_before_next.Goals as goal

pub returns-then-slots-half-clause-next : goal.returns-then-slots-half-clause-next
returns-then-slots-half-clause-next t c = λ s is.
    next_lower c.args.size c.args.slots.now s c.requires.room c.requires.tree (c.gone_before_next.ensures.next s is)

pub returns-then-slots-half-2-clause-few : goal.returns-then-slots-half-2-clause-few
returns-then-slots-half-2-clause-few t c =
    let short = gone_short c.args.slots.now in
    omega (arith, short, c.count_gone.ensures)

pub returns-then-slots-half-2-clause-next : goal.returns-then-slots-half-2-clause-next
returns-then-slots-half-2-clause-next t c = λ s is.
    next_half c.args.size c.args.slots.now s (λ none. omega (arith, none, c.requires.room)) (omega (arith, c.if-slots-half-2.true)) c.requires.tree (omega (arith, is, c.count_gone.ensures))

pub gone_before_next-requires-2 : goal.gone_before_next-requires-2
gone_before_next-requires-2 t c =
    let some : c.args.size ≡ 0 → ⊥ = λ none. omega (arith, none, c.requires.room) in
    let p = middle c.args.size c.args.slots.now blank some (omega (arith, c.if-slots-half.false, c.if-slots-half-2.false)) c.requires.tree in
    let long = after_long (c.args.size / 2) c.args.slots.now in
    (omega (arith, c.requires.room, c.decreases), (p.later, omega (arith, long, c.requires.room, c.if-slots-half.false, c.if-slots-half-2.false)))

pub returns-clause-next : goal.returns-clause-next
returns-clause-next t c = λ s is.
    let some : c.args.size ≡ 0 → ⊥ = λ none. omega (arith, none, c.requires.room) in
    next_middle c.args.size c.args.slots.now blank s some (omega (arith, c.if-slots-half.false, c.if-slots-half-2.false)) c.requires.tree (c.gone_before_next-2.ensures.next s is)
