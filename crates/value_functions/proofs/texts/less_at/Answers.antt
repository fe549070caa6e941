use Rattle.std.proofs.Common.{◌≡◌, length, Some, sym, ap, ◌∙◌, arith}
use Rattle.value_functions.proofs.TextOrder.{less_over, less_greater, less_shorter}
use Rattle.value_functions.proofs.texts.less_at.Goals as goal
use Rattle.value_functions.proofs.texts.less_at.Goals.{then-at-b-via-then-at-b, then-at-b-via-else-at-b+then-a-at}

-- src/texts.rt:23:13
pub returns-then-at-b : goal.returns-then-at-b
returns-then-at-b c =
    let at = c.loop-at.at in
    let a = c.args.a.now in
    let b = c.args.b.now in
    elim c.then-at-b.branch [
      | then-at-b-via-then-at-b w ↦ sym (less_over at at a b w.if-at-b.true) ∙ c.loop-at.invariant.left
      | then-at-b-via-else-at-b+then-a-at w ↦ sym (less_greater at at a b c.loop-at-test.true w.if-at-b.false w.if-a-at.true) ∙ c.loop-at.invariant.left
    ]

-- src/texts.rt:30:9
pub returns-then-a-b : goal.returns-then-a-b
returns-then-a-b c =
    let a = c.args.a.now in
    let b = c.args.b.now in
    let ended : c.loop-at.at ≡ length a = omega (arith, c.loop-at-test.false, c.loop-at.auto.at-end) in
    ap Some (sym ended) ∙ sym (less_shorter c.loop-at.at c.loop-at.at a b (omega (arith, ended)) (omega (arith, ended, c.if-a-b.true))) ∙ c.loop-at.invariant.left
