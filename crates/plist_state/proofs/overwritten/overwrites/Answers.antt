use Rattle.std.proofs.Common.{◌-◌, sym, ap, ◌∙◌, arith}
use Rattle.plist_state.specs.OverwrittenValues.{before_note}
use Rattle.plist_state.proofs.Unnoted.{passed, earlier_notes}
use Rattle.plist_state.proofs.overwritten.overwrites.Goals as goal

pub returns-in_default : goal.returns-in_default
returns-in_default c = λ _.
    let x = c.args.number in
    let ns = c.args.notes.now in
    let k = c.loop-left.left - 1 in
    let n = c.index-notes-left.result in
    let q = c.loop-left.place in
    earlier_notes x k ns c.args.place
    (passed x ns c.loop-left.left k n c.args.place q (omega (arith, c.loop-left-test.true)) (omega (arith, c.loop-left-test.true, c.loop-left.invariant.0)) c.loop-left.invariant.1
    ∙ ap (λ m. before_note x m q) (sym c.index-notes-left.is) ∙ sym c.place_before.ensures ∙ c.in_default.is)
