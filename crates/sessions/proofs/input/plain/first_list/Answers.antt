use Rattle.std.proofs.Common.{sym, ◌+◌, arith}
use Rattle.std.proofs.lemmas.List.{length-take-le}
use Rattle.sessions.proofs.input.plain.first_list.Goals as goal

pub slice_bounds-result-end : goal.slice_bounds-result-end
slice_bounds-result-end c =
    let same = c.bytes.invariant in
    let below = c.bytes-test.true in
    sym (length-take-le (c.bytes.count + 1) c.args.piece.now (omega (arith, same, below)))
