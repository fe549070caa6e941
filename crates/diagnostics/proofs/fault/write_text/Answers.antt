use Rattle.std.proofs.Common.{◌++◌, take, Some, ap, ◌∙◌, append_assoc, arith}
use Rattle.sessions.proofs.StreamLemmas.{appended, piece_written}
use Rattle.diagnostics.proofs.fault.write_text.Goals as goal

pub pieces-preserved : goal.pieces-preserved
pieces-preserved g c = λ held known.
    let far = c.pieces.invariant held known in
    let n = c.in-Ok.count in (
      far.0 ++ take n c.pieces.rest.now,
      piece_written c.args.text.now far.0 c.pieces.rest.now n (omega (arith, c.in-Ok.ensures.bound)) far.1,
      appended _ _ _ _ far.2 c.in-Ok.ensures.bytes ∙ ap (λ z. Some z) (append_assoc held far.0 (take n c.pieces.rest.now)),
    )
