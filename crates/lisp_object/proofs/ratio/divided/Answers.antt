use Rattle.std.proofs.Common.{◌≤◌, ◌^◌, inl, inr, to_z-of_z, SFits}
use Rattle.std.specs.Int.{w128}
use Rattle.std.proofs.lemmas.Bool.{cases_lt}
use Rattle.lisp_object.proofs.Quotients.{signum-div}
use Rattle.lisp_object.proofs.ratio.divided.Goals as goal

pub returns-in-Err : goal.returns-in-Err
returns-in-Err c =
    let large : 2 ^ 127 ≤ c.args.divisor = elim (cases_lt c.args.divisor (2 ^ 127)) [
      | inl small ↦ absurd (c.in-Err.ensures (record { sfits = small }))
      | inr large ↦ large
    ] in
    let fits : SFits w128 c.signum.result = record { sfits = c.signum.type_inv } in
    rw (to_z-of_z fits, c.signum.ensures.value, to_z-of_z c.ranges.n)
    (signum-div c.args.n c.args.divisor c.ranges.n large c.requires.divides)
