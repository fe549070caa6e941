use Rattle.std.proofs.Common.{◌≤◌, ◌-◌, length, arith}
use Rattle.diagnostics.proofs.PlaceLaws.{moved_two}
use Rattle.diagnostics.proofs.places.Spot.through_two.Goals as goal

pub returns : goal.returns
returns c =
    let longer = c.if-count-one.false in
    let fits = c.if-rest-other.false in
    moved_two c.args.self c.in_ok-through.field-0 c.args.one.now c.args.other.now c.args.count c.through-3.result (omega (arith, longer)) (omega (arith, fits))
    c.in_ok-through.ensures c.through-3.ensures
