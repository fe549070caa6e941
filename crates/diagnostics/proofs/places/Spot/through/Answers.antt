use Rattle.std.proofs.Common.{take, sym, subst}
use Rattle.std.proofs.lemmas.List.{take_more}
use Rattle.diagnostics.specs.Places.{IsSpotBehind}
use Rattle.diagnostics.proofs.PlaceLaws.{moved_on}
use Rattle.diagnostics.proofs.places.Spot.through.Goals as goal

pub bytes-preserved : goal.bytes-preserved
bytes-preserved c =
    subst (λ t. IsSpotBehind c.args.self t c.in_ok-spot.spot) (sym (take_more c.args.text.now c.bytes.byte-index 0 c.bytes-test.true))
    (moved_on c.args.self c.bytes.spot c.in_ok-spot.spot (take c.bytes.byte-index c.args.text.now) _ c.bytes.invariant c.in_ok-spot.ensures)
