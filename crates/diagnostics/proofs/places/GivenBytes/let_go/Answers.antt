use Rattle.std.proofs.Common.{◌≡◌, Option, Some, subst}
use Rattle.std.specs.Prelude.{IfSome}
use Rattle.diagnostics.specs.Places.{IsSpotBehind}
use Rattle.diagnostics.specs.declared.places.Spot.{Spot}
use Rattle.diagnostics.proofs.PlaceLaws.{keeps_moved}
use Rattle.diagnostics.proofs.places.GivenBytes.let_go.Goals as goal

pub returns : goal.returns
returns c = λ bytes keeps.
    let given = c.args.self.now in
    let moved : IfSome c.passed-self.result (λ later. (spot : Spot) × (given.before ≡ Some spot) × IsSpotBehind spot given.older.items later) =
    subst (λ t. IfSome c.passed-self.result (λ later. (spot : Spot) × (given.before ≡ Some spot) × IsSpotBehind spot t later)) c.as_slice.ensures.value c.passed-self.ensures in
    rw (c.swap.ensures.x_after, c.clear.ensures.items) (keeps_moved given.before c.passed-self.result given.older.items given.newer.items bytes moved keeps)
