use Rattle.std.proofs.Common.{◌≡◌, ◌≤◌, ◌++◌, length, take, subst, ◌∙◌, sym, ap₂, List, ℕ}
use Rattle.std.specs.Prelude.{IfSome}
use Rattle.diagnostics.specs.Places.{IsSpotBehind}
use Rattle.diagnostics.proofs.PlaceLaws.{spot_found}
use Rattle.diagnostics.proofs.places.GivenBytes.spot_at.Goals as goal

pub returns : goal.returns
returns c = λ given keeps.
    let self = c.args.self.now in
    let parts : c.as_slice.result.now ++ c.as_slice-2.result.now ≡ self.older.items ++ self.newer.items = ap₂ (λ (xs ys : List ℕ). xs ++ ys) c.as_slice.ensures.value c.as_slice-2.ensures.value in
    spot_found self.before c.through_two.result c.in_ok-before.before self.older.items self.newer.items given c.args.bytes c.in_ok-count.count c.in_ok-before.was c.in_ok-count.ensures
    (subst (λ (t : List ℕ). IfSome c.through_two.result (λ later. (c.in_ok-count.count ≤ length t) × IsSpotBehind c.in_ok-before.before (take c.in_ok-count.count t) later)) parts c.through_two.ensures) keeps
