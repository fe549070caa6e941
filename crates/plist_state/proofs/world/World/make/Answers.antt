use Rattle.plist_state.proofs.InState.{packages_kept, packages_rest, packages_unchanged}
use Rattle.plist_state.proofs.world.World.make.Goals as goal

pub invariant_of-self : goal.invariant_of-self
invariant_of-self c =
    let e = c.make-result.ensures in
    packages_kept c.self.inside c.make-result.new.self e.grows e.numbers c.numbering.ensures e.marked c.self.invariant c.soundness.ensures

pub returns-clause-rest : goal.returns-clause-rest
returns-clause-rest c =
    let e = c.make-result.ensures in
    packages_rest c.self.inside c.make-result.new.self e.grows e.numbers c.numbering.ensures e.marked c.self.invariant c.args.self.now c.self.view_is

pub returns-clause-unchanged : goal.returns-clause-unchanged
returns-clause-unchanged c = packages_unchanged c.make-result.result c.self.inside c.make-result.new.self c.make-result.ensures.unchanged c.args.self.now c.self.view_is
