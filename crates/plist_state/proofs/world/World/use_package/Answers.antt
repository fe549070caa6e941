use Rattle.package_table.specs.Changes.{after_use, use_changes}
use Rattle.plist_state.proofs.InState.{packages_kept, packages_changed}
use Rattle.plist_state.proofs.world.World.use_package.Goals as goal

pub invariant_of-self : goal.invariant_of-self
invariant_of-self c =
    let e = c.use_package-result.ensures in
    packages_kept c.self.inside c.use_package-result.new.self e.grows e.numbers c.numbering.ensures e.marked c.self.invariant c.soundness.ensures

pub returns : goal.returns
returns c =
    let e = c.use_package-result.ensures in
    packages_changed c.self.inside c.use_package-result.new.self e.grows e.numbers c.numbering.ensures e.marked c.self.invariant
    c.use_package-result.result (λ t. after_use t c.args.owner.now c.args.used.now) (λ t. use_changes t c.args.owner.now c.args.used.now)
    e.gives e.changed e.memory e.exactly e.unchanged c.args.self.now c.self.view_is
