use Rattle.package_table.specs.Changes.{after_export, export_changes}
use Rattle.plist_state.proofs.InState.{packages_kept, packages_changed}
use Rattle.plist_state.proofs.world.World.export.Goals as goal

pub invariant_of-self : goal.invariant_of-self
invariant_of-self c =
    let e = c.export-result.ensures in
    packages_kept c.self.inside c.export-result.new.self e.grows e.numbers c.numbering.ensures e.marked c.self.invariant c.soundness.ensures

pub returns : goal.returns
returns c =
    let e = c.export-result.ensures in
    packages_changed c.self.inside c.export-result.new.self e.grows e.numbers c.numbering.ensures e.marked c.self.invariant
    c.export-result.result (λ t. after_export t c.args.owner.now c.args.home.now c.args.name.now) (λ t. export_changes t c.args.owner.now c.args.name.now)
    e.gives e.changed e.memory e.exactly e.unchanged c.args.self.now c.self.view_is
