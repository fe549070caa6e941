use Rattle.package_table.specs.Meaning.{numbered_of}
use Rattle.package_table.proofs.Calls.{left_after, told_of}
use Rattle.package_table.proofs.KeptChanges.{kept_use}
use Rattle.package_table.proofs.packages.Packages.use_package.Goals as goal

pub invariant_of-self : goal.invariant_of-self
invariant_of-self c =
    let e = c.use_other.ensures in
    (left_after c.self.inside c.args.self.now c.use_other.new.sets _ c.use_other.result _
    (kept_use (numbered_of c.self.inside.sets).0 c.args.owner.now c.args.used.now c.self.invariant.state.sound (numbered_of c.use_other.new.sets).0)
    c.self.view_is c.self.invariant e.gives e.unchanged e.adds).kept

pub returns-clause-grows : goal.returns-clause-grows
returns-clause-grows c =
    let e = c.use_other.ensures in
    (left_after c.self.inside c.args.self.now c.use_other.new.sets _ c.use_other.result _
    (kept_use (numbered_of c.self.inside.sets).0 c.args.owner.now c.args.used.now c.self.invariant.state.sound (numbered_of c.use_other.new.sets).0)
    c.self.view_is c.self.invariant e.gives e.unchanged e.adds).grows

pub returns-clause-numbers : goal.returns-clause-numbers
returns-clause-numbers c =
    let e = c.use_other.ensures in
    (left_after c.self.inside c.args.self.now c.use_other.new.sets _ c.use_other.result _
    (kept_use (numbered_of c.self.inside.sets).0 c.args.owner.now c.args.used.now c.self.invariant.state.sound (numbered_of c.use_other.new.sets).0)
    c.self.view_is c.self.invariant e.gives e.unchanged e.adds).numbers

pub returns-clause-marked : goal.returns-clause-marked
returns-clause-marked c =
    let e = c.use_other.ensures in
    (left_after c.self.inside c.args.self.now c.use_other.new.sets _ c.use_other.result _
    (kept_use (numbered_of c.self.inside.sets).0 c.args.owner.now c.args.used.now c.self.invariant.state.sound (numbered_of c.use_other.new.sets).0)
    c.self.view_is c.self.invariant e.gives e.unchanged e.adds).marked

pub returns-clause-exactly : goal.returns-clause-exactly
returns-clause-exactly c =
    let e = c.use_other.ensures in
    told_of c.self.inside c.args.self.now c.use_other.new.sets _ c.use_other.result _
    (kept_use (numbered_of c.self.inside.sets).0 c.args.owner.now c.args.used.now c.self.invariant.state.sound (numbered_of c.use_other.new.sets).0)
    c.self.view_is e.gives e.changed
