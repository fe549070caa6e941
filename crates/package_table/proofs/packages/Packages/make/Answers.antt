use Rattle.package_table.specs.Meaning.{numbered_of}
use Rattle.package_table.proofs.Calls.{left_after}
use Rattle.package_table.proofs.KeptChanges.{kept_make}
use Rattle.package_table.proofs.packages.Packages.make.Goals as goal

pub invariant_of-self : goal.invariant_of-self
invariant_of-self c =
    let e = c.make_package.ensures in
    (left_after c.self.inside c.args.self.now c.make_package.new.sets _ c.make_package.result _
    (kept_make (numbered_of c.self.inside.sets).0 c.args.name.now (numbered_of c.make_package.new.sets).0 c.self.invariant.state.sound c.requires)
    c.self.view_is c.self.invariant e.gives e.unchanged e.adds).kept

pub returns-clause-grows : goal.returns-clause-grows
returns-clause-grows c =
    let e = c.make_package.ensures in
    (left_after c.self.inside c.args.self.now c.make_package.new.sets _ c.make_package.result _
    (kept_make (numbered_of c.self.inside.sets).0 c.args.name.now (numbered_of c.make_package.new.sets).0 c.self.invariant.state.sound c.requires)
    c.self.view_is c.self.invariant e.gives e.unchanged e.adds).grows

pub returns-clause-numbers : goal.returns-clause-numbers
returns-clause-numbers c =
    let e = c.make_package.ensures in
    (left_after c.self.inside c.args.self.now c.make_package.new.sets _ c.make_package.result _
    (kept_make (numbered_of c.self.inside.sets).0 c.args.name.now (numbered_of c.make_package.new.sets).0 c.self.invariant.state.sound c.requires)
    c.self.view_is c.self.invariant e.gives e.unchanged e.adds).numbers

pub returns-clause-marked : goal.returns-clause-marked
returns-clause-marked c =
    let e = c.make_package.ensures in
    (left_after c.self.inside c.args.self.now c.make_package.new.sets _ c.make_package.result _
    (kept_make (numbered_of c.self.inside.sets).0 c.args.name.now (numbered_of c.make_package.new.sets).0 c.self.invariant.state.sound c.requires)
    c.self.view_is c.self.invariant e.gives e.unchanged e.adds).marked
