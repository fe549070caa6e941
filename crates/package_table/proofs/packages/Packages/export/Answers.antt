use Rattle.package_table.specs.Meaning.{numbered_of}
use Rattle.package_table.proofs.Calls.{left_after, told_of}
use Rattle.package_table.proofs.KeptChanges.{kept_export}
use Rattle.package_table.proofs.packages.Packages.export.Goals as goal

pub invariant_of-self : goal.invariant_of-self
invariant_of-self c =
    let e = c.export_symbol.ensures in
    (left_after c.self.inside c.args.self.now c.export_symbol.new.sets _ c.export_symbol.result _
    (kept_export (numbered_of c.self.inside.sets).0 c.args.owner.now c.args.name.now c.self.invariant.state.sound c.args.home.now (numbered_of c.export_symbol.new.sets).0)
    c.self.view_is c.self.invariant e.gives e.unchanged e.adds).kept

pub returns-clause-grows : goal.returns-clause-grows
returns-clause-grows c =
    let e = c.export_symbol.ensures in
    (left_after c.self.inside c.args.self.now c.export_symbol.new.sets _ c.export_symbol.result _
    (kept_export (numbered_of c.self.inside.sets).0 c.args.owner.now c.args.name.now c.self.invariant.state.sound c.args.home.now (numbered_of c.export_symbol.new.sets).0)
    c.self.view_is c.self.invariant e.gives e.unchanged e.adds).grows

pub returns-clause-numbers : goal.returns-clause-numbers
returns-clause-numbers c =
    let e = c.export_symbol.ensures in
    (left_after c.self.inside c.args.self.now c.export_symbol.new.sets _ c.export_symbol.result _
    (kept_export (numbered_of c.self.inside.sets).0 c.args.owner.now c.args.name.now c.self.invariant.state.sound c.args.home.now (numbered_of c.export_symbol.new.sets).0)
    c.self.view_is c.self.invariant e.gives e.unchanged e.adds).numbers

pub returns-clause-marked : goal.returns-clause-marked
returns-clause-marked c =
    let e = c.export_symbol.ensures in
    (left_after c.self.inside c.args.self.now c.export_symbol.new.sets _ c.export_symbol.result _
    (kept_export (numbered_of c.self.inside.sets).0 c.args.owner.now c.args.name.now c.self.invariant.state.sound c.args.home.now (numbered_of c.export_symbol.new.sets).0)
    c.self.view_is c.self.invariant e.gives e.unchanged e.adds).marked

pub returns-clause-exactly : goal.returns-clause-exactly
returns-clause-exactly c =
    let e = c.export_symbol.ensures in
    told_of c.self.inside c.args.self.now c.export_symbol.new.sets _ c.export_symbol.result _
    (kept_export (numbered_of c.self.inside.sets).0 c.args.owner.now c.args.name.now c.self.invariant.state.sound c.args.home.now (numbered_of c.export_symbol.new.sets).0)
    c.self.view_is e.gives e.changed
