use Rattle.std.proofs.Common.{sym, subst}
use Rattle.package_table.specs.Table.{IsPresent}
use Rattle.package_table.specs.Numbers.{Tables}
use Rattle.package_table.specs.Meaning.{numbered_of}
use Rattle.package_table.proofs.Calls.{left_after, told_of}
use Rattle.package_table.proofs.KeptChanges.{kept_import}
use Rattle.package_table.proofs.packages.Packages.import.Goals as goal

pub invariant_of-self : goal.invariant_of-self
invariant_of-self c =
    let at_home = subst (λ (ts : Tables). IsPresent ts.0 c.args.home.now c.args.name.now c.args.home.now) (sym c.self.view_is) c.requires in
    let e = c.import_symbol.ensures in
    (left_after c.self.inside c.args.self.now c.import_symbol.new.sets _ c.import_symbol.result _
    (kept_import (numbered_of c.self.inside.sets).0 c.args.owner.now c.args.name.now c.self.invariant.state.sound c.args.home.now (numbered_of c.import_symbol.new.sets).0 at_home)
    c.self.view_is c.self.invariant e.gives e.unchanged e.adds).kept

pub returns-clause-grows : goal.returns-clause-grows
returns-clause-grows c =
    let at_home = subst (λ (ts : Tables). IsPresent ts.0 c.args.home.now c.args.name.now c.args.home.now) (sym c.self.view_is) c.requires in
    let e = c.import_symbol.ensures in
    (left_after c.self.inside c.args.self.now c.import_symbol.new.sets _ c.import_symbol.result _
    (kept_import (numbered_of c.self.inside.sets).0 c.args.owner.now c.args.name.now c.self.invariant.state.sound c.args.home.now (numbered_of c.import_symbol.new.sets).0 at_home)
    c.self.view_is c.self.invariant e.gives e.unchanged e.adds).grows

pub returns-clause-numbers : goal.returns-clause-numbers
returns-clause-numbers c =
    let at_home = subst (λ (ts : Tables). IsPresent ts.0 c.args.home.now c.args.name.now c.args.home.now) (sym c.self.view_is) c.requires in
    let e = c.import_symbol.ensures in
    (left_after c.self.inside c.args.self.now c.import_symbol.new.sets _ c.import_symbol.result _
    (kept_import (numbered_of c.self.inside.sets).0 c.args.owner.now c.args.name.now c.self.invariant.state.sound c.args.home.now (numbered_of c.import_symbol.new.sets).0 at_home)
    c.self.view_is c.self.invariant e.gives e.unchanged e.adds).numbers

pub returns-clause-marked : goal.returns-clause-marked
returns-clause-marked c =
    let at_home = subst (λ (ts : Tables). IsPresent ts.0 c.args.home.now c.args.name.now c.args.home.now) (sym c.self.view_is) c.requires in
    let e = c.import_symbol.ensures in
    (left_after c.self.inside c.args.self.now c.import_symbol.new.sets _ c.import_symbol.result _
    (kept_import (numbered_of c.self.inside.sets).0 c.args.owner.now c.args.name.now c.self.invariant.state.sound c.args.home.now (numbered_of c.import_symbol.new.sets).0 at_home)
    c.self.view_is c.self.invariant e.gives e.unchanged e.adds).marked

pub returns-clause-exactly : goal.returns-clause-exactly
returns-clause-exactly c =
    let at_home = subst (λ (ts : Tables). IsPresent ts.0 c.args.home.now c.args.name.now c.args.home.now) (sym c.self.view_is) c.requires in
    let e = c.import_symbol.ensures in
    told_of c.self.inside c.args.self.now c.import_symbol.new.sets _ c.import_symbol.result _
    (kept_import (numbered_of c.self.inside.sets).0 c.args.owner.now c.args.name.now c.self.invariant.state.sound c.args.home.now (numbered_of c.import_symbol.new.sets).0 at_home)
    c.self.view_is e.gives e.changed
