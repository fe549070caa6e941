use Rattle.std.proofs.Common.{IfOk, subst}
use Rattle.package_table.specs.declared.intern.Interned.{Interned}
use Rattle.package_table.specs.Table.{Table}
use Rattle.package_table.specs.Numbers.{Tables}
use Rattle.package_table.specs.Meaning.{numbered_of}
use Rattle.package_table.specs.Changes.{after_intern, intern_changes}
use Rattle.package_table.specs.Growth.{TellsOfChange}
use Rattle.package_table.proofs.KeptChanges.{kept_intern, found_after, told_after}
use Rattle.package_table.proofs.Calls.{left_interned}
use Rattle.package_table.proofs.packages.Packages.intern.Goals as goal

pub invariant_of-self : goal.invariant_of-self
invariant_of-self c = (left_interned c.self.inside c.args.self.now c.intern_symbol.new.sets c.args.owner.now c.args.name.now (λ (x : Interned). x.home) c.intern_symbol.result c.requires c.self.view_is c.self.invariant c.intern_symbol.ensures.gives c.intern_symbol.ensures.unchanged c.intern_symbol.ensures.adds c.intern_symbol.ensures.counted).left.kept

pub returns-clause-grows : goal.returns-clause-grows
returns-clause-grows c = (left_interned c.self.inside c.args.self.now c.intern_symbol.new.sets c.args.owner.now c.args.name.now (λ (x : Interned). x.home) c.intern_symbol.result c.requires c.self.view_is c.self.invariant c.intern_symbol.ensures.gives c.intern_symbol.ensures.unchanged c.intern_symbol.ensures.adds c.intern_symbol.ensures.counted).left.grows

pub returns-clause-numbers : goal.returns-clause-numbers
returns-clause-numbers c = (left_interned c.self.inside c.args.self.now c.intern_symbol.new.sets c.args.owner.now c.args.name.now (λ (x : Interned). x.home) c.intern_symbol.result c.requires c.self.view_is c.self.invariant c.intern_symbol.ensures.gives c.intern_symbol.ensures.unchanged c.intern_symbol.ensures.adds c.intern_symbol.ensures.counted).left.numbers

pub returns-clause-marked : goal.returns-clause-marked
returns-clause-marked c = (left_interned c.self.inside c.args.self.now c.intern_symbol.new.sets c.args.owner.now c.args.name.now (λ (x : Interned). x.home) c.intern_symbol.result c.requires c.self.view_is c.self.invariant c.intern_symbol.ensures.gives c.intern_symbol.ensures.unchanged c.intern_symbol.ensures.adds c.intern_symbol.ensures.counted).left.marked

pub returns-clause-others : goal.returns-clause-others
returns-clause-others c = (left_interned c.self.inside c.args.self.now c.intern_symbol.new.sets c.args.owner.now c.args.name.now (λ (x : Interned). x.home) c.intern_symbol.result c.requires c.self.view_is c.self.invariant c.intern_symbol.ensures.gives c.intern_symbol.ensures.unchanged c.intern_symbol.ensures.adds c.intern_symbol.ensures.counted).others

pub returns-clause-finds : goal.returns-clause-finds
returns-clause-finds c =
    found_after (numbered_of c.self.inside.sets).0 (numbered_of c.intern_symbol.new.sets).0 c.args.owner.now c.args.name.now (λ (x : Interned). x.home) c.intern_symbol.result
    c.self.invariant.state.sound c.requires c.intern_symbol.ensures.gives

pub returns-clause-exactly : goal.returns-clause-exactly
returns-clause-exactly c =
    let t : Table = (numbered_of c.self.inside.sets).0 in
    let u : Table = (numbered_of c.intern_symbol.new.sets).0 in
    subst (λ (ts : Tables). IfOk c.intern_symbol.result (λ (x : Interned). TellsOfChange x.is_new ts.0 u)) c.self.view_is
    (told_after t u (λ (x : Interned). (x.home, u)) (λ (x : Interned). x.is_new) (intern_changes t c.args.owner.now c.args.name.now) c.intern_symbol.result (after_intern t c.args.owner.now c.args.name.now)
    c.intern_symbol.ensures.gives c.intern_symbol.ensures.is_new
    (λ x is. (kept_intern t c.args.owner.now c.args.name.now c.self.invariant.state.sound x.home u c.requires is).kept.told))
