use Rattle.std.proofs.Common.{◌≡◌, Some, None, sym, ap, ◌∙◌}
use Rattle.package_table.specs.Table.{symbol_count}
use Rattle.package_table.specs.Numbers.{table_now, number_of}
use Rattle.plist_state.specs.Properties as properties
use Rattle.plist_state.specs.Properties.{value_at}
use Rattle.plist_state.specs.Views.{symbol_named}
use Rattle.plist_state.proofs.InState.{none_seen, property_seen, no_property}
use Rattle.plist_state.proofs.world.World.get_at.Goals as goal

pub returns-clause-value : goal.returns-clause-value
returns-clause-value c =
    let x : properties.Symbol = symbol_named c.args.symbol in
    let i : properties.Symbol = symbol_named c.args.indicator in
    let s = table_now c.self.inside.packages in
    let owner : number_of s x.0 x.1 ≡ Some c.in-Some.owner = sym c.in-Some.ensures in
    let indicator : number_of s i.0 i.1 ≡ Some c.in-Some-number_of.indicator = sym c.in-Some-number_of.ensures in
    c.value.ensures.value
    ∙ property_seen c.self.inside c.self.invariant c.args.self.now c.self.view_is x i (symbol_count s.0) c.numbering.ensures c.in-Some.owner c.in-Some-number_of.indicator owner indicator

pub returns-in_default-clause-value : goal.returns-in_default-clause-value
returns-in_default-clause-value c =
    let x : properties.Symbol = symbol_named c.args.symbol in
    let i : properties.Symbol = symbol_named c.args.indicator in
    let s = table_now c.self.inside.packages in
    let is : number_of s x.0 x.1 ≡ None = sym c.in_default.ensures in
    ap (λ ps. value_at ps i) (none_seen c.self.inside c.args.self.now c.self.view_is x is)

pub returns-in_default-number_of-clause-value : goal.returns-in_default-number_of-clause-value
returns-in_default-number_of-clause-value c =
    let x : properties.Symbol = symbol_named c.args.symbol in
    let i : properties.Symbol = symbol_named c.args.indicator in
    let s = table_now c.self.inside.packages in
    let owner : number_of s x.0 x.1 ≡ Some c.in-Some.owner = sym c.in-Some.ensures in
    let none : number_of s i.0 i.1 ≡ None = sym c.in_default-number_of.ensures in
    sym (no_property c.self.inside c.self.invariant c.args.self.now c.self.view_is x i c.in-Some.owner owner none)
