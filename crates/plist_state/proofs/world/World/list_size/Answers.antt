use Rattle.std.proofs.Common.{◌≡◌, Some, None, sym, ap, ◌∙◌}
use Rattle.package_table.specs.Table.{symbol_count}
use Rattle.package_table.specs.Numbers.{table_now, number_of}
use Rattle.plist_state.specs.Properties as properties
use Rattle.plist_state.specs.Properties.{value_at}
use Rattle.plist_state.specs.PushedLists.{pair_size}
use Rattle.plist_state.specs.Views.{symbol_of, rest_of}
use Rattle.plist_state.proofs.InState.{none_seen, property_seen, no_property}
use Rattle.plist_state.proofs.world.World.list_size.Goals as goal

pub returns-in_default : goal.returns-in_default
returns-in_default c =
    let x : properties.Symbol = symbol_of c.args.symbol.now in
    let i : properties.Symbol = symbol_of c.args.indicator.now in
    let s = table_now c.self.inside.packages in
    let is : number_of s x.0 x.1 ≡ None = (λ k. number_of s (sym c.home.ensures k) (sym c.name.ensures k)) ∙ sym c.in_default.ensures in
    ap (λ ps. pair_size (value_at ps i)) (none_seen c.self.inside c.args.self.now c.self.view_is x is)

pub returns-in_default-number_of : goal.returns-in_default-number_of
returns-in_default-number_of c =
    let x : properties.Symbol = symbol_of c.args.symbol.now in
    let i : properties.Symbol = symbol_of c.args.indicator.now in
    let s = table_now c.self.inside.packages in
    let owner : number_of s x.0 x.1 ≡ Some c.in-Some.owner = (λ k. number_of s (sym c.home.ensures k) (sym c.name.ensures k)) ∙ sym c.in-Some.ensures in
    let none : number_of s i.0 i.1 ≡ None = (λ k. number_of s (sym c.home-2.ensures k) (sym c.name-2.ensures k)) ∙ sym c.in_default-number_of.ensures in
    ap pair_size (sym (no_property c.self.inside c.self.invariant c.args.self.now c.self.view_is x i c.in-Some.owner owner none))

pub returns-in-Some-noted : goal.returns-in-Some-noted
returns-in-Some-noted c =
    let x : properties.Symbol = symbol_of c.args.symbol.now in
    let i : properties.Symbol = symbol_of c.args.indicator.now in
    let s = table_now c.self.inside.packages in
    let owner : number_of s x.0 x.1 ≡ Some c.in-Some.owner = (λ k. number_of s (sym c.home.ensures k) (sym c.name.ensures k)) ∙ sym c.in-Some.ensures in
    let indicator : number_of s i.0 i.1 ≡ Some c.in-Some-number_of.indicator = (λ k. number_of s (sym c.home-2.ensures k) (sym c.name-2.ensures k)) ∙ sym c.in-Some-number_of.ensures in
    sym (c.in-Some-noted.ensures (rest_of c.self.inside.stored).properties c.self.invariant.now.sizes)
    ∙ ap pair_size (property_seen c.self.inside c.self.invariant c.args.self.now c.self.view_is x i (symbol_count s.0) c.numbering.ensures c.in-Some.owner c.in-Some-number_of.indicator owner indicator)

pub returns-in-Some-value : goal.returns-in-Some-value
returns-in-Some-value c =
    let x : properties.Symbol = symbol_of c.args.symbol.now in
    let i : properties.Symbol = symbol_of c.args.indicator.now in
    let s = table_now c.self.inside.packages in
    let owner : number_of s x.0 x.1 ≡ Some c.in-Some.owner = (λ k. number_of s (sym c.home.ensures k) (sym c.name.ensures k)) ∙ sym c.in-Some.ensures in
    let indicator : number_of s i.0 i.1 ≡ Some c.in-Some-number_of.indicator = (λ k. number_of s (sym c.home-2.ensures k) (sym c.name-2.ensures k)) ∙ sym c.in-Some-number_of.ensures in
    c.counted.ensures ∙ ap pair_size c.in-Some-value.ensures.value
    ∙ ap pair_size (property_seen c.self.inside c.self.invariant c.args.self.now c.self.view_is x i (symbol_count s.0) c.numbering.ensures c.in-Some.owner c.in-Some-number_of.indicator owner indicator)

pub returns-in-None : goal.returns-in-None
returns-in-None c =
    let x : properties.Symbol = symbol_of c.args.symbol.now in
    let i : properties.Symbol = symbol_of c.args.indicator.now in
    let s = table_now c.self.inside.packages in
    let owner : number_of s x.0 x.1 ≡ Some c.in-Some.owner = (λ k. number_of s (sym c.home.ensures k) (sym c.name.ensures k)) ∙ sym c.in-Some.ensures in
    let indicator : number_of s i.0 i.1 ≡ Some c.in-Some-number_of.indicator = (λ k. number_of s (sym c.home-2.ensures k) (sym c.name-2.ensures k)) ∙ sym c.in-Some-number_of.ensures in
    ap pair_size c.in-None.ensures.value
    ∙ ap pair_size (property_seen c.self.inside c.self.invariant c.args.self.now c.self.view_is x i (symbol_count s.0) c.numbering.ensures c.in-Some.owner c.in-Some-number_of.indicator owner indicator)
