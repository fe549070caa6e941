use Rattle.std.proofs.Common.{◌≡◌, ◌<◌, ℕ, Some, length, ap, sym, subst, ◌∙◌, arith}
use Rattle.std.specs.Option.{option_map}
use Rattle.lisp_object.specs.declared.datum.Datum.{Datum}
use Rattle.lisp_object.specs.Datum.{object_of, is_proper}
use Rattle.package_table.specs.Numbers.{table_now, names_of_symbol}
use Rattle.package_table.proofs.Names.{same_some}
use Rattle.property_rows.specs.declared.property.NumberedProperty.{NumberedProperty}
use Rattle.plist_state.specs.Properties.{Symbol}
use Rattle.plist_state.specs.Lists.{IsNumber, numbered_symbol}
use Rattle.plist_state.specs.Views.{items_in}
use Rattle.plist_state.proofs.Indices.{item_at, item_is}
use Rattle.plist_state.proofs.Viewed.{within_row, property_at, number_at, value_proper}
use Rattle.plist_state.proofs.property_list.PropertyList.at.Goals as goal

pub unreachable-requires : goal.unreachable-requires
unreachable-requires c =
    let a = c.self.inside in
    let within : c.args.index < length (items_in a.row) = within_row a c.args.self.now c.self.view_is c.args.index c.requires in
    let none = ap (λ o. length (items_in o)) c.in_default.is in
    absurd (omega (arith, within, none))

pub returns-clause-property : goal.returns-clause-property
returns-clause-property c =
    let a = c.self.inside in
    let s = table_now a.packages.now in
    let k = c.args.index in
    let p : NumberedProperty = item_at (items_in a.row) k in
    let within : k < length (items_in a.row) = within_row a c.args.self.now c.self.view_is k c.requires in
    let indicator : c.indicator.result ≡ p.indicator = c.indicator.ensures ∙ ap (λ o. (item_at (items_in o) k).indicator) (sym c.in-Some.is) in
    let value : c.value.result.now ≡ p.value = c.value.ensures ∙ ap (λ o. (item_at (items_in o) k).value) (sym c.in-Some.is) in
    let x : Symbol = numbered_symbol s c.indicator.result in
    let named : ◌≡◌ {A = Symbol} (c.in-Some-symbol_of.home.now, c.in-Some-symbol_of.name.now) x =
    same_some _ _ (ap (option_map names_of_symbol) (sym c.in-Some-symbol_of.is)
    ∙ (c.symbol_of.ensures.symbol x.0 x.1).1 (subst (IsNumber s) (sym indicator) (number_at a k within p (item_is (items_in a.row) k) c.self.invariant))) in
    property_at a k within p (item_is (items_in a.row) k) c.args.self.now c.self.view_is
    ∙ ap (λ (i : ℕ). Some (numbered_symbol s i, object_of p.value)) (sym indicator)
    ∙ ap (λ (y : Symbol). Some (y, object_of p.value)) (sym named)
    ∙ ap (λ (v : Datum). Some ((c.in-Some-symbol_of.home.now, c.in-Some-symbol_of.name.now), object_of v)) (sym value)

pub returns-clause-proper : goal.returns-clause-proper
returns-clause-proper c =
    let a = c.self.inside in
    let k = c.args.index in
    let p : NumberedProperty = item_at (items_in a.row) k in
    let within : k < length (items_in a.row) = within_row a c.args.self.now c.self.view_is k c.requires in
    let value : c.value.result.now ≡ p.value = c.value.ensures ∙ ap (λ o. (item_at (items_in o) k).value) (sym c.in-Some.is) in
    ap is_proper value ∙ value_proper a k within p (item_is (items_in a.row) k) c.self.invariant
