use Rattle.std.proofs.Common.{◌≡◌, suc, true, is_some, map, sym, ap, ◌∙◌}
use Rattle.std.proofs.lemmas.List.Elements.{All-append, All-take, All-drop, All-same}
use Rattle.lisp_object.specs.Datum.{is_proper}
use Rattle.property_rows.specs.declared.property.NumberedProperty.{NumberedProperty}
use Rattle.plist_state.specs.Views.{numbered_property}
use Rattle.plist_state.specs.Undoing.{with_inserted}
use Rattle.plist_state.proofs.Indices.{IsFirstAt, IsAbsent, first_at, absent, inserted-removed}
use Rattle.plist_state.proofs.Noted.{indexed_removed}
use Rattle.plist_state.proofs.rows.cut.Goals as goal

pub returns-in-Some-clause-after : goal.returns-in-Some-clause-after
returns-in-Some-clause-after c =
    let items = c.args.row.now.items in
    let i = c.args.indicator in
    let at : IsFirstAt items i c.in-Some.index = first_at items i c.in-Some.index (sym c.in-Some.ensures) in
    ap (map numbered_property) c.remove-property.ensures.items ∙ at.cut

pub returns-in-Some-clause-had : goal.returns-in-Some-clause-had
returns-in-Some-clause-had c =
    let items = c.args.row.now.items in
    let i = c.args.indicator in
    let at : IsFirstAt items i c.in-Some.index = first_at items i c.in-Some.index (sym c.in-Some.ensures) in
    sym (ap is_some (at.stands c.remove-property.result))

pub returns-in-Some-clause-back : goal.returns-in-Some-clause-back
returns-in-Some-clause-back c =
    let items = c.args.row.now.items in
    let i = c.args.indicator in
    let at : IsFirstAt items i c.in-Some.index = first_at items i c.in-Some.index (sym c.in-Some.ensures) in
    ap (λ xs. with_inserted (map numbered_property xs) c.in-Some.index (numbered_property c.remove-property.result)) c.remove-property.ensures.items
    ∙ inserted-removed items c.in-Some.index c.remove-property.result at.within c.remove-property.ensures.value

pub returns-in-None-clause-after : goal.returns-in-None-clause-after
returns-in-None-clause-after c =
    let i = c.args.indicator in
    let none : IsAbsent c.args.row.now.items i = absent c.args.row.now.items i (sym c.in-None.ensures) in
    sym none.uncut

pub returns-in-None-clause-had : goal.returns-in-None-clause-had
returns-in-None-clause-had c =
    let i = c.args.indicator in
    let none : IsAbsent c.args.row.now.items i = absent c.args.row.now.items i (sym c.in-None.ensures) in
    sym (ap is_some none.stands)

pub returns-in-Some-clause-indexed : goal.returns-in-Some-clause-indexed
returns-in-Some-clause-indexed c =
    let items = c.args.row.now.items in
    let i = c.args.indicator in
    let at : IsFirstAt items i c.in-Some.index = first_at items i c.in-Some.index (sym c.in-Some.ensures) in
    indexed_removed c.args.indexes.now.entries c.args.number items c.requires c.in-Some.index c.remove-property.new.self.items at.within c.remove-property.ensures.items

pub returns-in-Some-clause-values : goal.returns-in-Some-clause-values
returns-in-Some-clause-values c = λ all.
    let P = λ (p : NumberedProperty). is_proper p.value ≡ true in
    let items = c.args.row.now.items in
    All-same P c.remove-property.new.self.items _ c.remove-property.ensures.items
    (All-append P _ _ (All-take P c.in-Some.index items all) (All-drop P (suc c.in-Some.index) items all))
