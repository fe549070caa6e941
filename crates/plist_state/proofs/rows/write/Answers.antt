use Rattle.std.proofs.Common.{◌≡◌, ◌<◌, true, All, map, length, refl, sym, ap, subst, ◌∙◌}
use Rattle.std.proofs.lemmas.List.{map_push}
use Rattle.std.proofs.lemmas.List.Elements.{All-set, All-get_or}
use Rattle.lisp_object.specs.Datum.{object_of, is_proper}
use Rattle.property_rows.specs.declared.property.NumberedProperty.{NumberedProperty}
use Rattle.property_rows.specs.Slots.{no_property, with_value}
use Rattle.plist_state.specs.Views.{numbered_property, plist_of}
use Rattle.plist_state.specs.Undoing.{with_value_at}
use Rattle.plist_state.proofs.Indices.{item_at, item_is, first_at, absent, shown-set, with_value_at-same, with_value_at-twice}
use Rattle.plist_state.specs.RowIndexes.{IsIndexedIn}
use Rattle.plist_state.proofs.Noted.{indexed_set}
use Rattle.plist_state.proofs.rows.write.Goals as goal

pub replace-value-requires : goal.replace-value-requires
replace-value-requires c = (first_at c.args.row.now.items c.args.indicator c.in-Some.index (sym c.in-Some.ensures)).within

pub returns-in_ok-push-in-None-clause-ok : goal.returns-in_ok-push-in-None-clause-ok
returns-in_ok-push-in-None-clause-ok c =
    let items = c.args.row.now.items in
    let i = c.args.indicator in
    ap (map numbered_property) c.in_ok-push-in-None.ensures.items
    ∙ map_push numbered_property items (record { indicator = c.args.indicator; order = c.in_ok-order-in-None.order; value = c.args.value })
    ∙ sym ((absent items i (sym c.in-None.ensures)).written (object_of c.args.value))

pub returns-in-Some-clause-ok : goal.returns-in-Some-clause-ok
returns-in-Some-clause-ok c =
    let items = c.args.row.now.items in
    let index = c.in-Some.index in
    ap (map numbered_property) c.replace-value.ensures.items
    ∙ shown-set items index (item_at items index) c.args.value (item_is items index)
    ∙ sym ((first_at items c.args.indicator index (sym c.in-Some.ensures)).written (object_of c.args.value))

pub returns-in-Some-clause-back : goal.returns-in-Some-clause-back
returns-in-Some-clause-back c =
    let items = c.args.row.now.items in
    let index = c.in-Some.index in
    ap (λ xs. with_value_at (map numbered_property xs) index (object_of c.replace-value.result)) c.replace-value.ensures.items
    ∙ ap (λ l. with_value_at l index (object_of c.replace-value.result)) (shown-set items index (item_at items index) c.args.value (item_is items index))
    ∙ with_value_at-twice (plist_of c.args.row.now) index (object_of c.args.value) (object_of c.replace-value.result)
    ∙ ap (λ v. with_value_at (plist_of c.args.row.now) index (object_of v)) c.replace-value.ensures.value
    ∙ with_value_at-same items index (item_at items index) (item_is items index)

pub returns-in-Some-clause-values : goal.returns-in-Some-clause-values
returns-in-Some-clause-values c = λ all.
    let items = c.args.row.now.items in
    subst (All (λ (p : NumberedProperty). is_proper p.value ≡ true)) (sym c.replace-value.ensures.items)
    (All-set (λ (p : NumberedProperty). is_proper p.value ≡ true) items c.in-Some.index (with_value (item_at items c.in-Some.index) c.args.value) c.requires.proper all)

pub returns-in-Some-clause-former : goal.returns-in-Some-clause-former
returns-in-Some-clause-former c = λ all.
    let items = c.args.row.now.items in
    let within : c.in-Some.index < length items = (first_at items c.args.indicator c.in-Some.index (sym c.in-Some.ensures)).within in
    ap is_proper c.replace-value.ensures.value ∙ All-get_or (λ (p : NumberedProperty). is_proper p.value ≡ true) items c.in-Some.index no_property within all

pub returns-in-Some-clause-indexed : goal.returns-in-Some-clause-indexed
returns-in-Some-clause-indexed c =
    let items = c.args.row.now.items in
    subst (IsIndexedIn c.args.indexes.now.entries c.args.number) (sym c.replace-value.ensures.items)
    (indexed_set c.args.indexes.now.entries c.args.number items c.requires.indexed c.in-Some.index (item_at items c.in-Some.index) c.args.value (item_is items c.in-Some.index))

pub returns-in_ok-push-in-None-clause-indexed : goal.returns-in_ok-push-in-None-clause-indexed
returns-in_ok-push-in-None-clause-indexed c =
    let p : NumberedProperty = record { indicator = c.args.indicator; order = c.in_ok-order-in-None.order; value = c.args.value } in
    subst (IsIndexedIn c.new_order.new.indexes.entries c.args.number) (sym c.in_ok-push-in-None.ensures.items)
    (c.in_ok-order-in-None.ensures.next p refl refl)
