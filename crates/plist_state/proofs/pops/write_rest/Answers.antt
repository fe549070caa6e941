use Rattle.std.proofs.Common.{◌≡◌, ◌<◌, ◌≤◌, true, pos, None, Option, All, map, length, set, unwrap_or, sym, ap, subst, ◌∙◌, arith}
use Rattle.std.specs.Vec.{vec_capacity}
use Rattle.std.proofs.lemmas.List.Elements.{All-set, All-get_or}
use Rattle.lisp_object.specs.declared.datum.Datum.{Datum}
use Rattle.lisp_object.specs.declared.datum.Datum.TheVariants.{Integer}
use Rattle.lisp_object.specs.Object.{Object, nil}
use Rattle.lisp_object.specs.Datum.{object_of, is_proper}
use Rattle.property_rows.specs.declared.property.NumberedProperty.{NumberedProperty}
use Rattle.property_rows.specs.Slots.{no_property, with_value}
use Rattle.plist_state.specs.Views.{numbered_property}
use Rattle.plist_state.specs.Undoing.{without_first, element_count, with_changed_at, with_items}
use Rattle.plist_state.specs.RowIndexes.{IsIndexedIn}
use Rattle.plist_state.proofs.Indices.{item_at, item_is, put_back, first_at, absent, stands_at, popped_at, changed_back}
use Rattle.plist_state.proofs.Noted.{indexed_set}
use Rattle.plist_state.proofs.pops.write_rest.Goals as goal

pub unreachable-requires : goal.unreachable-requires
unreachable-requires c =
    let none = absent c.args.row.now.items c.args.indicator (sym c.in_default.ensures) in
    let few : 1 < element_count (unwrap_or None nil) = subst (λ (o : Option Object). 1 < element_count (unwrap_or o nil)) none.stands c.requires.more in
    absurd (omega (arith, few))

pub replace-list-requires : goal.replace-list-requires
replace-list-requires c = (first_at c.args.row.now.items c.args.indicator c.in-Some.index (sym c.in-Some.ensures)).within

pub pop_first-items-requires-clause-list : goal.pop_first-items-requires-clause-list
pop_first-items-requires-clause-list c =
    let items = c.args.row.now.items in
    let within : c.in-Some.index < length items = (first_at items c.args.indicator c.in-Some.index (sym c.in-Some.ensures)).within in
    ap is_proper c.replace-list.ensures.value ∙ All-get_or (λ (p : NumberedProperty). is_proper p.value ≡ true) items c.in-Some.index no_property within c.requires.values

pub pop_first-items-requires-clause-more : goal.pop_first-items-requires-clause-more
pop_first-items-requires-clause-more c =
    let items = c.args.row.now.items in
    subst (λ (d : Datum). 1 < element_count (object_of d)) (sym c.replace-list.ensures.value)
    (subst (λ (o : Option Object). 1 < element_count (unwrap_or o nil)) (stands_at items c.args.indicator c.in-Some.index (item_at items c.in-Some.index) (sym c.in-Some.ensures) (item_is items c.in-Some.index)) c.requires.more)

pub pop_first-items-requires-clause-room : goal.pop_first-items-requires-clause-room
pop_first-items-requires-clause-room c =
    let items = c.args.row.now.items in
    subst (λ (d : Datum). element_count (object_of d) ≤ vec_capacity c.args.space) (sym c.replace-list.ensures.value)
    (subst (λ (o : Option Object). element_count (unwrap_or o nil) ≤ vec_capacity c.args.space) (stands_at items c.args.indicator c.in-Some.index (item_at items c.in-Some.index) (sym c.in-Some.ensures) (item_is items c.in-Some.index)) c.requires.space)

pub returns-clause-after : goal.returns-clause-after
returns-clause-after c =
    let items = c.args.row.now.items in
    let k = c.in-Some.index in
    let made = c.pop_first-items.new.list in
    let written : c.replace.new.self.items ≡ set items k (with_value (item_at items k) made) =
    put_back items c.replace-list.new.self.items c.replace.new.self.items k (Integer (pos 0)) made c.replace-list.ensures.items c.replace.ensures.items in
    ap (map numbered_property) written
    ∙ popped_at items c.args.indicator k (item_at items k) made (sym c.in-Some.ensures) (item_is items k)
    (c.pop_first-items.ensures.value ∙ ap (λ v. without_first (object_of v)) c.replace-list.ensures.value)

pub returns-clause-back : goal.returns-clause-back
returns-clause-back c =
    let items = c.args.row.now.items in
    let k = c.in-Some.index in
    let made = c.pop_first-items.new.list in
    let written : c.replace.new.self.items ≡ set items k (with_value (item_at items k) made) =
    put_back items c.replace-list.new.self.items c.replace.new.self.items k (Integer (pos 0)) made c.replace-list.ensures.items c.replace.ensures.items in
    let before = with_items c.pop_first-items.result in
    ap (λ xs. with_changed_at before (map numbered_property xs) k) written
    ∙ changed_back before items k (item_at items k) made (item_is items k) (c.pop_first-items.ensures.back ∙ ap object_of c.replace-list.ensures.value)

pub returns-clause-values : goal.returns-clause-values
returns-clause-values c =
    let items = c.args.row.now.items in
    let k = c.in-Some.index in
    let made = c.pop_first-items.new.list in
    let written : c.replace.new.self.items ≡ set items k (with_value (item_at items k) made) =
    put_back items c.replace-list.new.self.items c.replace.new.self.items k (Integer (pos 0)) made c.replace-list.ensures.items c.replace.ensures.items in
    subst (All (λ (p : NumberedProperty). is_proper p.value ≡ true)) (sym written)
    (All-set (λ (p : NumberedProperty). is_proper p.value ≡ true) items k (with_value (item_at items k) made) c.pop_first-items.ensures.proper c.requires.values)

pub returns-clause-indexed : goal.returns-clause-indexed
returns-clause-indexed c =
    let items = c.args.row.now.items in
    let k = c.in-Some.index in
    let made = c.pop_first-items.new.list in
    let written : c.replace.new.self.items ≡ set items k (with_value (item_at items k) made) =
    put_back items c.replace-list.new.self.items c.replace.new.self.items k (Integer (pos 0)) made c.replace-list.ensures.items c.replace.ensures.items in
    subst (IsIndexedIn c.args.indexes.now.entries c.args.number) (sym written)
    (indexed_set c.args.indexes.now.entries c.args.number items c.requires.indexed k (item_at items k) made (item_is items k))
