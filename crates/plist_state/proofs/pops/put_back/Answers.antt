use Rattle.std.proofs.Common.{◌≡◌, ◌≤◌, true, pos, All, map, length, set, sym, ap, subst, ◌∙◌, arith}
use Rattle.std.proofs.lemmas.List.{length-map}
use Rattle.std.proofs.lemmas.List.Elements.{All-set, All-get_or}
use Rattle.lisp_object.specs.declared.datum.Datum.TheVariants.{Integer}
use Rattle.lisp_object.specs.Datum.{object_of, is_proper}
use Rattle.property_rows.specs.declared.property.NumberedProperty.{NumberedProperty}
use Rattle.property_rows.specs.Slots.{no_property, with_value}
use Rattle.plist_state.specs.Views.{numbered_property, plist_of}
use Rattle.plist_state.specs.Undoing.{with_items}
use Rattle.plist_state.specs.RowIndexes.{IsIndexedIn}
use Rattle.plist_state.proofs.Indices.{item_at, item_is, put_back, shown-changed, with_changed_at-past}
use Rattle.plist_state.proofs.Noted.{indexed_set}
use Rattle.plist_state.proofs.pops.put_back.Goals as goal

pub put_items-requires-clause-list : goal.put_items-requires-clause-list
put_items-requires-clause-list c =
    ap is_proper c.replace-list.ensures.value
    ∙ All-get_or (λ (p : NumberedProperty). is_proper p.value ≡ true) c.args.row.now.items c.args.index no_property (omega arith) c.requires.values

pub returns-then-index-len-clause-after : goal.returns-then-index-len-clause-after
returns-then-index-len-clause-after c =
    let items = c.args.row.now.items in
    let k = c.args.index in
    let made = c.put_items.new.list in
    let written : c.replace.new.self.items ≡ set items k (with_value (item_at items k) made) =
    put_back items c.replace-list.new.self.items c.replace.new.self.items k (Integer (pos 0)) made c.replace-list.ensures.items c.replace.ensures.items in
    ap (map numbered_property) written
    ∙ shown-changed (with_items c.args.items) items k (item_at items k) made (item_is items k) (c.put_items.ensures.value ∙ ap (λ v. with_items c.args.items (object_of v)) c.replace-list.ensures.value)

pub returns-then-index-len-clause-values : goal.returns-then-index-len-clause-values
returns-then-index-len-clause-values c =
    let items = c.args.row.now.items in
    let k = c.args.index in
    let made = c.put_items.new.list in
    let written : c.replace.new.self.items ≡ set items k (with_value (item_at items k) made) =
    put_back items c.replace-list.new.self.items c.replace.new.self.items k (Integer (pos 0)) made c.replace-list.ensures.items c.replace.ensures.items in
    subst (All (λ (p : NumberedProperty). is_proper p.value ≡ true)) (sym written)
    (All-set (λ (p : NumberedProperty). is_proper p.value ≡ true) items k (with_value (item_at items k) made) c.put_items.ensures.proper c.requires.values)

pub returns-then-index-len-clause-indexed : goal.returns-then-index-len-clause-indexed
returns-then-index-len-clause-indexed c = λ indexes number indexed.
    let items = c.args.row.now.items in
    let k = c.args.index in
    let made = c.put_items.new.list in
    let written : c.replace.new.self.items ≡ set items k (with_value (item_at items k) made) =
    put_back items c.replace-list.new.self.items c.replace.new.self.items k (Integer (pos 0)) made c.replace-list.ensures.items c.replace.ensures.items in
    subst (IsIndexedIn indexes number) (sym written)
    (indexed_set indexes number items indexed k (item_at items k) made (item_is items k))

pub returns-else-index-len-clause-after : goal.returns-else-index-len-clause-after
returns-else-index-len-clause-after c =
    let past : length (plist_of c.args.row.now) ≤ c.args.index = omega (arith, length-map c.args.row.now.items numbered_property) in
    sym (with_changed_at-past (with_items c.args.items) (plist_of c.args.row.now) c.args.index past)
