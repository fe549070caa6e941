use Rattle.std.proofs.Common.{◌≡◌, ◌<◌, true, pos, Some, OnErr, All, List, map, length, set, sym, ap, subst, ◌∙◌}
use Rattle.std.proofs.lemmas.Bool.{false≢true}
use Rattle.std.proofs.lemmas.List.Elements.{All-set, All-get_or}
use Rattle.lisp_object.specs.declared.datum.Datum.TheVariants.{Integer}
use Rattle.lisp_object.specs.Datum.{object_of, is_proper}
use Rattle.property_rows.specs.declared.property.NumberedProperty.{NumberedProperty}
use Rattle.property_rows.specs.Slots.{no_property, with_value}
use Rattle.plist_state.specs.Views.{numbered_property}
use Rattle.lisp_object.specs.Object.{pair}
use Rattle.plist_state.specs.Undoing.{with_changed_at, without_first}
use Rattle.plist_state.specs.PushedLists.{holds_pair}
use Rattle.plist_state.specs.RowIndexes.{IsIndexedIn}
use Rattle.plist_state.proofs.Indices.{item_at, item_is, put_back, first_at, absent, stands_at, pushed_at, changed_back, unpushed}
use Rattle.plist_state.proofs.Noted.{indexed_set}
use Rattle.plist_state.proofs.rows.write_first.Goals as goal

pub unreachable-requires : goal.unreachable-requires
unreachable-requires c =
    let i = c.args.indicator in
    let none = absent c.args.row.now.items i (sym c.in_default.ensures) in
    absurd (false≢true (ap holds_pair (sym none.stands) ∙ c.requires.list))

pub replace-list-requires : goal.replace-list-requires
replace-list-requires c = (first_at c.args.row.now.items c.args.indicator c.in-Some.index (sym c.in-Some.ensures)).within

pub put_first-pushed-requires-clause-list : goal.put_first-pushed-requires-clause-list
put_first-pushed-requires-clause-list c =
    let items = c.args.row.now.items in
    let within : c.in-Some.index < length items = (first_at items c.args.indicator c.in-Some.index (sym c.in-Some.ensures)).within in
    ap is_proper c.replace-list.ensures.value ∙ All-get_or (λ (p : NumberedProperty). is_proper p.value ≡ true) items c.in-Some.index no_property within c.requires.values

pub put_first-pushed-requires-clause-pair : goal.put_first-pushed-requires-clause-pair
put_first-pushed-requires-clause-pair c =
    let i = c.args.indicator in
    let items = c.args.row.now.items in
    ap (λ v. holds_pair (Some (object_of v))) c.replace-list.ensures.value
    ∙ ap holds_pair (sym (stands_at items i c.in-Some.index (item_at items c.in-Some.index) (sym c.in-Some.ensures) (item_is items c.in-Some.index)))
    ∙ c.requires.list

pub returns-in_err-pushed-clause-err : goal.returns-in_err-pushed-clause-err
returns-in_err-pushed-clause-err c =
    let items = c.args.row.now.items in
    let k = c.in-Some.index in
    let made = c.put_first-pushed.new.list in
    let written : c.replace.new.self.items ≡ set items k (with_value (item_at items k) made) =
    put_back items c.replace-list.new.self.items c.replace.new.self.items k (Integer (pos 0)) made c.replace-list.ensures.items c.replace.ensures.items in
    subst (λ (xs : List NumberedProperty). OnErr c.from_residual.result (map numbered_property xs ≡ map numbered_property items)) (sym written)
    (unpushed c.from_residual.result items k (item_at items k) made (item_is items k) (c.in_err-pushed.ensures.err ∙ ap object_of c.replace-list.ensures.value))

pub returns-clause-ok : goal.returns-clause-ok
returns-clause-ok c =
    let items = c.args.row.now.items in
    let k = c.in-Some.index in
    let made = c.put_first-pushed.new.list in
    let written : c.replace.new.self.items ≡ set items k (with_value (item_at items k) made) =
    put_back items c.replace-list.new.self.items c.replace.new.self.items k (Integer (pos 0)) made c.replace-list.ensures.items c.replace.ensures.items in
    ap (map numbered_property) written
    ∙ pushed_at items c.args.indicator k (item_at items k) made c.args.first (sym c.in-Some.ensures) (item_is items k)
    (c.in_ok-pushed.ensures.ok ∙ ap (λ v. pair (object_of c.args.first) (object_of v)) c.replace-list.ensures.value)

pub returns-clause-back : goal.returns-clause-back
returns-clause-back c =
    let items = c.args.row.now.items in
    let k = c.in-Some.index in
    let made = c.put_first-pushed.new.list in
    let written : c.replace.new.self.items ≡ set items k (with_value (item_at items k) made) =
    put_back items c.replace-list.new.self.items c.replace.new.self.items k (Integer (pos 0)) made c.replace-list.ensures.items c.replace.ensures.items in
    ap (λ xs. with_changed_at without_first (map numbered_property xs) k) written
    ∙ changed_back without_first items k (item_at items k) made (item_is items k)
    (ap without_first c.in_ok-pushed.ensures.ok ∙ ap object_of c.replace-list.ensures.value)

pub returns-clause-values : goal.returns-clause-values
returns-clause-values c =
    let items = c.args.row.now.items in
    let k = c.in-Some.index in
    let made = c.put_first-pushed.new.list in
    let written : c.replace.new.self.items ≡ set items k (with_value (item_at items k) made) =
    put_back items c.replace-list.new.self.items c.replace.new.self.items k (Integer (pos 0)) made c.replace-list.ensures.items c.replace.ensures.items in
    subst (All (λ (p : NumberedProperty). is_proper p.value ≡ true)) (sym written)
    (All-set (λ (p : NumberedProperty). is_proper p.value ≡ true) items k (with_value (item_at items k) made) c.put_first-pushed.ensures.proper c.requires.values)

pub returns-clause-indexed : goal.returns-clause-indexed
returns-clause-indexed c =
    let items = c.args.row.now.items in
    let k = c.in-Some.index in
    let made = c.put_first-pushed.new.list in
    let written : c.replace.new.self.items ≡ set items k (with_value (item_at items k) made) =
    put_back items c.replace-list.new.self.items c.replace.new.self.items k (Integer (pos 0)) made c.replace-list.ensures.items c.replace.ensures.items in
    subst (IsIndexedIn c.args.indexes.now.entries c.args.number) (sym written)
    (indexed_set c.args.indexes.now.entries c.args.number items c.requires.indexed k (item_at items k) made (item_is items k))

pub returns-in_err-pushed-clause-indexed : goal.returns-in_err-pushed-clause-indexed
returns-in_err-pushed-clause-indexed c =
    let items = c.args.row.now.items in
    let k = c.in-Some.index in
    let made = c.put_first-pushed.new.list in
    let written : c.replace.new.self.items ≡ set items k (with_value (item_at items k) made) =
    put_back items c.replace-list.new.self.items c.replace.new.self.items k (Integer (pos 0)) made c.replace-list.ensures.items c.replace.ensures.items in
    subst (IsIndexedIn c.args.indexes.now.entries c.args.number) (sym written)
    (indexed_set c.args.indexes.now.entries c.args.number items c.requires.indexed k (item_at items k) made (item_is items k))
