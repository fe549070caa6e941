use Rattle.std.proofs.Common.{◌≡◌, ◌≤◌, ◌<◌, ◌-◌, suc, pos, true, All, length, map, take, set, sym, ap, subst, ◌∙◌, arith, IsOk}
use Rattle.std.specs.Prelude.{min}
use Rattle.std.proofs.lemmas.Bool.{false≢true}
use Rattle.std.proofs.lemmas.List.{length-map, take-map}
use Rattle.std.proofs.lemmas.List.Elements.{All-append, All-cons, All-take, All-drop, All-same, All-set, All-get_or}
use Rattle.lisp_object.specs.declared.datum.Datum.TheVariants.{Integer}
use Rattle.lisp_object.specs.Datum.{object_of, is_proper}
use Rattle.property_rows.specs.declared.property.NumberedProperty.{NumberedProperty}
use Rattle.property_rows.specs.Slots.{no_property, with_value}
use Rattle.property_rows.specs.Rows.{room}
use Rattle.plist_state.specs.Views.{numbered_property, plist_of}
use Rattle.plist_state.specs.Undoing.{list_before, without_first}
use Rattle.plist_state.proofs.Indices.{item_at, item_is, put_back, shown-set, with_value_at-past, shown-changed, with_changed_at-past, shown-insert, length-inserted}
use Rattle.plist_state.specs.KeptRows.{IsProperChange}
use Rattle.plist_state.specs.RowIndexes.{IsIndexedIn}
use Rattle.plist_state.proofs.Noted.{indexed_set, indexed_taken}
use Rattle.plist_state.proofs.rows.revert.Goals as goal

pub returns-then-index-len-clause-after : goal.returns-then-index-len-clause-after
returns-then-index-len-clause-after c =
    let items = c.args.row.now.items in
    let k = c.in-Set.index in
    ap (map numbered_property) c.replace.ensures.items
    ∙ shown-set items k (item_at items k) c.in-Set.value (item_is items k)
    ∙ sym (ap (λ change. list_before change (plist_of c.args.row.now)) c.in-Set.is)

pub returns-then-index-len-clause-values : goal.returns-then-index-len-clause-values
returns-then-index-len-clause-values c = λ all.
    let items = c.args.row.now.items in
    let k = c.in-Set.index in
    subst (All (λ (p : NumberedProperty). is_proper p.value ≡ true)) (sym c.replace.ensures.items)
    (All-set (λ (p : NumberedProperty). is_proper p.value ≡ true) items k (with_value (item_at items k) c.in-Set.value) (subst IsProperChange c.in-Set.is c.requires.former) all)

pub returns-else-index-len-clause-after : goal.returns-else-index-len-clause-after
returns-else-index-len-clause-after c =
    let past : length (plist_of c.args.row.now) ≤ c.in-Set.index = omega (arith, length-map c.args.row.now.items numbered_property) in
    sym (ap (λ change. list_before change (plist_of c.args.row.now)) c.in-Set.is ∙ with_value_at-past (plist_of c.args.row.now) c.in-Set.index (object_of c.in-Set.value) past)

pub unreachable-requires : goal.unreachable-requires
unreachable-requires c =
    let row = c.args.row.now in
    let sum : length (list_before c.args.change (plist_of row)) ≡ suc (length (plist_of row)) =
    ap (λ change. length (list_before change (plist_of row))) c.in-Removed.is ∙ length-inserted (plist_of row) c.in-Removed.index (numbered_property c.in-Removed.property) in
    let fits : length (list_before c.args.change (plist_of row)) ≤ room row = c.requires.room in
    let free : length row.items < room row = omega (arith, sum, fits, length-map row.items numbered_property) in
    let done : IsOk c.insert.result = c.insert.ensures.succeeds free in
    absurd (false≢true (subst (λ r. IsOk r) c.in-Err.is done))

pub returns-in_default-clause-after : goal.returns-in_default-clause-after
returns-in_default-clause-after c =
    let row = c.args.row.now in
    let index : c.min-index.result ≡ min c.in-Removed.index (length row.items) = c.min-index.ensures ∙ ap (min c.in-Removed.index) c.len-in-Removed.ensures in
    ap (map numbered_property) c.in_default.ensures.items
    ∙ shown-insert row.items c.in-Removed.index c.min-index.result c.in-Removed.property index
    ∙ sym (ap (λ change. list_before change (plist_of row)) c.in-Removed.is)

pub returns-in_default-clause-values : goal.returns-in_default-clause-values
returns-in_default-clause-values c = λ old.
    let row = c.args.row.now in
    let P = λ (p : NumberedProperty). is_proper p.value ≡ true in
    All-same P c.insert.new.self.items _ c.in_default.ensures.items
    (All-append P _ _ (All-take P c.min-index.result row.items old)
    (All-cons P c.in-Removed.property _ (subst IsProperChange c.in-Removed.is c.requires.former) (All-drop P c.min-index.result row.items old)))

pub take_first-requires-clause-list : goal.take_first-requires-clause-list
take_first-requires-clause-list c =
    ap is_proper c.replace-list.ensures.value
    ∙ All-get_or (λ (p : NumberedProperty). is_proper p.value ≡ true) c.args.row.now.items c.in-Pushed.index no_property (omega arith) c.requires.values

pub returns-then-index-len-2-clause-after : goal.returns-then-index-len-2-clause-after
returns-then-index-len-2-clause-after c =
    let items = c.args.row.now.items in
    let k = c.in-Pushed.index in
    let left = c.take_first.new.list in
    let written : c.replace-then-index-len-2.new.self.items ≡ set items k (with_value (item_at items k) left) =
    put_back items c.replace-list.new.self.items c.replace-then-index-len-2.new.self.items k (Integer (pos 0)) left c.replace-list.ensures.items c.replace-then-index-len-2.ensures.items in
    ap (map numbered_property) written
    ∙ shown-changed without_first items k (item_at items k) left (item_is items k) (c.take_first.ensures.value ∙ ap (λ v. without_first (object_of v)) c.replace-list.ensures.value)
    ∙ sym (ap (λ change. list_before change (plist_of c.args.row.now)) c.in-Pushed.is)

pub returns-then-index-len-2-clause-values : goal.returns-then-index-len-2-clause-values
returns-then-index-len-2-clause-values c = λ all.
    let items = c.args.row.now.items in
    let k = c.in-Pushed.index in
    let left = c.take_first.new.list in
    let written : c.replace-then-index-len-2.new.self.items ≡ set items k (with_value (item_at items k) left) =
    put_back items c.replace-list.new.self.items c.replace-then-index-len-2.new.self.items k (Integer (pos 0)) left c.replace-list.ensures.items c.replace-then-index-len-2.ensures.items in
    subst (All (λ (p : NumberedProperty). is_proper p.value ≡ true)) (sym written)
    (All-set (λ (p : NumberedProperty). is_proper p.value ≡ true) items k (with_value (item_at items k) left) c.take_first.ensures.proper all)

pub returns-else-index-len-2-clause-after : goal.returns-else-index-len-2-clause-after
returns-else-index-len-2-clause-after c =
    let past : length (plist_of c.args.row.now) ≤ c.in-Pushed.index = omega (arith, length-map c.args.row.now.items numbered_property) in
    sym (ap (λ change. list_before change (plist_of c.args.row.now)) c.in-Pushed.is ∙ with_changed_at-past without_first (plist_of c.args.row.now) c.in-Pushed.index past)

pub returns-then-index-len-clause-indexed : goal.returns-then-index-len-clause-indexed
returns-then-index-len-clause-indexed c =
    let items = c.args.row.now.items in
    subst (IsIndexedIn c.args.indexes.now.entries c.args.number) (sym c.replace.ensures.items)
    (indexed_set c.args.indexes.now.entries c.args.number items c.requires.indexed c.in-Set.index (item_at items c.in-Set.index) c.in-Set.value (item_is items c.in-Set.index))

pub returns-in-Added-clause-indexed : goal.returns-in-Added-clause-indexed
returns-in-Added-clause-indexed c =
    let items = c.args.row.now.items in
    indexed_taken c.args.indexes.now.entries c.args.number items c.requires.indexed (length items - 1) c.pop.new.self.items (omega arith) c.pop.ensures.items

pub returns-then-index-len-2-clause-indexed : goal.returns-then-index-len-2-clause-indexed
returns-then-index-len-2-clause-indexed c =
    let items = c.args.row.now.items in
    let k = c.in-Pushed.index in
    let left = c.take_first.new.list in
    let written : c.replace-then-index-len-2.new.self.items ≡ set items k (with_value (item_at items k) left) =
    put_back items c.replace-list.new.self.items c.replace-then-index-len-2.new.self.items k (Integer (pos 0)) left c.replace-list.ensures.items c.replace-then-index-len-2.ensures.items in
    subst (IsIndexedIn c.args.indexes.now.entries c.args.number) (sym written)
    (indexed_set c.args.indexes.now.entries c.args.number items c.requires.indexed k (item_at items k) left (item_is items k))

pub returns-in-Added-clause-after : goal.returns-in-Added-clause-after
returns-in-Added-clause-after c =
    let items = c.args.row.now.items in
    ap (map numbered_property) c.pop.ensures.items
    ∙ sym (take-map numbered_property (length items - 1) items)
    ∙ ap (λ n. take (n - 1) (plist_of c.args.row.now)) (sym (length-map items numbered_property))
    ∙ sym (ap (λ change. list_before change (plist_of c.args.row.now)) c.in-Added.is)

pub put_back-requires-clause-items : goal.put_back-requires-clause-items
put_back-requires-clause-items c = subst IsProperChange c.in-Popped.is c.requires.former

pub returns-in-Popped-clause-after : goal.returns-in-Popped-clause-after
returns-in-Popped-clause-after c =
    c.put_back.ensures.after ∙ sym (ap (λ change. list_before change (plist_of c.args.row.now)) c.in-Popped.is)

pub returns-in-Popped-clause-indexed : goal.returns-in-Popped-clause-indexed
returns-in-Popped-clause-indexed c = c.put_back.ensures.indexed c.args.indexes.now.entries c.args.number c.requires.indexed
