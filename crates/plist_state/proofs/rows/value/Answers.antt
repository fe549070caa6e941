use Rattle.std.proofs.Common.{Some, sym, ap, ◌∙◌}
use Rattle.lisp_object.specs.Datum.{object_of}
use Rattle.property_rows.specs.Slots.{no_property}
use Rattle.plist_state.specs.Properties.{value_beside}
use Rattle.plist_state.specs.Lists.{same_number}
use Rattle.plist_state.proofs.Indices.{IsFirstAt, first_at, absent}
use Rattle.plist_state.proofs.rows.value.Goals as goal

pub place-requires : goal.place-requires
place-requires c = c.in-Some.ensures.indexed c.args.indexes.now.entries c.requires.indexed

pub returns-in_default-clause-value : goal.returns-in_default-clause-value
returns-in_default-clause-value c = ap (λ l. value_beside same_number l c.args.indicator) c.in_default.ensures.list

pub returns-in-None-clause-value : goal.returns-in-None-clause-value
returns-in-None-clause-value c =
    let i = c.args.indicator in
    sym (absent c.in-Some.row.now.items i (sym c.in-None.ensures)).stands ∙ ap (λ l. value_beside same_number l i) c.in-Some.ensures.list

pub returns-in-Some-place-clause-value : goal.returns-in-Some-place-clause-value
returns-in-Some-place-clause-value c =
    let i = c.args.indicator in
    let items = c.in-Some.row.now.items in
    let at : IsFirstAt items i c.in-Some-place.index = first_at items i c.in-Some-place.index (sym c.in-Some-place.ensures) in
    ap (λ v. Some (object_of v)) c.value.ensures ∙ sym (at.stands no_property) ∙ ap (λ l. value_beside same_number l i) c.in-Some.ensures.list
