use Rattle.std.proofs.Common.{◌≡◌, ◌+◌, List, length, sym, ap, ◌∙◌}
use Rattle.std.specs.Prelude.{nat_le}
use Rattle.std.specs.Vec.{vec_capacity}
use Rattle.lisp_object.specs.declared.datum.Datum
use Rattle.lisp_object.specs.declared.datum.Datum.{Datum}
use Rattle.lisp_object.specs.Datum.{object_of, is_proper}
use Rattle.plist_state.specs.Undoing.{with_items}
use Rattle.plist_state.proofs.Popped.{with_items_list, joined_proper}
use Rattle.plist_state.proofs.first_items.put_items.Goals as goal

pub returns-in-Ok-clause-value : goal.returns-in-Ok-clause-value
returns-in-Ok-clause-value c =
    let is : c.args.list.now ≡ Datum.List c.in-Ok.others c.in-Ok.tail = sym c.replace.ensures.value ∙ c.in-Ok.ensures.list in
    ap (λ (xs : List Datum). object_of (Datum.List xs c.in-Ok.tail)) c.joined.ensures
    ∙ sym (with_items_list c.args.items c.in-Ok.others c.in-Ok.tail (ap is_proper (sym is) ∙ c.requires.list))
    ∙ ap (λ d. with_items c.args.items (object_of d)) (sym is)

pub returns-in-Ok-clause-proper : goal.returns-in-Ok-clause-proper
returns-in-Ok-clause-proper c =
    let is : c.args.list.now ≡ Datum.List c.in-Ok.others c.in-Ok.tail = sym c.replace.ensures.value ∙ c.in-Ok.ensures.list in
    ap (λ (xs : List Datum). is_proper (Datum.List xs c.in-Ok.tail)) c.joined.ensures
    ∙ joined_proper c.args.items.items c.in-Ok.others c.in-Ok.tail (nat_le (length c.args.items.items + length c.in-Ok.others) (vec_capacity c.args.items)) c.requires.items
    (ap is_proper (sym is) ∙ c.requires.list)
