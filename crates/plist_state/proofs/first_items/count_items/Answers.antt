use Rattle.std.proofs.Common.{◌≡◌, ◌<◌, length, sym, ap, ◌∙◌, arith}
use Rattle.lisp_object.specs.Datum.{object_of, is_proper}
use Rattle.lisp_object.proofs.ProperLists.{items_of_proper}
use Rattle.plist_state.specs.Undoing.{element_count}
use Rattle.plist_state.proofs.Popped.{counted_list}
use Rattle.plist_state.proofs.first_items.count_items.Goals as goal

pub returns-clause-count : goal.returns-clause-count
returns-clause-count c =
    c.len.ensures
    ∙ sym (ap (λ d. element_count (object_of d)) c.in-List.is ∙ counted_list c.in-List.items c.in-List.tail (ap is_proper (sym c.in-List.is) ∙ c.requires.list))

pub returns-clause-some : goal.returns-clause-some
returns-clause-some c =
    let some : 0 < length c.in-List.items = (items_of_proper c.in-List.items c.in-List.tail (ap is_proper (sym c.in-List.is) ∙ c.requires.list)).0 in
    let is : c.len.result ≡ length c.in-List.items = c.len.ensures in
    omega (arith, some, is)
