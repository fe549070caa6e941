use Rattle.std.proofs.Common.{◌<◌, length, sym, ap, subst, ◌∙◌}
use Rattle.std.specs.List.{list_all}
use Rattle.lisp_object.specs.Datum.{is_proper}
use Rattle.lisp_object.proofs.ProperLists.{items_of_proper, proper_list_items}
use Rattle.lisp_operators.proofs.places.parted.Goals as goal

pub shortened-requires-clause-items : goal.shortened-requires-clause-items
shortened-requires-clause-items c =
    ap (list_all is_proper) c.into_vec-items.ensures ∙ proper_list_items c.args.list c.in-Ok.items c.in-Ok.tail c.in-Ok.ensures.list c.requires

pub shortened-requires-in-None-clause-some : goal.shortened-requires-in-None-clause-some
shortened-requires-in-None-clause-some c =
    subst (λ l. 0 < length l) (sym c.into_vec-items.ensures)
    (items_of_proper c.in-Ok.items c.in-Ok.tail (ap is_proper (sym c.in-Ok.ensures.list) ∙ c.requires)).0

pub shortened-requires-in-None-clause-items : goal.shortened-requires-in-None-clause-items
shortened-requires-in-None-clause-items c =
    ap (list_all is_proper) c.into_vec-items.ensures ∙ proper_list_items c.args.list c.in-Ok.items c.in-Ok.tail c.in-Ok.ensures.list c.requires
