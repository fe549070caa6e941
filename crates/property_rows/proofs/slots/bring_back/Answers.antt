use Rattle.std.proofs.Common.{false, get_or, refl, ap, ◌∙◌, arith}
use Rattle.std.specs.List.{insert}
use Rattle.property_rows.specs.declared.slot.Slot.{Slot}
use Rattle.property_rows.specs.Slots.{present_properties, property_in, blank}
use Rattle.property_rows.proofs.Turned.{shown-length}
use Rattle.property_rows.proofs.Written.{back_there, written_slots, turned_slots}
use Rattle.property_rows.proofs.slots.bring_back.Goals as goal

pub returns-clause-slots : goal.returns-clause-slots
returns-clause-slots c =
    let at = c.args.at in
    let s : Slot = get_or c.turn.new.slots at c.index-slots-at.result in
    let within = c.requires.vacant.place in
    let long = shown-length c.args.slots.now c.turn.new.slots _ _ c.turn.ensures.shown in
    written_slots c.turn.new.slots at s c.fill.new.slot (omega (arith, within, long)) (ap (get_or c.turn.new.slots at) c.index-slots-at.is) c.fill.ensures.count
    (turned_slots c.tree_of.result c.args.slots.now c.turn.new.slots at _ c.turn.ensures.shown c.requires.slots c.turn.ensures.tree)

pub returns-clause-items : goal.returns-clause-items
returns-clause-items c =
    let at = c.args.at in
    let s : Slot = get_or c.turn.new.slots at c.index-slots-at.result in
    back_there c.args.slots.now c.turn.new.slots c.args.index at (false, property_in (get_or c.args.slots.now at blank)) s c.fill.new.slot c.requires.vacant
    c.turn.ensures.shown refl (ap (get_or c.turn.new.slots at) c.index-slots-at.is) c.fill.ensures.count
    ∙ ap (insert (present_properties c.args.slots.now) c.args.index) c.fill.ensures.property
