use Rattle.std.proofs.Common.{true, get_or, refl, ap, ◌∙◌, arith}
use Rattle.property_rows.specs.declared.slot.Slot.{Slot}
use Rattle.property_rows.specs.Slots.{property_in, blank}
use Rattle.property_rows.proofs.Turned.{shown-length}
use Rattle.property_rows.proofs.Written.{within, is_there, left_value, left_there, written_slots, turned_slots}
use Rattle.property_rows.proofs.slots.take_out.Goals as goal

pub turn-requires-clause-place : goal.turn-requires-clause-place
turn-requires-clause-place c = within c.args.slots.now c.args.index c.place-at.result c.requires.index c.place-at.ensures

pub turn-requires-clause-here : goal.turn-requires-clause-here
turn-requires-clause-here c = is_there c.args.slots.now c.args.index c.place-at.result c.requires.index c.place-at.ensures

pub bounds-slots-at : goal.bounds-slots-at
bounds-slots-at c =
    let less = within c.args.slots.now c.args.index c.place-at.result c.requires.index c.place-at.ensures in
    let long = shown-length c.args.slots.now c.turn.new.slots _ _ c.turn.ensures.shown in
    omega (arith, less, long)

pub offset_bounds-slots-at : goal.offset_bounds-slots-at
offset_bounds-slots-at c =
    let less = within c.args.slots.now c.args.index c.place-at.result c.requires.index c.place-at.ensures in
    omega (arith, less, c.requires.slots.few)

pub returns-clause-slots : goal.returns-clause-slots
returns-clause-slots c =
    let at = c.place-at.result in
    let s : Slot = get_or c.turn.new.slots at c.index-slots-at.result in
    let less = within c.args.slots.now c.args.index c.place-at.result c.requires.index c.place-at.ensures in
    let long = shown-length c.args.slots.now c.turn.new.slots _ _ c.turn.ensures.shown in
    written_slots c.turn.new.slots at s c.empty.new.slot (omega (arith, less, long)) (ap (get_or c.turn.new.slots at) c.index-slots-at.is) c.empty.ensures.count
    (turned_slots c.tree_of.result c.args.slots.now c.turn.new.slots at _ c.turn.ensures.shown c.requires.slots c.turn.ensures.tree)

pub returns-clause-value : goal.returns-clause-value
returns-clause-value c =
    let at = c.place-at.result in
    let s : Slot = get_or c.turn.new.slots at c.index-slots-at.result in
    c.empty.ensures.property
    ∙ left_value c.args.slots.now c.args.index c.place-at.result c.requires.index c.place-at.ensures c.turn.new.slots (true, property_in (get_or c.args.slots.now at blank)) refl refl c.turn.ensures.shown s (ap (get_or c.turn.new.slots at) c.index-slots-at.is)

pub returns-clause-items : goal.returns-clause-items
returns-clause-items c =
    let at = c.place-at.result in
    let s : Slot = get_or c.turn.new.slots at c.index-slots-at.result in
    left_there c.args.slots.now c.args.index c.place-at.result c.requires.index c.place-at.ensures c.turn.new.slots (true, property_in (get_or c.args.slots.now at blank)) refl refl c.turn.ensures.shown s (ap (get_or c.turn.new.slots at) c.index-slots-at.is)
    c.empty.new.slot c.empty.ensures.count
