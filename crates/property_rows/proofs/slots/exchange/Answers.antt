use Rattle.std.proofs.Common.{get_or, set, refl, ap, ◌∙◌, arith}
use Rattle.property_rows.specs.declared.slot.Slot.{Slot}
use Rattle.property_rows.specs.declared.property.NumberedProperty.{NumberedProperty}
use Rattle.property_rows.specs.Slots.{present_properties, no_property, with_value}
use Rattle.property_rows.proofs.Written.{within, read_holds, exchanged, written_slots}
use Rattle.property_rows.proofs.slots.exchange.Goals as goal

pub offset_bounds-slots-at : goal.offset_bounds-slots-at
offset_bounds-slots-at c =
    let less = within c.args.slots.now c.args.index c.place-at.result c.requires.index c.place-at.ensures in
    omega (arith, less, c.requires.slots.few)

pub bounds-slots-at : goal.bounds-slots-at
bounds-slots-at c = within c.args.slots.now c.args.index c.place-at.result c.requires.index c.place-at.ensures

pub returns-clause-slots : goal.returns-clause-slots
returns-clause-slots c =
    let s : Slot = get_or c.args.slots.now c.place-at.result c.index-slots-at.result in
    written_slots c.args.slots.now c.place-at.result s (record { indicator = s.indicator; gone = s.gone; order = s.order; value = c.replace.new.dest }) (within c.args.slots.now c.args.index c.place-at.result c.requires.index c.place-at.ensures)
    (ap (get_or c.args.slots.now c.place-at.result) c.index-slots-at.is) refl c.requires.slots

pub returns-clause-value : goal.returns-clause-value
returns-clause-value c =
    let s : Slot = get_or c.args.slots.now c.place-at.result c.index-slots-at.result in
    c.replace.ensures.value ∙ ap (λ (p : NumberedProperty). p.value) (read_holds c.args.slots.now c.args.index c.place-at.result c.requires.index c.place-at.ensures s (ap (get_or c.args.slots.now c.place-at.result) c.index-slots-at.is))

pub returns-clause-items : goal.returns-clause-items
returns-clause-items c =
    let s : Slot = get_or c.args.slots.now c.place-at.result c.index-slots-at.result in
    let read = ap (get_or c.args.slots.now c.place-at.result) c.index-slots-at.is in
    exchanged c.args.slots.now c.args.index c.place-at.result c.requires.index c.place-at.ensures s (record { indicator = s.indicator; gone = s.gone; order = s.order; value = c.replace.new.dest }) read refl
    ∙ ap (λ (p : NumberedProperty). set (present_properties c.args.slots.now) c.args.index (with_value p c.replace.new.dest)) (read_holds c.args.slots.now c.args.index c.place-at.result c.requires.index c.place-at.ensures s read)
    ∙ ap (λ v. set (present_properties c.args.slots.now) c.args.index (with_value (get_or (present_properties c.args.slots.now) c.args.index no_property) v)) c.replace.ensures.after
