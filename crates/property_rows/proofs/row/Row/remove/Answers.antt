use Rattle.std.proofs.Common.{◌+◌, ◌-◌, min, length, sym, ap, subst, ◌∙◌, arith}
use Rattle.std.specs.List.{remove}
use Rattle.property_rows.specs.Slots.{IsSlots, present_properties, slots_there, most_slots}
use Rattle.property_rows.specs.Rows.{PropertyRow, room}
use Rattle.property_rows.proofs.Packed.{packed-there}
use Rattle.property_rows.proofs.Written.{packed_slots, whole_slice}
use Rattle.property_rows.proofs.Rooms.{same_room}
use Rattle.property_rows.proofs.row.Row.remove.Goals as goal

pub invariant_of-self : goal.invariant_of-self
invariant_of-self c =
    let long = ap length c.as_mut_slice.ensures.value in
    let whole = whole_slice c.self.inside.slots.len c.take_out-property.new.slots c.self.inside.slots.items c.self.inside.slots.ok.0 (omega (arith, c.take_out-property.auto.slots, long)) in
    subst IsSlots (sym (c.pack.ensures.items ∙ ap slots_there whole)) (packed_slots c.take_out-property.new.slots c.take_out-property.ensures.slots)

pub returns-then-len-le-SHORT-clause-items : goal.returns-then-len-le-SHORT-clause-items
returns-then-len-le-SHORT-clause-items c =
    let long = ap length c.as_mut_slice.ensures.value in
    let whole = whole_slice c.self.inside.slots.len c.take_out-property.new.slots c.self.inside.slots.items c.self.inside.slots.ok.0 (omega (arith, c.take_out-property.auto.slots, long)) in
    ap present_properties (c.pack.ensures.items ∙ ap slots_there whole) ∙ packed-there c.take_out-property.new.slots ∙ c.take_out-property.ensures.items
    ∙ ap (λ l. remove (present_properties l) c.args.index) c.as_mut_slice.ensures.value ∙ ap (λ (row : PropertyRow). remove row.items c.args.index) c.self.view_is

pub returns-then-len-le-SHORT-clause-room : goal.returns-then-len-le-SHORT-clause-room
returns-then-len-le-SHORT-clause-room c =
    let long = ap length c.as_mut_slice.ensures.value in
    let whole = whole_slice c.self.inside.slots.len c.take_out-property.new.slots c.self.inside.slots.items c.self.inside.slots.ok.0 (omega (arith, c.take_out-property.auto.slots, long)) in
    let kept : IsSlots c.pack.new.slots.items = subst IsSlots (sym (c.pack.ensures.items ∙ ap slots_there whole)) (packed_slots c.take_out-property.new.slots c.take_out-property.ensures.slots) in
    same_room c.pack.new.slots.items c.pack.new.slots.cap (omega (arith, c.pack.new.slots.ok.0, c.pack.new.slots.ok.1)) kept.few
    ∙ ap (λ n. min n most_slots) c.pack.ensures.capacity
    ∙ sym (same_room c.self.inside.slots.items c.self.inside.slots.cap (omega (arith, c.self.inside.slots.ok.0, c.self.inside.slots.ok.1)) c.self.invariant.few)
    ∙ ap room c.self.view_is

pub returns-else-len-le-SHORT-clause-room : goal.returns-else-len-le-SHORT-clause-room
returns-else-len-le-SHORT-clause-room c =
    let long = ap length c.as_mut_slice.ensures.value in
    let whole = whole_slice c.self.inside.slots.len c.take_out-property.new.slots c.self.inside.slots.items c.self.inside.slots.ok.0 (omega (arith, c.take_out-property.auto.slots, long)) in
    ap (λ l. length (present_properties l) + (min c.self.inside.slots.cap most_slots - length (present_properties l))) whole
    ∙ same_room c.take_out-property.new.slots c.self.inside.slots.cap (omega (arith, c.take_out-property.auto.slots, long, c.self.inside.slots.ok.0, c.self.inside.slots.ok.1)) c.take_out-property.ensures.slots.few
    ∙ sym (same_room c.self.inside.slots.items c.self.inside.slots.cap (omega (arith, c.self.inside.slots.ok.0, c.self.inside.slots.ok.1)) c.self.invariant.few)
    ∙ ap room c.self.view_is
