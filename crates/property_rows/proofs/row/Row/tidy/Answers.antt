use Rattle.std.proofs.Common.{min, sym, ap, subst, ◌∙◌, arith}
use Rattle.property_rows.specs.Slots.{IsSlots, present_properties, most_slots}
use Rattle.property_rows.specs.Rows.{PropertyRow, room}
use Rattle.property_rows.proofs.Packed.{packed-there}
use Rattle.property_rows.proofs.Written.{packed_slots}
use Rattle.property_rows.proofs.Rooms.{same_room}
use Rattle.property_rows.proofs.row.Row.tidy.Goals as goal

pub invariant_of-self : goal.invariant_of-self
invariant_of-self c = subst IsSlots (sym c.pack.ensures.items) (packed_slots c.self.inside.slots.items c.self.invariant)

pub returns-then-gone-len-clause-items : goal.returns-then-gone-len-clause-items
returns-then-gone-len-clause-items c =
    ap present_properties c.pack.ensures.items ∙ packed-there c.self.inside.slots.items ∙ ap (λ (row : PropertyRow). row.items) c.self.view_is

pub returns-then-gone-len-clause-room : goal.returns-then-gone-len-clause-room
returns-then-gone-len-clause-room c =
    let kept : IsSlots c.pack.new.slots.items = subst IsSlots (sym c.pack.ensures.items) (packed_slots c.self.inside.slots.items c.self.invariant) in
    same_room c.pack.new.slots.items c.pack.new.slots.cap (omega (arith, c.pack.new.slots.ok.0, c.pack.new.slots.ok.1)) kept.few
    ∙ ap (λ n. min n most_slots) c.pack.ensures.capacity
    ∙ sym (same_room c.self.inside.slots.items c.self.inside.slots.cap (omega (arith, c.self.inside.slots.ok.0, c.self.inside.slots.ok.1)) c.self.invariant.few)
    ∙ ap room c.self.view_is
