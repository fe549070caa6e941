use Rattle.std.proofs.Common.{◌≡◌, length, is_ok, refl, sym, ap, subst, ◌∙◌, arith}
use Rattle.std.specs.List.{insert}
use Rattle.property_rows.specs.declared.slot.Slot.{Slot}
use Rattle.property_rows.specs.Slots.{IsSlots, present_properties}
use Rattle.property_rows.proofs.Packed.{packed-there, packed-long}
use Rattle.property_rows.proofs.Written.{packed_slots, put_slots, put_there, either_slots, either_there}
use Rattle.property_rows.proofs.slots.put_in.Goals.{in-Ok, in-Err}
use Rattle.property_rows.proofs.slots.put_in.Goals as goal

pub returns-then-len-ge-MOST-clause-slots : goal.returns-then-len-ge-MOST-clause-slots
returns-then-len-ge-MOST-clause-slots c = subst IsSlots (sym c.pack.ensures.items) (packed_slots c.args.slots.now.items c.requires.slots)

pub returns-then-len-ge-MOST-clause-items : goal.returns-then-len-ge-MOST-clause-items
returns-then-len-ge-MOST-clause-items c = ap present_properties c.pack.ensures.items ∙ packed-there c.args.slots.now.items

pub returns-then-len-ge-MOST-clause-succeeds : goal.returns-then-len-ge-MOST-clause-succeeds
returns-then-len-ge-MOST-clause-succeeds c = λ room few.
    let long : length c.pack.new.slots.items ≡ length (present_properties c.args.slots.now.items) = ap length c.pack.ensures.items ∙ packed-long c.args.slots.now.items in
    absurd (omega (arith, few, c.if-len-ge-MOST.true, c.len.ensures, long, c.pack.new.slots.ok.0))

pub insert-requires : goal.insert-requires
insert-requires c =
    let long : length c.pack.new.slots.items ≡ length (present_properties c.args.slots.now.items) = ap length c.pack.ensures.items ∙ packed-long c.args.slots.now.items in
    omega (arith, c.requires.index, long, c.pack.new.slots.ok.0)

pub returns-clause-slots : goal.returns-clause-slots
returns-clause-slots c =
    let t : Slot = record { indicator = c.args.property.indicator; gone = 0; order = c.args.property.order; value = c.args.property.value } in
    let same = ap length c.pack.ensures.items in
    either_slots (is_ok c.insert.result) c.insert.new.self.items c.pack.new.slots.items (insert c.pack.new.slots.items c.args.index t) c.insert.ensures.items
    (subst IsSlots (sym c.pack.ensures.items) (packed_slots c.args.slots.now.items c.requires.slots))
    (subst (λ l. IsSlots (insert l c.args.index t)) (sym c.pack.ensures.items)
    (put_slots c.args.slots.now.items c.args.index t refl (omega (arith, c.if-len-ge-MOST.false, c.len.ensures, same, c.pack.new.slots.ok.0))))

pub returns-clause-items : goal.returns-clause-items
returns-clause-items c =
    let t : Slot = record { indicator = c.args.property.indicator; gone = 0; order = c.args.property.order; value = c.args.property.value } in
    either_there (is_ok c.insert.result) (is_ok c.match-insert.result) c.insert.new.self.items c.pack.new.slots.items (insert c.pack.new.slots.items c.args.index t) _ _ c.insert.ensures.items
    (elim c.match-insert.branch [ in-Ok w ↦ ap is_ok w.in-Ok.is ∙ sym (ap is_ok w.result-is) | in-Err w ↦ ap is_ok w.in-Err.is ∙ sym (ap is_ok w.result-is) ])
    (ap present_properties c.pack.ensures.items ∙ packed-there c.args.slots.now.items)
    (ap (λ l. present_properties (insert l c.args.index t)) c.pack.ensures.items ∙ put_there c.args.slots.now.items c.args.index t refl)

pub returns-clause-succeeds : goal.returns-clause-succeeds
returns-clause-succeeds c = λ room few.
    let long : length c.pack.new.slots.items ≡ length (present_properties c.args.slots.now.items) = ap length c.pack.ensures.items ∙ packed-long c.args.slots.now.items in
    let same : is_ok c.insert.result ≡ is_ok c.match-insert.result =
    elim c.match-insert.branch [ in-Ok w ↦ ap is_ok w.in-Ok.is ∙ sym (ap is_ok w.result-is) | in-Err w ↦ ap is_ok w.in-Err.is ∙ sym (ap is_ok w.result-is) ] in
    sym same ∙ c.insert.ensures.succeeds (omega (arith, room, long, c.pack.ensures.capacity, c.pack.new.slots.ok.0))
