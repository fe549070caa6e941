use Rattle.std.proofs.Common.{min, sym, ap, ◌∙◌, arith}
use Rattle.property_rows.specs.Slots.{most_slots}
use Rattle.property_rows.specs.Rows.{room}
use Rattle.property_rows.proofs.Rooms.{same_room}
use Rattle.property_rows.proofs.row.Row.pop.Goals as goal

pub returns-then-last-eq0-clause-room : goal.returns-then-last-eq0-clause-room
returns-then-last-eq0-clause-room c =
    same_room c.drop_last.new.slots.items c.drop_last.new.slots.cap (omega (arith, c.drop_last.new.slots.ok.0, c.drop_last.new.slots.ok.1)) c.drop_last.ensures.slots.few
    ∙ ap (λ n. min n most_slots) c.drop_last.ensures.capacity
    ∙ sym (same_room c.self.inside.slots.items c.self.inside.slots.cap (omega (arith, c.self.inside.slots.ok.0, c.self.inside.slots.ok.1)) c.self.invariant.few)
    ∙ ap room c.self.view_is
