use Rattle.std.proofs.Common.{[], sym, subst, arith}
use Rattle.property_rows.specs.Slots.{IsSlots}
use Rattle.property_rows.proofs.Packed.{uncounted-slots}
use Rattle.property_rows.proofs.row.Row.new.Goals as goal

pub invariant_of-result : goal.invariant_of-result
invariant_of-result c = subst IsSlots (sym c.new.ensures.items) (uncounted-slots [] (omega arith))
