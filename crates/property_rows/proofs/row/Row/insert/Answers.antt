use Rattle.std.proofs.Common.{sym, subst, ◌∙◌}
use Rattle.property_rows.specs.Vacant.{IsVacantSlot}
use Rattle.property_rows.proofs.row.Row.insert.Goals as goal

pub bring_back-requires-clause-vacant : goal.bring_back-requires-clause-vacant
bring_back-requires-clause-vacant c =
    subst (λ l. IsVacantSlot l c.in-Some.at c.args.index) (c.as_slice.ensures.value ∙ sym c.as_mut_slice.ensures.value) c.in-Some.ensures
