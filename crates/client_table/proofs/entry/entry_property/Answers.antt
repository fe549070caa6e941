use Rattle.std.proofs.Common.{sym, ap, ◌∙◌}
use Rattle.std.specs.List.{slice_get}
use Rattle.client_table.specs.Entries.{message_symbol, table_package}
use Rattle.client_table.proofs.Found.{first_found}
use Rattle.client_table.proofs.entry.entry_property.Goals as goal
use Rattle.plist_state.specs.Changes.{plist}
use Rattle.plist_state.specs.Views.{property_of}

pub returns-then-eq-2-clause-value : goal.returns-then-eq-2-clause-value
returns-then-eq-2-clause-value c =
    first_found (plist c.args.world.now.0 (table_package, c.args.name.now)) message_symbol (property_of c.at-first.result)
    (ap (λ ps. slice_get ps 0) (sym c.plist_of-properties.ensures) ∙ c.at-first.ensures.property) (sym c.eq.ensures ∙ c.if-eq.true) (sym c.eq-then-eq.ensures ∙ c.if-eq-2.true)
