use Rattle.std.proofs.Common.{ap, sym, ◌∙◌}
use Rattle.package_table.proofs.Seen.{as_map-insert}
use Rattle.plist_state.proofs.ByName.{shown, got_table}
use Rattle.plist_state.proofs.copies.put_table.Goals as goal

pub returns-in-Ok-clause-ok : goal.returns-in-Ok-clause-ok
returns-in-Ok-clause-ok c = ap shown c.in-Ok.ensures.entries ∙ as_map-insert (λ t. t) c.args.name c.args.table c.args.tables.now.entries

pub returns-in-Ok-clause-before : goal.returns-in-Ok-clause-before
returns-in-Ok-clause-before c = c.in-Ok.ensures.old ∙ sym (got_table c.args.name.items c.args.tables.now.entries)
