use Rattle.std.proofs.Common.{ap, ◌∙◌}
use Rattle.package_table.proofs.Seen.{as_map-remove}
use Rattle.plist_state.proofs.ByName.{shown}
use Rattle.plist_state.proofs.tables.remove.Goals as goal

pub returns : goal.returns
returns c = ap shown c.remove.ensures.entries ∙ as_map-remove (λ t. t) c.args.name.now c.args.tables.now.entries c.len-count.ensures.ordered
