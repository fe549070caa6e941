use Rattle.std.proofs.Common.{◌∙◌, sym}
use Rattle.package_table.proofs.Seen.{copied}
use Rattle.plist_state.proofs.ByName.{same_option, got_table}
use Rattle.plist_state.proofs.tables.table.Goals as goal

pub returns : goal.returns
returns c = copied (λ t. t) c.get.result ∙ same_option _ ∙ c.get.ensures.value ∙ sym (got_table c.args.name.now c.args.tables.now.entries)
