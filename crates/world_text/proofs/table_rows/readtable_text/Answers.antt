use Rattle.std.proofs.Common.{ap, ◌∙◌}
use Rattle.world_text.proofs.Ascii.{is_ascii_name}
use Rattle.world_text.proofs.Worlds.{current_readtable_ascii}
use Rattle.world_text.proofs.table_rows.readtable_text.Goals as goal

pub returns-clause-proper : goal.returns-clause-proper
returns-clause-proper c = c.text_of.ensures.proper (ap is_ascii_name c.current_readtable.ensures ∙ current_readtable_ascii c.args.world.now.0 c.soundness.ensures.present)
