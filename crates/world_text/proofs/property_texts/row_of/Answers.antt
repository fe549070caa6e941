use Rattle.std.proofs.Common.{ap, ◌∙◌}
use Rattle.world_text.proofs.Worlds.{are_ascii_indicators, plist_ascii}
use Rattle.world_text.proofs.property_texts.row_of.Goals as goal

pub returns-clause-proper : goal.returns-clause-proper
returns-clause-proper c = λ ascii.
    c.plist_datum.ensures.proper ascii
    (ap are_ascii_indicators c.plist_of.ensures ∙ plist_ascii c.args.world.now.0 c.soundness.ensures.present (c.args.home.now, c.args.name.now))
