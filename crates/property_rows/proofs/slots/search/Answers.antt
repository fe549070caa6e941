use Rattle.std.proofs.Common.{◌∙◌}
use Rattle.property_rows.proofs.Packed.{search_there}
use Rattle.property_rows.proofs.slots.search.Goals as goal

pub returns : goal.returns
returns c = c.first_of.ensures ∙ search_there c.args.slots.now c.args.indicator c.requires
