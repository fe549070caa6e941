use Rattle.std.proofs.Common.{◌∙◌}
use Rattle.value_functions.proofs.Joins.{vector_proper}
use Rattle.value_functions.proofs.builders.vector.Goals as goal

pub within-requires : goal.within-requires
within-requires c = vector_proper c.from_vec.result c.args.values.now (c.from_vec.ensures ∙ c.in_ok-copied.ensures) c.requires
