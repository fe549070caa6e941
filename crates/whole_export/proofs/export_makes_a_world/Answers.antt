use Rattle.whole_export.proofs.Ending.{nothing_left}
use Rattle.whole_export.proofs.Whole.{rest_made, world_made}
use Rattle.whole_export.proofs.export_makes_a_world.Goals as goal

pub returns-clause-world : goal.returns-clause-world
returns-clause-world c = λ functions s sound covered none. world_made functions s sound covered none

pub returns-clause-without : goal.returns-clause-without
returns-clause-without c = λ functions s sound covered. rest_made functions s sound covered

pub returns-clause-all : goal.returns-clause-all
returns-clause-all c = λ functions s. nothing_left functions s
