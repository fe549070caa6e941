use Rattle.std.proofs.Common.{subst}
use Rattle.std_macros.specs.Results.{IsProperGathered}
use Rattle.std_macros.proofs.SoundData.{vector_datum}
use Rattle.std_macros.proofs.values.vector_of.Goals as goal

pub returns-in-None-clause-proper : goal.returns-in-None-clause-proper
returns-in-None-clause-proper c = vector_datum c.in-Many.items (subst IsProperGathered c.in-Many.is c.requires)
