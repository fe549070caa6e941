use Rattle.std.proofs.Common.{sym, subst}
use Rattle.std_macros.specs.Results.{AreSoundData}
use Rattle.std_macros.proofs.SoundData.{vector_datum}
use Rattle.std_macros.proofs.vectors.repeating.Goals as goal

pub returns-clause-proper : goal.returns-clause-proper
returns-clause-proper c = vector_datum c.in_ok-repeated.field-0 (subst AreSoundData (sym c.in_ok-repeated.ensures) c.requires.proper)
