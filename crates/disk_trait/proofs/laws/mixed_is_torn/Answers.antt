use Rattle.disk_trait.specs.Mixes.{mixed_torn}
use Rattle.disk_trait.proofs.laws.mixed_is_torn.Goals as goal

pub returns : goal.returns
returns c = mixed_torn
