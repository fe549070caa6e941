use Rattle.forgetting_laws.proofs.Left.{imports_left}
use Rattle.forgetting_laws.proofs.imports_stay.Goals as goal

pub returns : goal.returns
returns c = λ held s p. imports_left held s p
