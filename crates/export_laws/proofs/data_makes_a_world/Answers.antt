use Rattle.export_laws.proofs.Data.{data_made}
use Rattle.export_laws.proofs.data_makes_a_world.Goals as goal

pub returns : goal.returns
returns c = λ functions s sound none. data_made functions s sound none
