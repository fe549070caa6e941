use Rattle.forgotten_names.proofs.NothingForgotten.{nothing_forgotten}
use Rattle.forgotten_names.proofs.laws.nothing_to_forget.Goals as goal

pub returns : goal.returns
returns c = nothing_forgotten
