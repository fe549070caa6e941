use Rattle.prevalence_store.proofs.Surviving.{one_world}
use Rattle.prevalence_store.proofs.laws.one_world.Goals as goal

pub returns : goal.returns
returns c = one_world
