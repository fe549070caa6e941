use Rattle.forgotten_names.proofs.ForgottenSound.{forgotten_again}
use Rattle.forgotten_names.proofs.laws.forgetting_again_changes_nothing.Goals as goal

pub returns : goal.returns
returns c = forgotten_again
