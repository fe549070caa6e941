use Rattle.forgotten_names.proofs.ForgottenSound.{forgotten_sound}
use Rattle.forgotten_names.proofs.laws.forgotten_worlds_are_sound.Goals as goal

pub returns : goal.returns
returns c = forgotten_sound
