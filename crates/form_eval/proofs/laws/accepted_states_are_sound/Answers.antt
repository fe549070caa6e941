use Rattle.form_eval.proofs.SoundSymbols.{accepted_sound}
use Rattle.form_eval.proofs.laws.accepted_states_are_sound.Goals as goal

pub returns : goal.returns
returns c = accepted_sound
