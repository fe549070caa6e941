use Rattle.world_text.proofs.SameText.{one_state}
use Rattle.world_text.proofs.laws.one_text_one_state.Goals as goal

pub returns : goal.returns
returns c version s t text sound_s sound_t in_s in_t = one_state version s t text sound_s sound_t in_s in_t
