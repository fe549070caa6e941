use Rattle.std.proofs.Common.{subst}
use Rattle.plist_state.specs.Sound.{IsValue}
use Rattle.lisp_operators.proofs.Good.{Goods}
use Rattle.evaluator.proofs.SoundForms.{value_safe}
use Rattle.evaluator.proofs.laws.values_leave_sound_states.Goals as goal

pub returns : goal.returns
returns c = λ names s x d all sound fits is.
    let good = (subst (Goods IsValue s) is (value_safe names all s x sound fits)).good in
    (good.sound, good.grows, good.value)
