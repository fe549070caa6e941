use Rattle.readtable_core.proofs.Sound.{dispatching_sound}
use Rattle.readtable_core.proofs.entry.dispatching_character.Goals as goal

pub invariant_of-result : goal.invariant_of-result
invariant_of-result c = rw (c.macro_syntax_of.ensures, c.named.ensures, c.in_ok-dispatch.ensures) (dispatching_sound c.args.non_terminating)
