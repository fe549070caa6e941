use Rattle.std.proofs.Common.{sym, subst}
use Rattle.plist_state.specs.Sound.{IsValue}
use Rattle.lexical_evaluation.proofs.Handing.{first_among}
use Rattle.lexical_evaluation.proofs.machine.Machine.give_first.Goals as goal

pub returns-clause-arguments : goal.returns-clause-arguments
returns-clause-arguments c = λ u hand values.
    (hand, record { proper = c.in_ok-take_first.ensures.proper; value = subst (IsValue u) (sym c.in_ok-take_first.ensures.first) (first_among u hand.sound c.args.values.items values) })
