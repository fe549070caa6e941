use Rattle.lexical_evaluation.proofs.Handing.{nil_holds}
use Rattle.lexical_evaluation.proofs.machine.Machine.choose.Goals as goal

pub returns-clause-arguments : goal.returns-clause-arguments
returns-clause-arguments c = λ u hand given. (hand, nil_holds u hand.sound c.in_ok-empty_list-in-None.field-0 c.in_ok-empty_list-in-None.ensures.value c.in_ok-empty_list-in-None.ensures.proper)
