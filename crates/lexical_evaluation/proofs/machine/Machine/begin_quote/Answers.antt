use Rattle.lexical_evaluation.proofs.Handing.{popped}
use Rattle.lexical_evaluation.proofs.machine.Machine.begin_quote.Goals as goal

pub returns-clause-arguments : goal.returns-clause-arguments
returns-clause-arguments c = λ u hand forms. (hand, (popped u c.args.forms.items c.pop.new.self.items c.pop.result c.in-Some.form c.pop.ensures.items c.in-Some.is forms).1)
