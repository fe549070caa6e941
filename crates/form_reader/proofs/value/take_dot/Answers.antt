use Rattle.form_reader.proofs.Values.{dot_goes_on, dot_stops}
use Rattle.form_reader.proofs.value.take_dot.Goals as goal

pub returns-then-take_dot-clause-takes : goal.returns-then-take_dot-clause-takes
returns-then-take_dot-clause-takes c = λ setting cs h.
    dot_goes_on setting c.args.at cs c.args.stack.now c.take_dot.new.self (c.take_dot.ensures.takes c.if-take_dot.true)

pub returns-else-take_dot-clause-takes : goal.returns-else-take_dot-clause-takes
returns-else-take_dot-clause-takes c = λ setting cs h.
    dot_stops setting c.args.at cs c.args.stack.now c.requires.open (c.take_dot.ensures.refuses c.if-take_dot.false).0
