use Rattle.std.proofs.Common.{sym, rules}
use Rattle.lisp_reading.specs.declared.attempt.Found.TheVariants.{One as one}
use Rattle.form_reader.proofs.Stacks.{last_takes, taken_so}
use Rattle.form_reader.proofs.stack.Stack.take_object.Goals as goal

pub returns-in-Some-clause-takes : goal.returns-in-Some-clause-takes
returns-in-Some-clause-takes c = λ token.
    taken_so c.take_object.result _ _ (λ takes.
    last_takes c.self.inside.frames.items _ c.in-Some.frame.now c.take_object.new.self (one token c.args.x) c.args.self.now (sym c.self.inside.frames.ok.0) (search rules) c.in-Some.ensures.value
    c.self.view_is takes) c.take_object.ensures.takes
