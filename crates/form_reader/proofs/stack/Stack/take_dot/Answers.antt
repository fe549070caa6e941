use Rattle.std.proofs.Common.{sym, rules}
use Rattle.lisp_reading.specs.declared.attempt.Found.TheVariants.{LoneDot as lone_dot}
use Rattle.form_reader.proofs.Stacks.{last_takes}
use Rattle.form_reader.proofs.stack.Stack.take_dot.Goals as goal

pub returns-in-Some-clause-takes : goal.returns-in-Some-clause-takes
returns-in-Some-clause-takes c = λ e.
    last_takes c.self.inside.frames.items _ c.in-Some.frame.now c.take_dot.new.self lone_dot c.args.self.now (sym c.self.inside.frames.ok.0) (search rules) c.in-Some.ensures.value
    c.self.view_is (c.take_dot.ensures.takes e)
