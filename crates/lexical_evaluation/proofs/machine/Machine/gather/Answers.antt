use Rattle.lexical_evaluation.proofs.Handing.{waits_more, popped, may_finish}
use Rattle.std.proofs.Common.{ap, sym, ◌∙◌, arith}
use Rattle.lisp_object.specs.Datum.{object_of}
use Rattle.lisp_operators.specs.EvaluationAnswers.{objects}
use Rattle.lexical_evaluation.specs.declared.frame.Awaiting.TheVariants.{Arguments}
use Rattle.kept_functions.specs.Counting.{wrote_too}
use Rattle.lexical_evaluation.specs.Values.{value_in}
use Rattle.lexical_evaluation.specs.Machine.{comes_to, around, point_of, gathered_in, to_come}
use Rattle.lexical_evaluation.proofs.Steps.{next_of, none_to_come}
use Rattle.lexical_evaluation.proofs.Gathering.{gathered_none, gathered_more}
use Rattle.lexical_evaluation.proofs.Continuing.{waits}
use Rattle.lexical_evaluation.proofs.machine.Machine.gather.Goals as goal

pub returns-in-None-clause-gives : goal.returns-in-None-clause-gives
returns-in-None-clause-gives c = λ w s.
    let m = c.args.self.now in
    ap (comes_to w m)
    (ap (λ f. gathered_in (w.rules m.deeper) w.does (around m) c.args.target (objects c.args.values.items) f (point_of m s)) (none_to_come c.args.forms.items (grind (arith, c.in-None.ensures)))
    ∙ gathered_none (w.rules m.deeper) w.does (around m) c.args.target (objects c.args.values.items) (point_of m s))

pub returns-in_ok-push-in-Some-clause-gives : goal.returns-in_ok-push-in-Some-clause-gives
returns-in_ok-push-in-Some-clause-gives c = λ w s.
    let m = c.args.self.now in
    let o = value_in (w.rules m.deeper) (around m) (point_of m s) (object_of c.in-Some.form) in
    ap (comes_to w m)
    (ap (λ f. gathered_in (w.rules m.deeper) w.does (around m) c.args.target (objects c.args.values.items) f (point_of m s))
    (next_of c.args.forms.items c.pop.new.self.items c.pop.result c.in-Some.form c.pop.ensures.items c.in-Some.is)
    ∙ gathered_more (w.rules m.deeper) w.does (around m) c.args.target (objects c.args.values.items) (point_of m s) (object_of c.in-Some.form) (to_come c.pop.new.self.items))
    ∙ ap (wrote_too m.wrote)
    (sym (waits w m.deeper m.frames.items c.push.new.self.items (Arguments c.args.target c.pop.new.self c.args.values) m.bindings.items o c.in_ok-push-in-Some.ensures.items))

pub returns-in-None-clause-arguments : goal.returns-in-None-clause-arguments
returns-in-None-clause-arguments c = λ u hand given. (hand, (may_finish u c.args.target c.args.values.items given.0, given.2))

pub returns-in_ok-push-in-Some-clause-arguments : goal.returns-in_ok-push-in-Some-clause-arguments
returns-in_ok-push-in-Some-clause-arguments c = λ u hand given.
    let both = popped u c.args.forms.items c.pop.new.self.items c.pop.result c.in-Some.form c.pop.ensures.items c.in-Some.is given.1 in
    (waits_more u c.args.self.now c.push.new.self (Arguments c.args.target c.pop.new.self c.args.values) hand c.in_ok-push-in-Some.ensures.items (given.0, both.0, given.2), both.1)
