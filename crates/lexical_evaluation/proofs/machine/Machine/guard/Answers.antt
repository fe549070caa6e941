use Rattle.lexical_evaluation.proofs.Handing.{waits_more, popped}
use Rattle.std.proofs.Common.{ap, sym, ◌∙◌, arith}
use Rattle.lisp_object.specs.Datum.{object_of}
use Rattle.lisp_object.specs.declared.refusal.TheConstants.{ARGUMENT_COUNT}
use Rattle.lexical_evaluation.specs.declared.frame.Awaiting.TheVariants.{Guard}
use Rattle.kept_functions.specs.Counting.{wrote_too}
use Rattle.lexical_evaluation.specs.Values.{value_in, guarded_in}
use Rattle.lexical_evaluation.specs.Machine.{comes_to, around, point_of, to_come}
use Rattle.lexical_evaluation.proofs.Steps.{next_of, none_to_come}
use Rattle.lexical_evaluation.proofs.Continuing.{refused}
use Rattle.lexical_evaluation.proofs.Deciding.{guard_none, guard_some}
use Rattle.lexical_evaluation.proofs.Continuing.{waits}
use Rattle.lexical_evaluation.proofs.machine.Machine.guard.Goals as goal

pub returns-in-None-clause-gives : goal.returns-in-None-clause-gives
returns-in-None-clause-gives c = λ w s.
    let m = c.args.self.now in
    ap (comes_to w m)
    (ap (guarded_in (w.rules m.deeper) (around m) c.args.truth (point_of m s)) (none_to_come c.args.forms.items (grind (arith, c.in-None.ensures)))
    ∙ guard_none (w.rules m.deeper) (around m) c.args.truth (point_of m s))
    ∙ refused w m ARGUMENT_COUNT

pub returns-in_ok-push-in-Some-clause-gives : goal.returns-in_ok-push-in-Some-clause-gives
returns-in_ok-push-in-Some-clause-gives c = λ w s.
    let m = c.args.self.now in
    let o = value_in (w.rules m.deeper) (around m) (point_of m s) (object_of c.in-Some.form) in
    ap (comes_to w m)
    (ap (guarded_in (w.rules m.deeper) (around m) c.args.truth (point_of m s))
    (next_of c.args.forms.items c.pop.new.self.items c.pop.result c.in-Some.form c.pop.ensures.items c.in-Some.is)
    ∙ guard_some (w.rules m.deeper) (around m) c.args.truth (point_of m s) (object_of c.in-Some.form) (to_come c.pop.new.self.items))
    ∙ ap (wrote_too m.wrote)
    (sym (waits w m.deeper m.frames.items c.push.new.self.items (Guard c.args.truth c.pop.new.self) m.bindings.items o c.in_ok-push-in-Some.ensures.items))

pub returns-in_ok-push-in-Some-clause-arguments : goal.returns-in_ok-push-in-Some-clause-arguments
returns-in_ok-push-in-Some-clause-arguments c = λ u hand forms.
    let both = popped u c.args.forms.items c.pop.new.self.items c.pop.result c.in-Some.form c.pop.ensures.items c.in-Some.is forms in
    (waits_more u c.args.self.now c.push.new.self (Guard c.args.truth c.pop.new.self) hand c.in_ok-push-in-Some.ensures.items both.0, both.1)
