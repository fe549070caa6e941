use Rattle.lexical_evaluation.proofs.Handing.{popped}
use Rattle.std.proofs.Common.{ap, ◌∙◌, arith}
use Rattle.lisp_object.specs.Object.{pair}
use Rattle.lisp_object.specs.Datum.{object_of}
use Rattle.lisp_object.specs.declared.refusal.TheConstants.{ARGUMENT_COUNT}
use Rattle.lexical_evaluation.specs.Values.{applied_in}
use Rattle.lexical_evaluation.specs.Machine.{comes_to, around, point_of, to_come}
use Rattle.lexical_evaluation.proofs.Steps.{next_of, none_to_come}
use Rattle.lexical_evaluation.proofs.Callees.{applied_none}
use Rattle.lexical_evaluation.proofs.Applying.{refused_callee}
use Rattle.lexical_evaluation.proofs.Continuing.{refused}
use Rattle.lexical_evaluation.proofs.Going.{goes_as}
use Rattle.lexical_evaluation.proofs.machine.Machine.begin_funcall.Goals as goal

pub returns-in-None-clause-gives : goal.returns-in-None-clause-gives
returns-in-None-clause-gives c = λ w s.
    let m = c.args.self.now in
    ap (comes_to w m)
    (ap (applied_in (w.rules m.deeper) (around m) (point_of m s)) (none_to_come c.args.forms.items (grind (arith, c.in-None.ensures))) ∙ applied_none (w.rules m.deeper) (around m) (point_of m s))
    ∙ refused w m ARGUMENT_COUNT

pub returns-in-Ok-clause-gives : goal.returns-in-Ok-clause-gives
returns-in-Ok-clause-gives c =
    let m = c.args.self.now in
    let others = to_come c.pop.new.self.items in
    goes_as m c.begin_arguments.new.self c.begin_arguments.result
    (λ does rules seen p. applied_in rules seen p (to_come c.args.forms.items)) (λ does rules seen p. applied_in rules seen p (pair (object_of c.in-Some.form) others))
    (λ w s. ap (applied_in (w.rules m.deeper) (around m) (point_of m s)) (next_of c.args.forms.items c.pop.new.self.items c.pop.result c.in-Some.form c.pop.ensures.items c.in-Some.is))
    (c.begin_arguments.ensures.gives (object_of c.in-Some.form) c.in-Ok.ensures.gives)

pub returns-in-Err-clause-gives : goal.returns-in-Err-clause-gives
returns-in-Err-clause-gives c =
    refused_callee c.args.self.now c.args.self.now c.args.forms.items c.pop.new.self.items c.pop.result c.in-Some.form c.in-Err.error c.pop.ensures.items c.in-Some.is c.in-Err.ensures.gives

pub returns-in-Ok-clause-arguments : goal.returns-in-Ok-clause-arguments
returns-in-Ok-clause-arguments c = λ u hand forms.
    let both = popped u c.args.forms.items c.pop.new.self.items c.pop.result c.in-Some.form c.pop.ensures.items c.in-Some.is forms in
    c.begin_arguments.ensures.arguments u hand (c.in-Ok.ensures.arguments u both.1, both.0)
