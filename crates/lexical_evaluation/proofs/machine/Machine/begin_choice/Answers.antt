use Rattle.lexical_evaluation.proofs.Handing.{waits_more, popped}
use Rattle.std.proofs.Common.{◌<◌, length, ap, sym, ◌∙◌, arith}
use Rattle.lisp_object.specs.Datum.{object_of}
use Rattle.kept_functions.specs.Counting.{wrote_too}
use Rattle.lexical_evaluation.specs.declared.frame.Awaiting.TheVariants.{Choice}
use Rattle.lexical_evaluation.specs.Values.{value_in, choice_in}
use Rattle.lexical_evaluation.specs.Machine.{comes_to, around, point_of}
use Rattle.lexical_evaluation.proofs.Steps.{next_of}
use Rattle.lexical_evaluation.proofs.Choosing.{choice_test}
use Rattle.lexical_evaluation.proofs.Beginning.{fewer}
use Rattle.lexical_evaluation.proofs.Continuing.{waits}
use Rattle.lexical_evaluation.proofs.machine.Machine.begin_choice.Goals as goal

pub returns-clause-gives : goal.returns-clause-gives
returns-clause-gives c = λ w s.
    let m = c.args.self.now in
    let rules = w.rules m.deeper in
    let p = point_of m s in
    let rest = c.pop.new.self.items in
    let some : 0 < length rest = omega (arith, c.requires, fewer c.args.forms.items rest c.pop.result c.in-Some.test c.pop.ensures.items c.in-Some.is) in
    ap (comes_to w m)
    (ap (choice_in rules (around m) p) (next_of c.args.forms.items rest c.pop.result c.in-Some.test c.pop.ensures.items c.in-Some.is)
    ∙ choice_test rules (around m) p (object_of c.in-Some.test) rest some)
    ∙ ap (wrote_too m.wrote)
    (sym (waits w m.deeper m.frames.items c.push.new.self.items (Choice c.pop.new.self) m.bindings.items (value_in rules (around m) p (object_of c.in-Some.test)) c.in_ok-push-in-Some.ensures.items))

pub returns-clause-arguments : goal.returns-clause-arguments
returns-clause-arguments c = λ u hand forms.
    let both = popped u c.args.forms.items c.pop.new.self.items c.pop.result c.in-Some.test c.pop.ensures.items c.in-Some.is forms in
    (waits_more u c.args.self.now c.push.new.self (Choice c.pop.new.self) hand c.in_ok-push-in-Some.ensures.items both.0, both.1)
