use Rattle.lexical_evaluation.proofs.Handing.{waits_more, popped}
use Rattle.std.proofs.Common.{ap, sym, ◌∙◌}
use Rattle.lisp_object.specs.Datum.{object_of}
use Rattle.kept_functions.specs.Counting.{then_on, wrote_too}
use Rattle.lexical_evaluation.specs.declared.frame.Awaiting.TheVariants.{Assert}
use Rattle.lexical_evaluation.specs.Values.{value_in, other_value_in}
use Rattle.lexical_evaluation.specs.Machine.{comes_to, around, point_of, to_come, asserted_in}
use Rattle.lexical_evaluation.proofs.Steps.{next_of}
use Rattle.lexical_evaluation.proofs.Choosing.{other_first}
use Rattle.lexical_evaluation.proofs.Continuing.{waits}
use Rattle.lexical_evaluation.proofs.machine.Machine.begin_assert.Goals as goal

pub returns-clause-gives : goal.returns-clause-gives
returns-clause-gives c = λ w s.
    let m = c.args.self.now in
    let rules = w.rules m.deeper in
    let p = point_of m s in
    let o = value_in rules (around m) p (object_of c.in-Some.test) in
    ap (λ v. comes_to w m (then_on v (λ x later. asserted_in x later)))
    (ap (other_value_in rules (around m) p) (next_of c.args.forms.items c.pop.new.self.items c.pop.result c.in-Some.test c.pop.ensures.items c.in-Some.is)
    ∙ other_first rules (around m) p (object_of c.in-Some.test) (to_come c.pop.new.self.items))
    ∙ ap (wrote_too m.wrote) (sym (waits w m.deeper m.frames.items c.push.new.self.items Assert m.bindings.items o c.in_ok-push-in-Some.ensures.items))

pub returns-clause-arguments : goal.returns-clause-arguments
returns-clause-arguments c = λ u hand forms.
    let both = popped u c.args.forms.items c.pop.new.self.items c.pop.result c.in-Some.test c.pop.ensures.items c.in-Some.is forms in
    (waits_more u c.args.self.now c.push.new.self Assert hand c.in_ok-push-in-Some.ensures.items tt, both.1)
