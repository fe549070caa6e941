use Rattle.lexical_evaluation.proofs.Handing.{waits_more, popped}
use Rattle.std.proofs.Common.{◌<◌, length, ap, sym, ◌∙◌, arith}
use Rattle.lisp_object.specs.Object.{pair}
use Rattle.lisp_object.specs.Datum.{object_of}
use Rattle.lexical_evaluation.specs.declared.frame.Awaiting.TheVariants.{Seek}
use Rattle.kept_functions.specs.Counting.{then_on, wrote_too}
use Rattle.lexical_evaluation.specs.Values.{value_in, sought_value_in}
use Rattle.lexical_evaluation.specs.Machine.{comes_to, around, point_of, sought_after}
use Rattle.lexical_evaluation.proofs.Steps.{next_of, none_to_come, some_to_come}
use Rattle.lexical_evaluation.proofs.Deciding.{seek_one, seek_more}
use Rattle.lexical_evaluation.proofs.Continuing.{waits}
use Rattle.lexical_evaluation.proofs.machine.Machine.seek.Goals as goal

pub returns-then-is_empty-clause-gives : goal.returns-then-is_empty-clause-gives
returns-then-is_empty-clause-gives c = λ w s.
    let m = c.args.self.now in
    ap (comes_to w m)
    (ap (sought_value_in (w.rules m.deeper) (around m) c.args.truth (point_of m s))
    (next_of c.args.forms.items c.pop.new.self.items c.pop.result c.in-Some.form c.pop.ensures.items c.in-Some.is
    ∙ ap (pair (object_of c.in-Some.form)) (none_to_come c.pop.new.self.items (grind (arith, c.if-is_empty.true, c.is_empty.ensures))))
    ∙ seek_one (w.rules m.deeper) (around m) c.args.truth (point_of m s) (object_of c.in-Some.form))

pub returns-clause-gives : goal.returns-clause-gives
returns-clause-gives c = λ w s.
    let m = c.args.self.now in
    let rest = c.pop.new.self.items in
    let some : 0 < length rest = grind (arith, c.if-is_empty.false, c.is_empty.ensures) in
    let begins = some_to_come rest some in
    let o = value_in (w.rules m.deeper) (around m) (point_of m s) (object_of c.in-Some.form) in
    ap (comes_to w m)
    (ap (sought_value_in (w.rules m.deeper) (around m) c.args.truth (point_of m s))
    (next_of c.args.forms.items rest c.pop.result c.in-Some.form c.pop.ensures.items c.in-Some.is ∙ ap (pair (object_of c.in-Some.form)) begins.is)
    ∙ seek_more (w.rules m.deeper) (around m) c.args.truth (point_of m s) (object_of c.in-Some.form) begins.next begins.others
    ∙ ap (λ f. then_on o (λ y later. sought_after (w.rules m.deeper) (around m) c.args.truth y f later)) (sym begins.is))
    ∙ ap (wrote_too m.wrote)
    (sym (waits w m.deeper m.frames.items c.push.new.self.items (Seek c.args.truth c.pop.new.self) m.bindings.items o c.in_ok-push-in-Some.ensures.items))

pub returns-then-is_empty-clause-arguments : goal.returns-then-is_empty-clause-arguments
returns-then-is_empty-clause-arguments c = λ u hand forms. (hand, (popped u c.args.forms.items c.pop.new.self.items c.pop.result c.in-Some.form c.pop.ensures.items c.in-Some.is forms).1)

pub returns-clause-arguments : goal.returns-clause-arguments
returns-clause-arguments c = λ u hand forms.
    let both = popped u c.args.forms.items c.pop.new.self.items c.pop.result c.in-Some.form c.pop.ensures.items c.in-Some.is forms in
    (waits_more u c.args.self.now c.push.new.self (Seek c.args.truth c.pop.new.self) hand c.in_ok-push-in-Some.ensures.items both.0, both.1)
