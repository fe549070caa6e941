use Rattle.lexical_evaluation.proofs.Handing.{nil_holds, waits_more, popped}
use Rattle.std.proofs.Common.{ap, sym, ◌∙◌, arith}
use Rattle.lisp_object.specs.Datum.{object_of}
use Rattle.lexical_evaluation.specs.declared.frame.Awaiting.TheVariants.{Sequence}
use Rattle.kept_functions.specs.Counting.{here, wrote_too}
use Rattle.lexical_evaluation.specs.Values.{value_in}
use Rattle.lexical_evaluation.specs.Machine.{comes_to, around, point_of}
use Rattle.lexical_evaluation.proofs.Sequences.{sequence_none}
use Rattle.lexical_evaluation.proofs.Steps.{sequence_over, sequence_last, sequence_on}
use Rattle.lexical_evaluation.proofs.Continuing.{waits}
use Rattle.lexical_evaluation.proofs.machine.Machine.sequence.Goals as goal

pub returns-then-is_empty-clause-gives : goal.returns-then-is_empty-clause-gives
returns-then-is_empty-clause-gives c = λ w s.
    let m = c.args.self.now in
    ap (comes_to w m)
    (sequence_last (w.rules m.deeper) (around m) (point_of m s) c.args.forms.items c.pop.new.self.items c.pop.result c.in-Some.form c.pop.ensures.items c.in-Some.is
    (grind (arith, c.if-is_empty.true, c.is_empty.ensures)))

pub returns-in_ok-empty_list-in-None-clause-gives : goal.returns-in_ok-empty_list-in-None-clause-gives
returns-in_ok-empty_list-in-None-clause-gives c = λ w s.
    let m = c.args.self.now in
    ap (comes_to w m)
    (sequence_over (w.rules m.deeper) (around m) (point_of m s) c.args.forms.items (grind (arith, c.in-None.ensures))
    ∙ sequence_none (w.rules m.deeper) (around m) (point_of m s)
    ∙ ap (λ x. here x (point_of m s)) (sym c.in_ok-empty_list-in-None.ensures.value))

pub returns-in_ok-push-in-Some-clause-gives : goal.returns-in_ok-push-in-Some-clause-gives
returns-in_ok-push-in-Some-clause-gives c = λ w s.
    let m = c.args.self.now in
    let o = value_in (w.rules m.deeper) (around m) (point_of m s) (object_of c.in-Some.form) in
    ap (comes_to w m)
    (sequence_on (w.rules m.deeper) (around m) (point_of m s) c.args.forms.items c.pop.new.self.items c.pop.result c.in-Some.form c.pop.ensures.items c.in-Some.is
    (grind (arith, c.if-is_empty.false, c.is_empty.ensures)))
    ∙ ap (wrote_too m.wrote)
    (sym (waits w m.deeper m.frames.items c.push.new.self.items (Sequence c.pop.new.self) m.bindings.items o c.in_ok-push-in-Some.ensures.items))

pub returns-then-is_empty-clause-arguments : goal.returns-then-is_empty-clause-arguments
returns-then-is_empty-clause-arguments c = λ u hand forms. (hand, (popped u c.args.forms.items c.pop.new.self.items c.pop.result c.in-Some.form c.pop.ensures.items c.in-Some.is forms).1)

pub returns-in_ok-empty_list-in-None-clause-arguments : goal.returns-in_ok-empty_list-in-None-clause-arguments
returns-in_ok-empty_list-in-None-clause-arguments c = λ u hand given. (hand, nil_holds u hand.sound _ c.in_ok-empty_list-in-None.ensures.value c.in_ok-empty_list-in-None.ensures.proper)

pub returns-in_ok-push-in-Some-clause-arguments : goal.returns-in_ok-push-in-Some-clause-arguments
returns-in_ok-push-in-Some-clause-arguments c = λ u hand forms.
    let both = popped u c.args.forms.items c.pop.new.self.items c.pop.result c.in-Some.form c.pop.ensures.items c.in-Some.is forms in
    (waits_more u c.args.self.now c.push.new.self (Sequence c.pop.new.self) hand c.in_ok-push-in-Some.ensures.items both.0, both.1)
