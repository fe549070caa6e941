use Rattle.lexical_evaluation.proofs.Handing.{nil_holds, waits_more, popped, apart_holds}
use Rattle.std.proofs.Common.{ap, sym, ◌∙◌, arith}
use Rattle.lisp_object.specs.Object.{pair}
use Rattle.lisp_object.specs.Datum.{object_of}
use Rattle.lisp_object.specs.declared.refusal.TheConstants.{ARGUMENT_KIND}
use Rattle.lexical_evaluation.specs.declared.frame.Awaiting.TheVariants.{Clause}
use Rattle.kept_functions.specs.Counting.{here, wrote_too}
use Rattle.lexical_evaluation.specs.Values.{value_in, selected_in}
use Rattle.lexical_evaluation.specs.Machine.{comes_to, around, point_of, to_come}
use Rattle.lexical_evaluation.proofs.Steps.{next_of, none_to_come}
use Rattle.lexical_evaluation.proofs.Deciding.{select_none, select_some, select_other}
use Rattle.lexical_evaluation.proofs.Continuing.{refused, waits}
use Rattle.lexical_evaluation.proofs.machine.Machine.clauses.Goals as goal

pub returns-in_ok-empty_list-in-None-clause-gives : goal.returns-in_ok-empty_list-in-None-clause-gives
returns-in_ok-empty_list-in-None-clause-gives c = λ w s.
    let m = c.args.self.now in
    ap (comes_to w m)
    (ap (selected_in (w.rules m.deeper) (around m) (point_of m s)) (none_to_come c.args.clauses.items (grind (arith, c.in-None.ensures)))
    ∙ select_none (w.rules m.deeper) (around m) (point_of m s)
    ∙ ap (λ x. here x (point_of m s)) (sym c.in_ok-empty_list-in-None.ensures.value))

pub returns-in_ok-push-in-Some-headed-clause-gives : goal.returns-in_ok-push-in-Some-headed-clause-gives
returns-in_ok-push-in-Some-headed-clause-gives c = λ w s.
    let m = c.args.self.now in
    let rules = w.rules m.deeper in
    let others = c.pop.new.self.items in
    let apart = c.in-Some-headed.ensures in
    let o = value_in rules (around m) (point_of m s) (object_of c.in-Some-headed.test) in
    ap (comes_to w m)
    (ap (selected_in rules (around m) (point_of m s))
    (next_of c.args.clauses.items others c.pop.result c.in-Some.clause c.pop.ensures.items c.in-Some.is ∙ ap (λ x. pair x (to_come others)) apart.object)
    ∙ select_some rules (around m) (point_of m s) (object_of c.in-Some-headed.test) (to_come c.in-Some-headed.forms.items) (to_come others) apart.list)
    ∙ ap (wrote_too m.wrote)
    (sym (waits w m.deeper m.frames.items c.push.new.self.items (Clause c.in-Some-headed.forms c.pop.new.self) m.bindings.items o c.in_ok-push-in-Some-headed.ensures.items))

pub returns-in-None-headed-clause-gives : goal.returns-in-None-headed-clause-gives
returns-in-None-headed-clause-gives c = λ w s.
    let m = c.args.self.now in
    let rules = w.rules m.deeper in
    let others = c.pop.new.self.items in
    ap (comes_to w m)
    (ap (selected_in rules (around m) (point_of m s)) (next_of c.args.clauses.items others c.pop.result c.in-Some.clause c.pop.ensures.items c.in-Some.is)
    ∙ select_other rules (around m) (point_of m s) (object_of c.in-Some.clause) (to_come others) c.in-None-headed.ensures)
    ∙ refused w m ARGUMENT_KIND

pub returns-in_ok-empty_list-in-None-clause-arguments : goal.returns-in_ok-empty_list-in-None-clause-arguments
returns-in_ok-empty_list-in-None-clause-arguments c = λ u hand given. (hand, nil_holds u hand.sound _ c.in_ok-empty_list-in-None.ensures.value c.in_ok-empty_list-in-None.ensures.proper)

pub returns-in_ok-push-in-Some-headed-clause-arguments : goal.returns-in_ok-push-in-Some-headed-clause-arguments
returns-in_ok-push-in-Some-headed-clause-arguments c = λ u hand forms.
    let both = popped u c.args.clauses.items c.pop.new.self.items c.pop.result c.in-Some.clause c.pop.ensures.items c.in-Some.is forms in
    let apart = c.in-Some-headed.ensures in
    let parts = apart_holds u (object_of c.in-Some.clause) c.in-Some-headed.test c.in-Some-headed.forms.items apart both.1.value in
    (waits_more u c.args.self.now c.push.new.self (Clause c.in-Some-headed.forms c.pop.new.self) hand c.in_ok-push-in-Some-headed.ensures.items (parts.1, both.0), parts.0)
