use Rattle.lexical_evaluation.proofs.Handing.{nil_holds, popped}
use Rattle.std.proofs.Common.{ap, sym, ◌∙◌, arith}
use Rattle.lisp_object.specs.Datum.{object_of}
use Rattle.kept_functions.specs.Counting.{here}
use Rattle.lexical_evaluation.specs.Values.{other_value_in}
use Rattle.lexical_evaluation.specs.Machine.{comes_to, around, point_of, to_come}
use Rattle.lexical_evaluation.proofs.Steps.{next_of, none_to_come}
use Rattle.lexical_evaluation.proofs.Choosing.{other_none, other_first}
use Rattle.lexical_evaluation.proofs.machine.Machine.first_or_nil.Goals as goal

pub returns-in-None-clause-gives : goal.returns-in-None-clause-gives
returns-in-None-clause-gives c = λ w s.
    let m = c.args.self.now in
    ap (comes_to w m)
    (ap (other_value_in (w.rules m.deeper) (around m) (point_of m s)) (none_to_come c.args.forms.items (grind (arith, c.in-None.ensures))) ∙ other_none (w.rules m.deeper) (around m) (point_of m s)
    ∙ ap (λ x. here x (point_of m s)) (sym c.in_ok-empty_list-in-None.ensures.value))

pub returns-clause-gives : goal.returns-clause-gives
returns-clause-gives c = λ w s.
    let m = c.args.self.now in
    ap (comes_to w m)
    (ap (other_value_in (w.rules m.deeper) (around m) (point_of m s)) (next_of c.args.forms.items c.pop.new.self.items c.pop.result c.in-Some.form c.pop.ensures.items c.in-Some.is)
    ∙ other_first (w.rules m.deeper) (around m) (point_of m s) (object_of c.in-Some.form) (to_come c.pop.new.self.items))

pub returns-in-None-clause-arguments : goal.returns-in-None-clause-arguments
returns-in-None-clause-arguments c = λ u hand given. (hand, nil_holds u hand.sound _ c.in_ok-empty_list-in-None.ensures.value c.in_ok-empty_list-in-None.ensures.proper)

pub returns-clause-arguments : goal.returns-clause-arguments
returns-clause-arguments c = λ u hand forms. (hand, (popped u c.args.forms.items c.pop.new.self.items c.pop.result c.in-Some.form c.pop.ensures.items c.in-Some.is forms).1)
