use Rattle.lexical_evaluation.specs.Arguments.{AreArguments}
use Rattle.lexical_evaluation.proofs.Handing.{popped, no_arguments, form_more}
use Rattle.std.proofs.Common.{◌≡◌, ◌∷◌, length, ap, sym, ◌∙◌, arith, subst}
use Rattle.lisp_object.specs.Object.{pair, nil}
use Rattle.lisp_object.specs.Datum.{object_of}
use Rattle.lisp_operators.specs.EvaluationAnswers.{objects}
use Rattle.evaluator.specs.Operators.{first}
use Rattle.evaluator.specs.Value.{is_clause, rest}
use Rattle.evaluator.specs.declared.operation.Operation.TheVariants.{Push}
use Rattle.kept_functions.specs.Counting.{here, then_on}
use Rattle.lexical_evaluation.specs.declared.frame.Target.TheVariants.{Operation as AnOperation}
use Rattle.lexical_evaluation.specs.Values.{value_in, values_in, values_at_place_in, values_before_place_in}
use Rattle.lexical_evaluation.specs.Machine.{around, point_of, to_come, finished_in, gathered_in}
use Rattle.lexical_evaluation.proofs.Apart.{come_more}
use Rattle.lexical_evaluation.proofs.Steps.{next_of, none_to_come}
use Rattle.lexical_evaluation.proofs.Beginning.{fewer}
use Rattle.lexical_evaluation.proofs.Places.{before_place, values_first}
use Rattle.lexical_evaluation.proofs.Thens.{then_each}
use Rattle.lexical_evaluation.proofs.Going.{Meaning, goes_as}
use Rattle.lexical_evaluation.proofs.machine.Machine.gather_before_place.Goals as goal

pub returns-in_ok-push-in-Some-pop-clause-gives : goal.returns-in_ok-push-in-Some-pop-clause-gives
returns-in_ok-push-in-Some-pop-clause-gives c =
    let m = c.args.self.now in
    let target = AnOperation Push c.args.place 0 in
    let others = c.pop.new.self.items in
    let last = c.pop-in-Some.new.self.items in
    let x = object_of c.in-Some.pushed in
    let place = object_of c.in-Some-pop.form in
    let before = c.in_ok-all-in-Some-pop.all.items in
    let all = c.push.new.self.items in
    let none : length last ≡ 0 =
    omega (arith, c.requires.two, fewer c.args.forms.items others c.pop.result c.in-Some.pushed c.pop.ensures.items c.in-Some.is, fewer others last c.pop-in-Some.result c.in-Some-pop.form c.pop-in-Some.ensures.items c.in-Some-pop.is) in
    let two : to_come c.args.forms.items ≡ pair x (pair place nil) =
    next_of c.args.forms.items others c.pop.result c.in-Some.pushed c.pop.ensures.items c.in-Some.is
    ∙ ap (pair x) (next_of others last c.pop-in-Some.result c.in-Some-pop.form c.pop-in-Some.ensures.items c.in-Some-pop.is ∙ ap (pair place) (none_to_come last none)) in
    let f : Meaning = λ does rules seen p. then_on (values_before_place_in rules seen p (to_come c.args.forms.items)) (λ xs later. finished_in rules does seen target xs later) in
    let g : Meaning = λ does rules seen p. gathered_in rules does seen target (objects c.new-values.result.items) (to_come all) p in
    goes_as m c.gather.new.self c.gather.result f g
    (λ w s. ap (λ l. then_on (values_before_place_in (w.rules m.deeper) (around m) (point_of m s) l) (λ xs later. finished_in (w.rules m.deeper) w.does (around m) target xs later)) two
    ∙ ap (λ o. then_on o (λ xs later. finished_in (w.rules m.deeper) w.does (around m) target xs later))
    (before_place (w.rules m.deeper) (around m) (point_of m s) x place (ap (λ l. is_clause (first (rest l))) (sym two) ∙ c.requires.place)
    ∙ then_each (value_in (w.rules m.deeper) (around m) (point_of m s) x)
    (λ y later. then_on (values_at_place_in (w.rules m.deeper) (around m) later (pair place nil)) (λ ys end'. here (y ∷ ys) end'))
    (λ y later. then_on (values_in (w.rules m.deeper) (around m) later (to_come before)) (λ ys end'. here (y ∷ ys) end'))
    (λ y later. ap (λ o. then_on o (λ ys end'. here (y ∷ ys) end'))
    (ap (λ l. values_at_place_in (w.rules m.deeper) (around m) later (pair place l)) (sym (none_to_come last none)) ∙ sym (c.in_ok-all-in-Some-pop.ensures.gives (w.rules m.deeper) (around m) later)))
    ∙ sym (values_first (w.rules m.deeper) (around m) (point_of m s) x (to_come before)))
    ∙ ap (λ l. then_on (values_in (w.rules m.deeper) (around m) (point_of m s) l) (λ xs later. finished_in (w.rules m.deeper) w.does (around m) target xs later)) (sym (come_more before all c.in-Some.pushed c.in_ok-push-in-Some-pop.ensures.items))
    ∙ ap (λ l. gathered_in (w.rules m.deeper) w.does (around m) target (objects l) (to_come all) (point_of m s)) (sym c.new-values.ensures.items))
    c.gather.ensures.gives

pub returns-in_ok-push-in-Some-pop-clause-arguments : goal.returns-in_ok-push-in-Some-pop-clause-arguments
returns-in_ok-push-in-Some-pop-clause-arguments c = λ u hand forms.
    let both = popped u c.args.forms.items c.pop.new.self.items c.pop.result c.in-Some.pushed c.pop.ensures.items c.in-Some.is forms in
    let more = popped u c.pop.new.self.items c.pop-in-Some.new.self.items c.pop-in-Some.result c.in-Some-pop.form c.pop-in-Some.ensures.items c.in-Some-pop.is both.0 in
    c.gather.ensures.arguments u hand
    (tt, form_more u c.in_ok-all-in-Some-pop.all.items c.push.new.self.items c.in-Some.pushed c.in_ok-push-in-Some-pop.ensures.items (c.in_ok-all-in-Some-pop.ensures.arguments u more.0 more.1) both.1, subst (AreArguments u) (sym c.new-values.ensures.items) (no_arguments u))
