use Rattle.lexical_evaluation.specs.Arguments.{AreArguments}
use Rattle.lexical_evaluation.proofs.Handing.{popped, no_arguments}
use Rattle.std.proofs.Common.{ap, sym, ◌∙◌, subst}
use Rattle.lisp_operators.specs.EvaluationAnswers.{objects}
use Rattle.kept_functions.specs.Counting.{then_on}
use Rattle.lexical_evaluation.specs.declared.frame.Target.TheVariants.{Operation as AnOperation}
use Rattle.lexical_evaluation.specs.Values.{values_at_place_in}
use Rattle.lexical_evaluation.specs.Machine.{around, point_of, to_come, finished_in, gathered_in}
use Rattle.lexical_evaluation.proofs.Steps.{next_of}
use Rattle.lexical_evaluation.proofs.Going.{Meaning, goes_as}
use Rattle.lexical_evaluation.proofs.machine.Machine.gather_at_place.Goals as goal

pub returns-in_ok-all-in-Some-clause-gives : goal.returns-in_ok-all-in-Some-clause-gives
returns-in_ok-all-in-Some-clause-gives c =
    let m = c.args.self.now in
    let target = AnOperation c.args.operation c.args.place 0 in
    let all = to_come c.in_ok-all-in-Some.all.items in
    let f : Meaning = λ does rules seen p. then_on (values_at_place_in rules seen p (to_come c.args.forms.items)) (λ xs later. finished_in rules does seen target xs later) in
    let g : Meaning = λ does rules seen p. gathered_in rules does seen target (objects c.new-values.result.items) all p in
    goes_as m c.gather.new.self c.gather.result f g
    (λ w s. ap (λ l. then_on (values_at_place_in (w.rules m.deeper) (around m) (point_of m s) l) (λ xs later. finished_in (w.rules m.deeper) w.does (around m) target xs later))
    (next_of c.args.forms.items c.pop.new.self.items c.pop.result c.in-Some.form c.pop.ensures.items c.in-Some.is)
    ∙ ap (λ o. then_on o (λ xs later. finished_in (w.rules m.deeper) w.does (around m) target xs later)) (sym (c.in_ok-all-in-Some.ensures.gives (w.rules m.deeper) (around m) (point_of m s)))
    ∙ ap (λ l. gathered_in (w.rules m.deeper) w.does (around m) target (objects l) all (point_of m s)) (sym c.new-values.ensures.items))
    c.gather.ensures.gives

pub returns-in_ok-all-in-Some-clause-arguments : goal.returns-in_ok-all-in-Some-clause-arguments
returns-in_ok-all-in-Some-clause-arguments c = λ u hand forms.
    let both = popped u c.args.forms.items c.pop.new.self.items c.pop.result c.in-Some.form c.pop.ensures.items c.in-Some.is forms in
    c.gather.ensures.arguments u hand (tt, c.in_ok-all-in-Some.ensures.arguments u both.0 both.1, subst (AreArguments u) (sym c.new-values.ensures.items) (no_arguments u))
