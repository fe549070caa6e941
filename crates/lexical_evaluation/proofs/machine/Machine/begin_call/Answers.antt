use Rattle.lexical_evaluation.specs.Arguments.{AreArguments}
use Rattle.lexical_evaluation.proofs.Apart.{reversed_all}
use Rattle.lexical_evaluation.proofs.Handing.{forms_hold, popped, no_arguments}
use Rattle.std.proofs.Common.{ap, sym, ◌∙◌, subst}
use Rattle.lisp_operators.specs.EvaluationAnswers.{objects, IsArgument}
use Rattle.evaluator.specs.Operators.{first}
use Rattle.evaluator.specs.Value.{rest}
use Rattle.evaluator.specs.ArgumentValues.{arguments_in}
use Rattle.kept_functions.specs.Counting.{then_on}
use Rattle.lexical_evaluation.specs.declared.frame.Target.TheVariants.{Function}
use Rattle.lexical_evaluation.specs.Values.{values_in, named_function}
use Rattle.lexical_evaluation.specs.Machine.{around, point_of, to_come, gathered_in}
use Rattle.lexical_evaluation.specs.Ways.{head_in}
use Rattle.lexical_evaluation.proofs.Running.{parts_apart}
use Rattle.lexical_evaluation.proofs.Beginning.{arguments_rest}
use Rattle.lexical_evaluation.proofs.Going.{Meaning, goes_as}
use Rattle.lexical_evaluation.proofs.machine.Machine.begin_call.Goals as goal

pub returns-in-Some-clause-gives : goal.returns-in-Some-clause-gives
returns-in-Some-clause-gives c =
    let m = c.args.self.now in
    let items = c.args.items.items in
    let others = c.pop.new.self.items in
    let f : Meaning = λ does rules seen p. then_on (values_in rules seen p (arguments_in items)) (λ xs later. named_function rules (head_in items) xs later) in
    let g : Meaning = λ does rules seen p. gathered_in rules does seen (Function c.in-Some.head) (objects c.new-values.result.items) (to_come others) p in
    goes_as m c.gather.new.self c.gather.result f g
    (λ w s. ap (λ a. then_on (values_in (w.rules m.deeper) (around m) (point_of m s) a) (λ xs later. named_function (w.rules m.deeper) (head_in items) xs later)) (sym (arguments_rest items))
    ∙ ap (λ x. then_on (values_in (w.rules m.deeper) (around m) (point_of m s) (rest x)) (λ xs later. named_function (w.rules m.deeper) (first x) xs later))
    (parts_apart items c.reverse.new.self.items others c.pop.result c.in-Some.head c.reverse.ensures.items c.pop.ensures.items c.in-Some.is)
    ∙ ap (λ l. gathered_in (w.rules m.deeper) w.does (around m) (Function c.in-Some.head) (objects l) (to_come others) (point_of m s)) (sym c.new-values.ensures.items))
    c.gather.ensures.gives

pub returns-in-Some-clause-arguments : goal.returns-in-Some-clause-arguments
returns-in-Some-clause-arguments c = λ u hand value.
    let turned = reversed_all (IsArgument u) c.args.items.items (forms_hold u c.args.items.items c.requires.items value) in
    let both = popped u c.reverse.new.self.items c.pop.new.self.items c.pop.result c.in-Some.head c.pop.ensures.items c.in-Some.is (subst (AreArguments u) (sym c.reverse.ensures.items) turned) in
    c.gather.ensures.arguments u hand (both.1, both.0, subst (AreArguments u) (sym c.new-values.ensures.items) (no_arguments u))
