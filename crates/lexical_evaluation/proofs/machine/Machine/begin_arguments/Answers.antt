use Rattle.lexical_evaluation.specs.Arguments.{AreArguments, IsCalleeOf}
use Rattle.lexical_evaluation.proofs.Handing.{no_arguments, form_more}
use Rattle.std.proofs.Common.{[], Ok, ap, sym, subst, ◌∙◌}
use Rattle.lisp_object.specs.Object.{list_of, pair}
use Rattle.lisp_object.specs.Datum.{object_of}
use Rattle.lisp_operators.specs.EvaluationAnswers.{objects}
use Rattle.lexical_evaluation.specs.declared.frame.Target.TheVariants.{Function, NamedByFirst, Written as WrittenTarget}
use Rattle.lexical_evaluation.specs.Values.{applied_in, value_in, named_function}
use Rattle.lexical_evaluation.specs.Machine.{around, point_of, to_come, gathered_in, written_in}
use Rattle.lexical_evaluation.specs.Ways.{IsCallee}
use Rattle.lexical_evaluation.proofs.Apart.{come_more}
use Rattle.lexical_evaluation.proofs.Gathering.{gathered_more}
use Rattle.lexical_evaluation.proofs.Callees.{applied_here, applied_valued}
use Rattle.lexical_evaluation.proofs.Going.{Meaning, goes_as}
use Rattle.lexical_evaluation.proofs.machine.Machine.begin_arguments.Goals as goal

pub returns-in-Written-clause-gives : goal.returns-in-Written-clause-gives
returns-in-Written-clause-gives c = λ x are.
    let m = c.args.self.now in
    let others = to_come c.args.forms.items in
    let parts = list_of (objects c.in-Written.parts.items) in
    let is = subst (λ f. IsCallee x (Ok f)) c.in-Written.is are in
    let f : Meaning = λ does rules seen p. applied_in rules seen p (pair x others) in
    let g : Meaning = λ does rules seen p. gathered_in rules does seen (WrittenTarget c.in-Written.parts) (objects c.new-values.result.items) others p in
    goes_as m c.gather.new.self c.gather.result f g
    (λ w s. applied_here (w.rules m.deeper) (around m) (point_of m s) x others (written_in (w.rules m.deeper) (around m) parts)
    ((is (value_in (w.rules m.deeper) (around m) (point_of m s) x)).1 (w.rules m.deeper) (around m) (point_of m s))
    ∙ ap (λ l. gathered_in (w.rules m.deeper) w.does (around m) (WrittenTarget c.in-Written.parts) (objects l) others (point_of m s)) (sym c.new-values.ensures.items))
    c.gather.ensures.gives

pub returns-in-Named-clause-gives : goal.returns-in-Named-clause-gives
returns-in-Named-clause-gives c = λ x are.
    let m = c.args.self.now in
    let others = to_come c.args.forms.items in
    let is = subst (λ f. IsCallee x (Ok f)) c.in-Named.is are in
    let f : Meaning = λ does rules seen p. applied_in rules seen p (pair x others) in
    let g : Meaning = λ does rules seen p. gathered_in rules does seen (Function c.in-Named.name) (objects c.new-values.result.items) others p in
    goes_as m c.gather-in-Named.new.self c.gather-in-Named.result f g
    (λ w s. applied_here (w.rules m.deeper) (around m) (point_of m s) x others (named_function (w.rules m.deeper) (object_of c.in-Named.name))
    ((is (value_in (w.rules m.deeper) (around m) (point_of m s) x)).1 (w.rules m.deeper) (around m) (point_of m s))
    ∙ ap (λ l. gathered_in (w.rules m.deeper) w.does (around m) (Function c.in-Named.name) (objects l) others (point_of m s)) (sym c.new-values.ensures.items))
    c.gather-in-Named.ensures.gives

pub returns-in_ok-push-in-Valued-clause-gives : goal.returns-in_ok-push-in-Valued-clause-gives
returns-in_ok-push-in-Valued-clause-gives c = λ x are.
    let m = c.args.self.now in
    let others = to_come c.args.forms.items in
    let more = c.push.new.self.items in
    let is = subst (λ f. IsCallee x (Ok f)) c.in-Valued.is are in
    let f : Meaning = λ does rules seen p. applied_in rules seen p (pair x others) in
    let g : Meaning = λ does rules seen p. gathered_in rules does seen NamedByFirst (objects c.new-values.result.items) (to_come more) p in
    goes_as m c.gather-in-Valued.new.self c.gather-in-Valued.result f g
    (λ w s. applied_valued (w.rules m.deeper) (around m) (point_of m s) x others (is.1 (w.rules m.deeper) (around m) (point_of m s) (value_in (w.rules m.deeper) (around m) (point_of m s) x))
    ∙ sym (gathered_more (w.rules m.deeper) w.does (around m) NamedByFirst [] (point_of m s) x others)
    ∙ ap (λ y. gathered_in (w.rules m.deeper) w.does (around m) NamedByFirst [] (pair y others) (point_of m s)) (sym is.0)
    ∙ ap (λ l. gathered_in (w.rules m.deeper) w.does (around m) NamedByFirst [] l (point_of m s)) (sym (come_more c.args.forms.items more c.in-Valued.form c.in_ok-push-in-Valued.ensures.items))
    ∙ ap (λ l. gathered_in (w.rules m.deeper) w.does (around m) NamedByFirst (objects l) (to_come more) (point_of m s)) (sym c.new-values.ensures.items))
    c.gather-in-Valued.ensures.gives

pub returns-in-Written-clause-arguments : goal.returns-in-Written-clause-arguments
returns-in-Written-clause-arguments c = λ u hand given. c.gather.ensures.arguments u hand (subst (IsCalleeOf u) c.in-Written.is given.0, given.1, subst (AreArguments u) (sym c.new-values.ensures.items) (no_arguments u))

pub returns-in-Named-clause-arguments : goal.returns-in-Named-clause-arguments
returns-in-Named-clause-arguments c = λ u hand given. c.gather-in-Named.ensures.arguments u hand (subst (IsCalleeOf u) c.in-Named.is given.0, given.1, subst (AreArguments u) (sym c.new-values.ensures.items) (no_arguments u))

pub returns-in_ok-push-in-Valued-clause-arguments : goal.returns-in_ok-push-in-Valued-clause-arguments
returns-in_ok-push-in-Valued-clause-arguments c = λ u hand given.
    c.gather-in-Valued.ensures.arguments u hand (tt, form_more u c.args.forms.items c.push.new.self.items c.in-Valued.form c.in_ok-push-in-Valued.ensures.items given.1 (subst (IsCalleeOf u) c.in-Valued.is given.0), subst (AreArguments u) (sym c.new-values.ensures.items) (no_arguments u))
