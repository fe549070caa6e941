use Rattle.std.proofs.Common.{sym, subst}
use Rattle.lexical_evaluation.specs.declared.machine.NextStep.{NextStep}
use Rattle.lexical_evaluation.specs.declared.machine.NextStep.TheVariants.{Evaluate, Give, Finish}
use Rattle.lexical_evaluation.specs.Machine.{comes_to, next_value}
use Rattle.lexical_evaluation.specs.Ways.{ways}
use Rattle.lexical_evaluation.specs.Arguments.{IsNextOf}
use Rattle.lexical_evaluation.specs.Steps.{StepsTo}
use Rattle.lexical_evaluation.proofs.Handing.{variables_proper}
use Rattle.lexical_evaluation.proofs.machine.Machine.step.Goals as goal

pub begin-requires-clause-form : goal.begin-requires-clause-form
begin-requires-clause-form c = (subst (IsNextOf c.args.world.now.0.packages) c.in-Evaluate.is c.requires.next).proper

pub begin-requires-clause-bindings : goal.begin-requires-clause-bindings
begin-requires-clause-bindings c = variables_proper c.args.world.now.0.packages c.args.self.now.bindings.items c.requires.machine.bindings

pub finish-requires-clause-values : goal.finish-requires-clause-values
finish-requires-clause-values c = (subst (IsNextOf c.args.world.now.0.packages) c.in-Finish.is c.requires.next).1

pub finish-requires-clause-target : goal.finish-requires-clause-target
finish-requires-clause-target c = (subst (IsNextOf c.args.world.now.0.packages) c.in-Finish.is c.requires.next).0

pub give-requires-clause-value : goal.give-requires-clause-value
give-requires-clause-value c = subst (IsNextOf c.args.world.now.0.packages) c.in-Give.is c.requires.next

pub returns-in-Evaluate-clause-gives : goal.returns-in-Evaluate-clause-gives
returns-in-Evaluate-clause-gives c =
    let w = ways c.args.names.now in
    let s = c.args.world.now.0 in
    let m = c.args.self.now in
    subst (λ (k : NextStep). StepsTo w s (comes_to w m (next_value w s m k)) c.begin.new.self c.goes_on.result) (sym c.in-Evaluate.is)
    (c.goes_on.ensures.gives w s (comes_to w m (next_value w s m (Evaluate c.in-Evaluate.form))) c.begin.new.self (c.begin.ensures.gives c.args.names.now))

pub returns-in-Evaluate-clause-arguments : goal.returns-in-Evaluate-clause-arguments
returns-in-Evaluate-clause-arguments c =
    let u = c.args.world.now.0.packages in
    c.goes_on.ensures.arguments u c.begin.new.self (c.begin.ensures.arguments u c.requires.machine (subst (IsNextOf u) c.in-Evaluate.is c.requires.next))

pub returns-in-Finish-clause-gives : goal.returns-in-Finish-clause-gives
returns-in-Finish-clause-gives c =
    let w = ways c.args.names.now in
    let s = c.args.world.now.0 in
    let t = c.finish.new.world.0 in
    let m = c.args.self.now in
    subst (λ (k : NextStep). StepsTo w t (comes_to w m (next_value w s m k)) c.finish.new.self c.goes_on-in-Finish.result) (sym c.in-Finish.is)
    (c.goes_on-in-Finish.ensures.gives w t (comes_to w m (next_value w s m (Finish c.in-Finish.target c.in-Finish.values))) c.finish.new.self c.finish.ensures.gives)

pub returns-in-Finish-clause-arguments : goal.returns-in-Finish-clause-arguments
returns-in-Finish-clause-arguments c = c.goes_on-in-Finish.ensures.arguments c.finish.new.world.0.packages c.finish.new.self (c.finish.ensures.arguments c.requires.machine)

pub returns-in-Give-clause-gives : goal.returns-in-Give-clause-gives
returns-in-Give-clause-gives c =
    let w = ways c.args.names.now in
    let s = c.args.world.now.0 in
    let m = c.args.self.now in
    subst (λ (k : NextStep). StepsTo w s (comes_to w m (next_value w s m k)) c.give.new.self c.give.result) (sym c.in-Give.is) (c.give.ensures.gives c.args.names.now)
