use Rattle.std.proofs.Common.{List, subst, arith}
use Rattle.lisp_object.specs.declared.refusal.TheConstants.{NOT_A_FORM}
use Rattle.lisp_object.specs.Object.{Object}
use Rattle.lisp_operators.specs.EvaluationAnswers.{objects}
use Rattle.lexical_evaluation.specs.Machine.{KeepsOutcome, global_value, point_of}
use Rattle.lexical_evaluation.specs.Ways.{ways}
use Rattle.lexical_evaluation.proofs.Finishing.{keeps_refused, no_global, first_removed}
use Rattle.lexical_evaluation.proofs.machine.Machine.global.Goals as goal

pub returns-then-is_empty-clause-gives : goal.returns-then-is_empty-clause-gives
returns-then-is_empty-clause-gives c = λ names.
    let m = c.args.self.now in
    let s = c.args.world.now.0 in
    let w = ways names in
    let ds = c.args.values.items in
    keeps_refused w s s m m (λ rules seen p. global_value rules (objects ds) p) NOT_A_FORM (no_global (w.rules m.deeper) ds (point_of m s) (grind (arith, c.is_empty.ensures, c.if-is_empty.true)))

pub returns-clause-gives : goal.returns-clause-gives
returns-clause-gives c = λ names.
    let m = c.args.self.now in
    let s = c.args.world.now.0 in
    let ds = c.args.values.items in
    let others = c.remove-symbol.new.self.items in
    subst (λ (l : List Object). KeepsOutcome (ways names) s s m c.give_global.new.self c.give_global.result (λ rules seen p. global_value rules l p))
    (first_removed ds others c.remove-symbol.result (grind (arith, c.is_empty.ensures, c.if-is_empty.false)) c.remove-symbol.ensures.value c.remove-symbol.ensures.by_index.2)
    (c.give_global.ensures.gives names (objects others))
