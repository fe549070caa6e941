use Rattle.lexical_evaluation.proofs.Handing.{spent_holds}
use Rattle.std.proofs.Common.{◌≡◌, true, false, length, Err, sym, ap, subst, ◌∙◌, arith}
use Rattle.std.proofs.lemmas.List.{length-map}
use Rattle.std.proofs.lemmas.Result.{err_from_is_err_and}
use Rattle.lisp_object.specs.declared.refusal.TheConstants.{ARGUMENT_COUNT, UNKNOWN_OPERATOR}
use Rattle.lisp_object.specs.Object.{Object}
use Rattle.lisp_object.specs.Datum.{object_of}
use Rattle.lisp_operators.specs.EvaluationAnswers.{objects}
use Rattle.lisp_operators.specs.declared.error.EvaluationError.{EvaluationError}
use Rattle.evaluator.specs.Operators.{counts}
use Rattle.evaluator.specs.Operations.{operator, action_of}
use Rattle.evaluator.specs.declared.place.PlaceForm.TheVariants.{Property}
use Rattle.kept_functions.specs.Environments.{Environment}
use Rattle.kept_functions.specs.Counting.{Point, Counting, spending, at_point}
use Rattle.lexical_evaluation.specs.Values.{LexicalRules, called_operator}
use Rattle.lexical_evaluation.specs.Machine.{Spends, point_of}
use Rattle.lexical_evaluation.specs.Ways.{performed, is_call}
use Rattle.lexical_evaluation.proofs.Forms.{step_stops}
use Rattle.lexical_evaluation.proofs.Finishing.{keeps_as, keeps_refused, keeps_spent, not_called, called_other, called_as}
use Rattle.lexical_evaluation.proofs.machine.Machine.call_operator.Goals as goal

pub returns-then-not-is_function-clause-gives : goal.returns-then-not-is_function-clause-gives
returns-then-not-is_function-clause-gives c = λ w head steps.
    let m = c.args.self.now in
    let s = c.args.world.now.0 in
    let names = c.args.names.now in
    let o = c.args.operation in
    let xs = objects c.args.values.items in
    keeps_refused w s s m m (λ rules seen p. called_operator head (operator names o) (action_of names o) xs p) UNKNOWN_OPERATOR
    (not_called head (operator names o) xs (point_of m s) (action_of names o) (sym (c.is_function.ensures names) ∙ c.if-not-is_function.true))

pub returns-then-not-counts-clause-gives : goal.returns-then-not-counts-clause-gives
returns-then-not-counts-clause-gives c = λ w head steps.
    let m = c.args.self.now in
    let s = c.args.world.now.0 in
    let names = c.args.names.now in
    let o = c.args.operation in
    let ds = c.args.values.items in
    let n : c.len.result ≡ length ds = grind (arith, c.len.ensures) in
    keeps_refused w s s m m (λ rules seen p. called_operator head (operator names o) (action_of names o) (objects ds) p) ARGUMENT_COUNT
    (called_other names head (objects ds) (point_of m s) o (sym (c.is_function.ensures names) ∙ c.if-not-is_function.false)
    (ap (counts (operator names o)) (length-map ds object_of ∙ sym n) ∙ sym (c.counts.ensures.value names) ∙ c.if-not-counts.true))

pub returns-in_err-take_steps-clause-gives : goal.returns-in_err-take_steps-clause-gives
returns-in_err-take_steps-clause-gives c =
    let m = c.args.self.now in
    let s = c.args.world.now.0 in
    let names = c.args.names.now in
    let o = c.args.operation in
    let ds = c.args.values.items in
    let n : c.len.result ≡ length ds = grind (arith, c.len.ensures) in
    let is : is_call (action_of names o) ≡ true = sym (c.is_function.ensures names) ∙ c.if-not-is_function.false in
    let counted : counts (operator names o) (length (objects ds)) ≡ true = ap (counts (operator names o)) (length-map ds object_of ∙ sym n) ∙ sym (c.counts.ensures.value names) ∙ c.if-not-counts.false in
    let f : LexicalRules → Environment → Point → Counting Object = λ rules seen later. at_point later (performed names o Property (objects ds) later.state) in
    let r = err_from_is_err_and c.from_residual.result c.from_residual.ensures.1 in
    rw r.1 (λ w head steps.
    keeps_as w s s m c.take_steps.new.self (λ rules seen p. called_operator head (operator names o) (action_of names o) (objects ds) p) (Err r.0) (λ rules seen p. spending c.args.steps p (f rules seen))
    (called_as names head (objects ds) (point_of m s) o c.args.steps is counted steps)
    (step_stops w s c.args.steps m c.take_steps.new.self f c.take_steps.new.self r.0
    (subst (λ (e : EvaluationError). Spends c.args.steps m c.take_steps.new.self (Err e)) (sym r.2) c.in_err-take_steps.ensures)))

pub returns-clause-gives : goal.returns-clause-gives
returns-clause-gives c = λ w head steps.
    let m = c.args.self.now in
    let s = c.args.world.now.0 in
    let t = c.operate.new.world.0 in
    let names = c.args.names.now in
    let o = c.args.operation in
    let ds = c.args.values.items in
    let n : c.len.result ≡ length ds = grind (arith, c.len.ensures) in
    let is : is_call (action_of names o) ≡ true = sym (c.is_function.ensures names) ∙ c.if-not-is_function.false in
    let counted : counts (operator names o) (length (objects ds)) ≡ true = ap (counts (operator names o)) (length-map ds object_of ∙ sym n) ∙ sym (c.counts.ensures.value names) ∙ c.if-not-counts.false in
    let f : LexicalRules → Environment → Point → Counting Object = λ rules seen later. at_point later (performed names o Property (objects ds) later.state) in
    keeps_as w s t m c.operate.new.self (λ rules seen p. called_operator head (operator names o) (action_of names o) (objects ds) p) c.operate.result (λ rules seen p. spending c.args.steps p (f rules seen))
    (called_as names head (objects ds) (point_of m s) o c.args.steps is counted steps)
    (keeps_spent w s t c.args.steps m c.take_steps.new.self c.operate.new.self c.operate.result f tt c.in_ok-take_steps.ensures (c.operate.ensures.gives w))

pub returns-in_err-take_steps-clause-arguments : goal.returns-in_err-take_steps-clause-arguments
returns-in_err-take_steps-clause-arguments c =
    let r = err_from_is_err_and c.from_residual.result c.from_residual.ensures.1 in
    rw r.1 (λ hand. tt)

pub returns-clause-arguments : goal.returns-clause-arguments
returns-clause-arguments c = λ hand. c.operate.ensures.arguments (spent_holds c.args.world.now.0.packages c.args.steps c.args.self.now c.take_steps.new.self tt c.in_ok-take_steps.ensures hand)
