use Rattle.lexical_evaluation.proofs.Handing.{spent_holds}
use Rattle.std.proofs.Common.{◌-◌, Err, subst, ap, sym, ◌∙◌, arith}
use Rattle.std.proofs.lemmas.Result.{err_from_is_err_and}
use Rattle.lisp_operators.specs.declared.error.EvaluationError.{EvaluationError}
use Rattle.lisp_object.specs.declared.refusal.TheConstants.{ARGUMENT_COUNT}
use Rattle.lisp_operators.specs.EvaluationAnswers.{objects}
use Rattle.kept_functions.specs.declared.bounds.TheConstants.{CALLS_TOO_DEEP}
use Rattle.kept_functions.specs.Counting.{weight}
use Rattle.kept_functions.specs.KeptFunctions.{stored_definition}
use Rattle.lexical_evaluation.specs.Machine.{Spends, comes_to, point_of}
use Rattle.lexical_evaluation.proofs.Calling.{too_deep, called_other}
use Rattle.lexical_evaluation.proofs.Running.{calls_on, call_stops, counts_differ, counts_same}
use Rattle.lexical_evaluation.proofs.Continuing.{refused}
use Rattle.lexical_evaluation.proofs.machine.Machine.call_function.Goals as goal

pub returns-then-self-eq0-clause-gives : goal.returns-then-self-eq0-clause-gives
returns-then-self-eq0-clause-gives c = λ w s calling.
    let m = c.args.self.now in
    ap (comes_to w m) (too_deep w calling (stored_definition c.args.definition) (objects c.args.values.items) (point_of m s) m.deeper (omega (arith, c.if-self-eq0.true))) ∙ refused w m CALLS_TOO_DEEP

pub returns-then-definition-len-clause-gives : goal.returns-then-definition-len-clause-gives
returns-then-definition-len-clause-gives c = λ w s calling.
    let m = c.args.self.now in
    let d = c.args.definition in
    ap (comes_to w m)
    (called_other w calling (stored_definition d) (objects c.args.values.items) (point_of m s) m.deeper (m.deeper - 1) (omega (arith, c.if-self-eq0.false))
    (counts_differ d.variables.now c.args.values.items c.len.result (grind (arith, c.len.ensures)) c.if-definition-len.true))
    ∙ refused w m ARGUMENT_COUNT

pub returns-in_err-spend-clause-gives : goal.returns-in_err-spend-clause-gives
returns-in_err-spend-clause-gives c =
    let m = c.args.self.now in
    let d = c.args.definition in
    let p = err_from_is_err_and c.from_residual.result c.from_residual.ensures.1 in
    rw p.1 (λ w s calling.
    call_stops w s calling m c.spend.new.self (stored_definition d) (objects c.args.values.items) (omega (arith, c.if-self-eq0.false))
    (counts_same d.variables.now c.args.values.items c.len.result (grind (arith, c.len.ensures)) c.if-definition-len.false)
    c.spend.new.self p.0 (subst (λ (e : EvaluationError). Spends (weight (stored_definition d).body) m c.spend.new.self (Err e)) (sym p.2) (c.in_err-spend.ensures (weight (stored_definition d).body) c.weight_of_list.ensures)))

pub returns-clause-gives : goal.returns-clause-gives
returns-clause-gives c = λ w s calling.
    let m = c.args.self.now in
    let d = c.args.definition in
    calls_on w s calling m c.spend.new.self (stored_definition d) (objects c.args.values.items) (omega (arith, c.if-self-eq0.false))
    (counts_same d.variables.now c.args.values.items c.len.result (grind (arith, c.len.ensures)) c.if-definition-len.false)
    c.function_body.new.self c.function_body.result tt (c.in_ok-spend.ensures (weight (stored_definition d).body) c.weight_of_list.ensures) c.function_body.ensures.gives

pub returns-in_err-spend-clause-arguments : goal.returns-in_err-spend-clause-arguments
returns-in_err-spend-clause-arguments c =
    let r = err_from_is_err_and c.from_residual.result c.from_residual.ensures.1 in
    rw r.1 (λ u hand given. tt)

pub returns-clause-arguments : goal.returns-clause-arguments
returns-clause-arguments c = λ u hand given.
    let body = (stored_definition c.args.definition).body in
    c.function_body.ensures.arguments u (spent_holds u (weight body) c.args.self.now c.spend.new.self tt (c.in_ok-spend.ensures (weight body) c.weight_of_list.ensures) hand) given
