use Rattle.lexical_evaluation.specs.Arguments.{IsMachineOf}
use Rattle.lexical_evaluation.proofs.Handing.{spent_holds}
use Rattle.std.proofs.Common.{Err, sym, subst, IfOk}
use Rattle.std.proofs.lemmas.Result.{err_from_is_err_and}
use Rattle.lisp_object.specs.Datum.{object_of}
use Rattle.lisp_operators.specs.EvaluationAnswers.{Answers, done, IsArgument}
use Rattle.lisp_operators.specs.declared.error.EvaluationError.{EvaluationError}
use Rattle.kept_functions.specs.Counting.{weight}
use Rattle.lexical_evaluation.specs.Machine.{Spends}
use Rattle.lexical_evaluation.proofs.Finishing.{made_on, made_stops, made_refused}
use Rattle.lexical_evaluation.proofs.machine.Machine.made.Goals as goal

pub returns-in-Err-clause-gives : goal.returns-in-Err-clause-gives
returns-in-Err-clause-gives c = λ w s t o is. made_refused w s t c.args.self.now c.args.self.now o c.in-Err.error (subst (λ r. Answers done r t o) c.in-Err.is is)

pub returns-in_err-spend-in-Ok-clause-gives : goal.returns-in_err-spend-in-Ok-clause-gives
returns-in_err-spend-in-Ok-clause-gives c =
    let m = c.args.self.now in
    let e = c.in-Ok.evaluated in
    let x = object_of e.value in
    let r = err_from_is_err_and c.from_residual.result c.from_residual.ensures.1 in
    rw r.1 (λ w s t o is.
    made_stops w s t m c.spend.new.self x e.wrote c.either-self.result o (subst (λ q. Answers done q t o) c.in-Ok.is is) c.either-self.ensures r.0
    (subst (λ (k : EvaluationError). Spends (weight x) (record m { wrote = c.either-self.result }) c.spend.new.self (Err k)) (sym r.2) (c.in_err-spend-in-Ok.ensures (weight x) c.weight.ensures)))

pub returns-in_ok-spend-in-Ok-clause-gives : goal.returns-in_ok-spend-in-Ok-clause-gives
returns-in_ok-spend-in-Ok-clause-gives c = λ w s t o is.
    let e = c.in-Ok.evaluated in
    let x = object_of e.value in
    made_on w s t c.args.self.now c.spend.new.self x e.wrote c.either-self.result o (subst (λ q. Answers done q t o) c.in-Ok.is is) c.either-self.ensures tt (c.in_ok-spend-in-Ok.ensures (weight x) c.weight.ensures)

pub returns-in_err-spend-in-Ok-clause-arguments : goal.returns-in_err-spend-in-Ok-clause-arguments
returns-in_err-spend-in-Ok-clause-arguments c =
    let r = err_from_is_err_and c.from_residual.result c.from_residual.ensures.1 in
    rw r.1 (λ u given. tt)

pub returns-in_ok-spend-in-Ok-clause-arguments : goal.returns-in_ok-spend-in-Ok-clause-arguments
returns-in_ok-spend-in-Ok-clause-arguments c = λ u given.
    let m = c.args.self.now in
    let e = c.in-Ok.evaluated in
    let x = object_of e.value in
    let held = subst (λ q. IfOk q (λ k. IsMachineOf u m × IsArgument u k.value)) c.in-Ok.is given in
    (spent_holds u (weight x) (record m { wrote = c.either-self.result }) c.spend.new.self tt (c.in_ok-spend-in-Ok.ensures (weight x) c.weight.ensures) (record { sound = held.0.sound; frames = held.0.frames; bindings = held.0.bindings }), held.1)
