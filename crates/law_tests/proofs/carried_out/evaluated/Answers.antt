use Rattle.std.proofs.Common.{Err, subst}
use Rattle.evaluator.specs.Value.{value}
use Rattle.lisp_object.specs.Datum.{object_of}
use Rattle.lisp_operators.specs.EvaluationAnswers.{Answers, done}
use Rattle.lisp_operators.specs.declared.error.EvaluationError.{EvaluationError}
use Rattle.law_tests.proofs.carried_out.evaluated.Goals as goal

pub returns-in-Ok-clause-sound : goal.returns-in-Ok-clause-sound
returns-in-Ok-clause-sound c =
    let after = c.values_leave_sound_states.ensures c.args.names.now c.args.world.now.0 (object_of c.args.form.now) (done c.in-Ok.evaluated c.evaluate.new.world.0)
    c.requires.names c.soundness.ensures.present c.requires.form.value c.in-Ok.ensures.gives in
    (after.0, after.1)

pub returns-in-Ok-clause-covered : goal.returns-in-Ok-clause-covered
returns-in-Ok-clause-covered c =
    c.values_leave_covered_readtables.ensures c.args.names.now c.args.world.now.0 (object_of c.args.form.now) (done c.in-Ok.evaluated c.evaluate.new.world.0) c.in-Ok.ensures.gives

pub returns-in-Ok-clause-silent : goal.returns-in-Ok-clause-silent
returns-in-Ok-clause-silent c =
    c.silent_values_change_nothing.ensures c.args.names.now c.args.world.now.0 (object_of c.args.form.now) (done c.in-Ok.evaluated c.evaluate.new.world.0) c.in-Ok.ensures.gives

pub returns-in-Err-clause-number : goal.returns-in-Err-clause-number
returns-in-Err-clause-number c = λ code is.
    c.values_are_refused_by_evaluation.ensures c.args.names.now c.args.world.now.0 (object_of c.args.form.now) code
    (subst (λ (e : EvaluationError). Answers done (Err e) c.evaluate.new.world.0 (value c.args.names.now c.args.world.now.0 (object_of c.args.form.now))) is c.in-Err.ensures.gives)
