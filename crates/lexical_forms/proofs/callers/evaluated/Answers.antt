use Rattle.std.proofs.Common.{Err, subst}
use Rattle.lisp_object.specs.Datum.{object_of}
use Rattle.lisp_operators.specs.EvaluationAnswers.{Answers, done}
use Rattle.lisp_operators.specs.declared.error.EvaluationError.{EvaluationError}
use Rattle.evaluator.specs.Value.{value}
use Rattle.lexical_forms.proofs.callers.evaluated.Goals as goal

pub returns-in-Ok-clause-value : goal.returns-in-Ok-clause-value
returns-in-Ok-clause-value c =
    c.old_forms_keep_their_outcomes.ensures.values c.args.names.now c.args.world.now.0 (object_of c.args.form.now) (done c.in-Ok.evaluated c.evaluate.new.world.0) c.in-Ok.ensures.gives

pub returns-in-Err-clause-refusal : goal.returns-in-Err-clause-refusal
returns-in-Err-clause-refusal c = λ code is not_asked.
    c.old_forms_keep_their_outcomes.ensures.refusals c.args.names.now c.args.world.now.0 (object_of c.args.form.now) code
    (subst (λ (e : EvaluationError). Answers done (Err e) c.evaluate.new.world.0 (value c.args.names.now c.args.world.now.0 (object_of c.args.form.now))) is c.in-Err.ensures.gives) not_asked

pub returns-in-Ok-clause-agrees : goal.returns-in-Ok-clause-agrees
returns-in-Ok-clause-agrees c = λ none enough.
    c.languages_agree.ensures.values c.args.names.now c.args.world.now.0 (object_of c.args.form.now) (done c.in-Ok.evaluated c.evaluate.new.world.0) none c.in-Ok.ensures.gives enough

pub returns-in-Ok-clause-numbered : goal.returns-in-Ok-clause-numbered
returns-in-Ok-clause-numbered c = λ code refused.
    (c.values_are_those_of_evaluation.ensures.numbered c.args.names.now c.args.world.now.0 (object_of c.args.form.now) code refused).1

pub returns-in-Err-clause-numbered : goal.returns-in-Err-clause-numbered
returns-in-Err-clause-numbered c = λ code refused.
    (c.values_are_those_of_evaluation.ensures.numbered c.args.names.now c.args.world.now.0 (object_of c.args.form.now) code refused).1
