use Rattle.std.proofs.Common.{Err, subst}
use Rattle.lisp_object.specs.Datum.{object_of}
use Rattle.lisp_operators.specs.EvaluationAnswers.{Answers, done}
use Rattle.lisp_operators.specs.declared.error.EvaluationError.{EvaluationError}
use Rattle.form_eval.specs.Acceptance.{accept}
use Rattle.lexical_forms.proofs.callers.accepted.Goals as goal

pub returns-in-Ok-clause-value : goal.returns-in-Ok-clause-value
returns-in-Ok-clause-value g c =
    c.functions_change_no_form.ensures.accepted g.M.Meaning.functions.names c.args.world.now.0 (object_of c.args.form.now.datum)
    (done c.in-Ok.evaluated c.accept.new.world.0) c.in-Ok.ensures.gives

pub returns-in-Err-clause-refusal : goal.returns-in-Err-clause-refusal
returns-in-Err-clause-refusal g c = λ code is other.
    c.functions_change_no_form.ensures.refused g.M.Meaning.functions.names c.args.world.now.0 (object_of c.args.form.now.datum) code
    (subst (λ (e : EvaluationError). Answers done (Err e) c.accept.new.world.0 (accept g.M.Meaning.functions.names c.args.world.now.0 (object_of c.args.form.now.datum)))
    is c.in-Err.ensures.gives) other
