use Rattle.std.proofs.Common.{Err, subst}
use Rattle.lisp_object.specs.Datum.{object_of}
use Rattle.lisp_operators.specs.EvaluationAnswers.{Answers, done}
use Rattle.lisp_operators.specs.declared.error.EvaluationError.{EvaluationError}
use Rattle.lexical_forms.specs.WithFunctions.{accept_with_functions}
use Rattle.lexical_forms.proofs.callers.accepted_with_functions.Goals as goal

pub returns-in-Ok-clause-silent : goal.returns-in-Ok-clause-silent
returns-in-Ok-clause-silent g c = λ none.
    c.silent_forms_change_nothing.ensures g.M.Meaning.functions.names c.args.world.now.0 (object_of c.args.form.now.datum)
    (done c.in-Ok.evaluated c.accept.new.world.0) c.in-Ok.ensures.gives none

pub returns-in-Ok-clause-covered : goal.returns-in-Ok-clause-covered
returns-in-Ok-clause-covered g c = λ before.
    c.accepted_readtables_are_covered.ensures g.M.Meaning.functions.names c.args.world.now.0 (object_of c.args.form.now.datum)
    (done c.in-Ok.evaluated c.accept.new.world.0) c.in-Ok.ensures.gives before

pub returns-in-Err-clause-numbered : goal.returns-in-Err-clause-numbered
returns-in-Err-clause-numbered g c = λ code is.
    c.refusals_are_of_evaluation.ensures g.M.Meaning.functions.names c.args.world.now.0 (object_of c.args.form.now.datum) code
    (subst (λ (e : EvaluationError). Answers done (Err e) c.accept.new.world.0 (accept_with_functions g.M.Meaning.functions.names c.args.world.now.0 (object_of c.args.form.now.datum)))
    is c.in-Err.ensures.gives)
