use Rattle.std.proofs.Common.{◌≡◌, ◌∙◌, true, Err, sym, subst}
use Rattle.form_eval.specs.Acceptance.{accept}
use Rattle.lisp_object.specs.Datum.{object_of}
use Rattle.lisp_operators.specs.EvaluationAnswers.{Answers, done}
use Rattle.lisp_operators.specs.declared.error.EvaluationError.{EvaluationError}
use Rattle.law_tests.proofs.carried_out.carried_out.Goals as goal

pub returns-in-Ok-clause-sound : goal.returns-in-Ok-clause-sound
returns-in-Ok-clause-sound g c = λ names_are.
    c.accepted_states_are_sound.ensures g.M.Meaning.functions.names c.args.world.now.0 (object_of c.args.form.now.datum) (done c.in-Ok.evaluated c.accept.new.world.0)
    names_are c.soundness.ensures.present c.requires.form c.in-Ok.ensures.gives

pub returns-in-Ok-clause-covered : goal.returns-in-Ok-clause-covered
returns-in-Ok-clause-covered g c =
    c.accepted_readtables_are_covered.ensures g.M.Meaning.functions.names c.args.world.now.0 (object_of c.args.form.now.datum) (done c.in-Ok.evaluated c.accept.new.world.0) c.in-Ok.ensures.gives

pub returns-in-Ok-clause-silent : goal.returns-in-Ok-clause-silent
returns-in-Ok-clause-silent g c =
    c.silent_forms_change_nothing.ensures g.M.Meaning.functions.names c.args.world.now.0 (object_of c.args.form.now.datum) (done c.in-Ok.evaluated c.accept.new.world.0) c.in-Ok.ensures.gives

pub returns-in-Ok-clause-baseless : goal.returns-in-Ok-clause-baseless
returns-in-Ok-clause-baseless g c = λ d is.
    let both = sym c.in-Ok.ensures.gives ∙ (c.without_a_base.ensures g.M.Meaning.functions.names c.args.world.now.0 (object_of c.args.form.now.datum) d is).0 in
    let same : done c.in-Ok.evaluated c.accept.new.world.0 ≡ d = cc in same

pub returns-in-Ok-clause-earlier : goal.returns-in-Ok-clause-earlier
returns-in-Ok-clause-earlier g c = λ d is.
    let both = sym c.in-Ok.ensures.gives ∙ c.more_operators_change_no_form.ensures.before_deciding true g.M.Meaning.functions.names c.args.world.now.0 (object_of c.args.form.now.datum) d is in
    let same : done c.in-Ok.evaluated c.accept.new.world.0 ≡ d = cc in same

pub returns-in-Ok-clause-asked : goal.returns-in-Ok-clause-asked
returns-in-Ok-clause-asked g c =
    let same = c.questions_are_answered_as_forms.ensures g.M.Meaning.functions.names c.args.world.now.0 (object_of c.args.form.now.datum) in
    (same.0, sym same.1 ∙ c.in-Ok.ensures.gives)

pub returns-in-Err-clause-number : goal.returns-in-Err-clause-number
returns-in-Err-clause-number g c = λ code is.
    c.refusals_are_of_evaluation.ensures g.M.Meaning.functions.names c.args.world.now.0 (object_of c.args.form.now.datum) code
    (subst (λ (e : EvaluationError). Answers done (Err e) c.accept.new.world.0 (accept g.M.Meaning.functions.names c.args.world.now.0 (object_of c.args.form.now.datum))) is c.in-Err.ensures.gives)
