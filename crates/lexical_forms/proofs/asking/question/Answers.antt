use Rattle.std.proofs.Common.{◌++◌, ◌∷◌, [], ◌≡◌, IfOk, IfErr, ap, sym, subst, ◌∙◌}
use Rattle.lisp_object.specs.declared.datum.Datum.{Datum}
use Rattle.lisp_object.specs.Datum.{object_of}
use Rattle.plist_state.specs.State.{Worlds}
use Rattle.lisp_operators.specs.Evaluation.{Evaluation}
use Rattle.lisp_operators.specs.EvaluationAnswers.{Answers, done}
use Rattle.lisp_object.specs.Object.{Object}
use Rattle.form_eval.specs.Acceptance.{question_value}
use Rattle.form_eval.specs.Laws.{MayEvaluate}
use Rattle.lexical_evaluation.proofs.Outcomes.{keeps_value}
use Rattle.lexical_forms.specs.WithFunctions.{question_lexically}
use Rattle.lexical_forms.proofs.Again.{same_question}
use Rattle.lexical_forms.proofs.Both.{refused_stays, asks_again}
use Rattle.lexical_forms.proofs.asking.question.Goals as goal

pub returns-in-Ok-clause-gives : goal.returns-in-Ok-clause-gives
returns-in-Ok-clause-gives g c =
    let names = g.M.Meaning.functions.names in
    let s = c.args.world.now.0 in
    let x = object_of c.args.form.now.datum in
    keeps_value (question_value names s x) (question_lexically names s x) _ c.in-Ok.ensures.gives

pub returns-then-not-wants_function-clause-gives : goal.returns-then-not-wants_function-clause-gives
returns-then-not-wants_function-clause-gives g c =
    let names = g.M.Meaning.functions.names in
    let s = c.args.world.now.0 in
    let x = object_of c.args.form.now.datum in
    refused_stays (question_value names s x) (question_lexically names s x) c.question.new.world.0 c.in-Err.error c.in-Err.ensures.gives
    (sym c.wants_function.ensures ∙ c.if-not-wants_function.true)

pub ask_again-requires-clause-form : goal.ask_again-requires-clause-form
ask_again-requires-clause-form g c =
    let known = c.args.form.now.known in
    let copied : MayEvaluate c.args.world.now.0.packages (record { datum = c.in_ok-datum-in-Err.datum; known = known }) =
    subst (λ (d : Datum). MayEvaluate c.args.world.now.0.packages (record { datum = d; known = known })) (sym c.in_ok-datum-in-Err.ensures) c.requires.form in
    subst (λ (w : Worlds). MayEvaluate w.0.packages (record { datum = c.in_ok-datum-in-Err.datum; known = known })) (sym c.in-Err.ensures.unchanged) copied

pub returns-in_ok-datum-in-Err-clause-gives : goal.returns-in_ok-datum-in-Err-clause-gives
returns-in_ok-datum-in-Err-clause-gives g c =
    let names = g.M.Meaning.functions.names in
    let s = c.args.world.now.0 in
    let x = object_of c.args.form.now.datum in
    subst (λ (o : Evaluation Object). Answers done c.ask_again.result c.ask_again.new.world.0 o)
    (same_question names c.names-names.result.now s c.question.new.world.0 x (object_of c.in_ok-datum-in-Err.datum) c.names-names.ensures (ap (λ w. w.0) c.in-Err.ensures.unchanged) (ap object_of c.in_ok-datum-in-Err.ensures)
    ∙ asks_again (question_value names s x) (question_lexically names s x) c.question.new.world.0 c.in-Err.error c.in-Err.ensures.gives (sym c.wants_function.ensures ∙ c.if-not-wants_function.false))
    c.ask_again.ensures.gives

pub returns-in_ok-datum-in-Err-clause-marked : goal.returns-in_ok-datum-in-Err-clause-marked
returns-in_ok-datum-in-Err-clause-marked g c =
    subst (λ (w : Worlds). IfOk c.ask_again.result (λ _. c.ask_again.new.world.1 ≡ w.1 ++ w.0 ∷ [])) c.in-Err.ensures.unchanged c.ask_again.ensures.marked

pub returns-in_ok-datum-in-Err-clause-unchanged : goal.returns-in_ok-datum-in-Err-clause-unchanged
returns-in_ok-datum-in-Err-clause-unchanged g c =
    subst (λ (w : Worlds). IfErr c.ask_again.result (λ _. c.ask_again.new.world ≡ w)) c.in-Err.ensures.unchanged c.ask_again.ensures.unchanged
