use Rattle.std.proofs.Common.{Err, Option, ◌≡◌, ap, sym, subst, ◌∙◌}
use Rattle.lisp_object.specs.declared.datum.Datum.{Datum}
use Rattle.lisp_object.specs.Datum.{object_of}
use Rattle.lisp_object.specs.Object.{Object}
use Rattle.plist_state.specs.State.{Worlds}
use Rattle.lisp_operators.specs.Evaluation.{Evaluation}
use Rattle.lisp_operators.specs.EvaluationAnswers.{Answers, done}
use Rattle.evaluator.specs.FormsGivenBack.{GivesBack}
use Rattle.form_eval.specs.Acceptance.{accept}
use Rattle.form_eval.specs.Laws.{MayEvaluate}
use Rattle.lexical_forms.specs.WithFunctions.{accept_lexically}
use Rattle.lexical_forms.proofs.Again.{same_again}
use Rattle.lexical_forms.proofs.Both.{left_given, left_refused, left_again_given, left_again_refused}
use Rattle.lexical_forms.proofs.application.apply.Goals as goal

pub returns-in-Ok-clause-gives : goal.returns-in-Ok-clause-gives
returns-in-Ok-clause-gives g c =
    let names = g.M.Meaning.functions.names in
    let s = c.args.world.now.0 in
    let x = object_of c.args.form.datum in
    left_given (accept names s x) (accept_lexically names s x) c.apply_keeping.new.world.0 c.in-Ok.wrote c.in-Ok.ensures.gives

pub returns-in-None-clause-gives : goal.returns-in-None-clause-gives
returns-in-None-clause-gives g c =
    let names = g.M.Meaning.functions.names in
    let s = c.args.world.now.0 in
    let x = object_of c.args.form.datum in
    left_refused (accept names s x) (accept_lexically names s x) c.apply_keeping.new.world.0 c.in-Err.refused.0 c.in-Err.ensures.gives
    (subst (λ (o : Option Datum). GivesBack c.args.form.datum (c.in-Err.refused.0, o)) c.in-None.is c.in-Err.ensures.kept)

pub returns-then-not-wants_function-clause-gives : goal.returns-then-not-wants_function-clause-gives
returns-then-not-wants_function-clause-gives g c =
    let names = g.M.Meaning.functions.names in
    let s = c.args.world.now.0 in
    let x = object_of c.args.form.datum in
    left_refused (accept names s x) (accept_lexically names s x) c.apply_keeping.new.world.0 c.in-Err.refused.0 c.in-Err.ensures.gives
    (sym c.wants_function.ensures ∙ c.if-not-wants_function.true)

pub accept_again-requires-clause-form : goal.accept_again-requires-clause-form
accept_again-requires-clause-form g c =
    let known = c.args.form.known in
    let back : c.in-Some.datum ≡ c.args.form.datum = subst (λ (o : Option Datum). GivesBack c.args.form.datum (c.in-Err.refused.0, o)) c.in-Some.is c.in-Err.ensures.kept in
    let same : MayEvaluate c.args.world.now.0.packages (record { datum = c.in-Some.datum; known = known }) =
    subst (λ (d : Datum). MayEvaluate c.args.world.now.0.packages (record { datum = d; known = known })) (sym back) c.requires.form in
    subst (λ (w : Worlds). MayEvaluate w.0.packages (record { datum = c.in-Some.datum; known = known })) (sym c.in-Err.ensures.unchanged) same

pub returns-in-Ok-accept_again-clause-gives : goal.returns-in-Ok-accept_again-clause-gives
returns-in-Ok-accept_again-clause-gives g c =
    let names = g.M.Meaning.functions.names in
    let s = c.args.world.now.0 in
    let x = object_of c.args.form.datum in
    let back : c.in-Some.datum ≡ c.args.form.datum = subst (λ (o : Option Datum). GivesBack c.args.form.datum (c.in-Err.refused.0, o)) c.in-Some.is c.in-Err.ensures.kept in
    left_again_given (accept names s x) (accept_lexically names s x) c.apply_keeping.new.world.0 c.accept_again.new.world.0 c.in-Err.refused.0 c.in-Err.ensures.gives
    (sym c.wants_function.ensures ∙ c.if-not-wants_function.false) c.in-Ok-accept_again.evaluated
    (sym (same_again names c.names-names.result.now s c.apply_keeping.new.world.0 x (object_of c.in-Some.datum) c.names-names.ensures (ap (λ w. w.0) c.in-Err.ensures.unchanged) (ap object_of back))
    ∙ c.in-Ok-accept_again.ensures.gives)

pub returns-in-Err-accept_again-clause-gives : goal.returns-in-Err-accept_again-clause-gives
returns-in-Err-accept_again-clause-gives g c =
    let names = g.M.Meaning.functions.names in
    let s = c.args.world.now.0 in
    let x = object_of c.args.form.datum in
    let back : c.in-Some.datum ≡ c.args.form.datum = subst (λ (o : Option Datum). GivesBack c.args.form.datum (c.in-Err.refused.0, o)) c.in-Some.is c.in-Err.ensures.kept in
    left_again_refused (accept names s x) (accept_lexically names s x) c.apply_keeping.new.world.0 c.accept_again.new.world.0 c.in-Err.refused.0 c.in-Err.ensures.gives
    (sym c.wants_function.ensures ∙ c.if-not-wants_function.false) c.in-Err-accept_again.error
    (subst (λ (o : Evaluation Object). Answers done (Err c.in-Err-accept_again.error) c.accept_again.new.world.0 o)
    (same_again names c.names-names.result.now s c.apply_keeping.new.world.0 x (object_of c.in-Some.datum) c.names-names.ensures (ap (λ w. w.0) c.in-Err.ensures.unchanged) (ap object_of back))
    c.in-Err-accept_again.ensures.gives)
