use Rattle.std.proofs.Common.{Bool, sym, subst, ◌∙◌}
use Rattle.std.specs.Prelude.{if◌then◌else◌}
use Rattle.lisp_object.specs.Datum.{object_of}
use Rattle.lisp_operators.specs.EvaluationAnswers.{Answers, done}
use Rattle.form_eval.specs.Acceptance.{question_value}
use Rattle.prevalence_store.specs.meaning.Forgetting.{counting}
use Rattle.prevalence_store.proofs.transaction.ask.Goals as goal

pub returns-then-is_forgetting-clause-gives : goal.returns-then-is_forgetting-clause-gives
returns-then-is_forgetting-clause-gives g c =
    let w = c.args.world.now.0 in
    subst (λ (forgets : Bool). Answers done c.count_names.result c.count_names.new.world.0 (if forgets then counting w else question_value g.R.Meaning.Meaning.functions.names w (object_of c.args.form.now.datum)))
    (sym (sym c.is_forgetting.ensures ∙ c.if-is_forgetting.true)) c.count_names.ensures.gives

pub returns-clause-gives : goal.returns-clause-gives
returns-clause-gives g c =
    let w = c.args.world.now.0 in
    subst (λ (forgets : Bool). Answers done c.question.result c.question.new.world.0 (if forgets then counting w else question_value g.R.Meaning.Meaning.functions.names w (object_of c.args.form.now.datum)))
    (sym (sym c.is_forgetting.ensures ∙ c.if-is_forgetting.false)) c.question.ensures.gives
