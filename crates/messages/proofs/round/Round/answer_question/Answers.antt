use Rattle.std.proofs.Common.{subst, sym, ◌∙◌, ap}
use Rattle.plist_state.specs.State.{Worlds}
use Rattle.messages.specs.Rounds.{MayBeLogged, round_in}
use Rattle.prevalence_store.specs.steps.Batch.{IsWorldMarked}
use Rattle.messages.proofs.Making.{asked_round, told_made}
use Rattle.messages.proofs.round.Round.answer_question.Goals as goal

pub returns-in-Ok-push-clause-answered : goal.returns-in-Ok-push-clause-answered
returns-in-Ok-push-clause-answered g c =
    let functions = g.R.Meaning.Meaning.functions in
    c.in-Ok-push.ensures.pushed c.answer_question.new.world.0
    ∙ asked_round functions c.clear.new.self (round_in c.args.self.now c.args.world.now.0) c.clear.new.world.0 c.answer_question.new.world.0 c.args.text.now c.in-Ok-answer_question.answer.items
    (ap (λ (s : Worlds). s.0) c.answer_question.ensures.same) c.in-Ok-answer_question.ensures.answer c.in-Ok.ensures.cleared

pub returns-in-Ok-push-clause-made : goal.returns-in-Ok-push-clause-made
returns-in-Ok-push-clause-made g c = λ first made.
    let functions = g.R.Meaning.Meaning.functions in
    subst (MayBeLogged functions first) (sym (c.in-Ok-push.ensures.pushed c.answer_question.new.world.0))
    (told_made functions c.clear.new.self first c.clear.new.world.0 c.answer_question.new.world.0 c.in-Ok-answer_question.answer.items
    (ap (λ (s : Worlds). s.0) c.answer_question.ensures.same) (c.in-Ok.ensures.made first made))

pub returns-in-Ok-push-clause-marks : goal.returns-in-Ok-push-clause-marks
returns-in-Ok-push-clause-marks g c = λ worlds marked.
    subst (λ (s : Worlds). IsWorldMarked worlds s.1) (sym c.answer_question.ensures.same) (c.clear.ensures.marks worlds marked)

pub returns-in-Err-push-clause-marks : goal.returns-in-Err-push-clause-marks
returns-in-Err-push-clause-marks g c = λ worlds marked.
    subst (λ (s : Worlds). IsWorldMarked worlds s.1) (sym c.answer_question.ensures.same) (c.clear.ensures.marks worlds marked)

pub returns-in-Err-answer_question-clause-marks : goal.returns-in-Err-answer_question-clause-marks
returns-in-Err-answer_question-clause-marks g c = λ worlds marked.
    subst (λ (s : Worlds). IsWorldMarked worlds s.1) (sym c.answer_question.ensures.same) (c.clear.ensures.marks worlds marked)
