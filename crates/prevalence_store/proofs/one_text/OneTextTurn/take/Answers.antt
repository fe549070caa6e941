use Rattle.std.proofs.Common.{List, ap, subst}
use Rattle.std.proofs.lemmas.Result.{IfOk-weaker}
use Rattle.gate_log.specs.Layout.{LogRecord}
use Rattle.prevalence_store.specs.declared.outcome.Outcome.{Outcome}
use Rattle.prevalence_store.specs.meaning.Acceptance.{accepts}
use Rattle.prevalence_store.specs.steps.Batch.{entries_in, entries_of}
use Rattle.prevalence_store.specs.steps.Group.{IsTurn}
use Rattle.prevalence_store.proofs.steps.Turning.{text_again, text_fit}
use Rattle.prevalence_store.proofs.one_text.OneTextTurn.take.Goals as goal

pub returns-clause-again : goal.returns-clause-again
returns-clause-again g c =
    let functions = g.R.Meaning.Meaning.functions in
    let turn = c.args.self.now in
    let w = c.args.world.now.0 in
    let v = c.add_text.new.world.0 in
    let records = entries_in c.add_text.new.self in
    IfOk-weaker c.add_text.result (IsTurn turn.mode (accepts functions w turn.mode turn.text.now) w v (entries_in c.args.batch.now) records) _
    (λ (outcome : Outcome) turned. text_again functions turn.mode w turn.text.now v records outcome
    (subst (λ (es : List LogRecord). IsTurn turn.mode (accepts functions w turn.mode turn.text.now) w v es records outcome) (ap entries_of c.requires.none) turned)) c.add_text.ensures.turn

pub returns-clause-fit : goal.returns-clause-fit
returns-clause-fit g c =
    let functions = g.R.Meaning.Meaning.functions in
    let turn = c.args.self.now in
    let w = c.args.world.now.0 in
    let v = c.add_text.new.world.0 in
    let records = entries_in c.add_text.new.self in
    IfOk-weaker c.add_text.result (IsTurn turn.mode (accepts functions w turn.mode turn.text.now) w v (entries_in c.args.batch.now) records) _
    (λ (outcome : Outcome) turned. text_fit functions turn.mode w turn.text.now v records outcome
    (subst (λ (es : List LogRecord). IsTurn turn.mode (accepts functions w turn.mode turn.text.now) w v es records outcome) (ap entries_of c.requires.none) turned)) c.add_text.ensures.turn
