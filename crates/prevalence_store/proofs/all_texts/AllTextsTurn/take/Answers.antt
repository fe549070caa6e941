use Rattle.std.proofs.lemmas.Result.{IfOk-weaker}
use Rattle.std.specs.Global.{Vec}
use Rattle.prevalence_store.specs.declared.outcome.Outcome.{Outcome}
use Rattle.prevalence_store.specs.calls.ExecuteAll.{progress_of_texts}
use Rattle.prevalence_store.specs.steps.Batch.{entries_in}
use Rattle.prevalence_store.specs.steps.Group.{AreTextsEvaluated}
use Rattle.prevalence_store.proofs.steps.Turning.{texts_again, texts_fit}
use Rattle.prevalence_store.proofs.all_texts.AllTextsTurn.take.Goals as goal

pub returns-clause-again : goal.returns-clause-again
returns-clause-again g c =
    let turn = c.args.self.now in
    let w = c.args.world.now.0 in
    let v = c.evaluate_all.new.world.0 in
    let records = entries_in c.evaluate_all.new.batch in
    IfOk-weaker c.evaluate_all.result (λ (outcomes : Vec Outcome). AreTextsEvaluated (progress_of_texts g.R.Meaning.Meaning.functions w turn.mode turn.texts.now) outcomes.items v records) _
    (λ outcomes turns. texts_again g.R.Meaning.Meaning.functions turn.mode w turn.texts.now v records outcomes.items turns) c.evaluate_all.ensures.turns

pub returns-clause-fit : goal.returns-clause-fit
returns-clause-fit g c =
    let turn = c.args.self.now in
    let w = c.args.world.now.0 in
    let v = c.evaluate_all.new.world.0 in
    let records = entries_in c.evaluate_all.new.batch in
    IfOk-weaker c.evaluate_all.result (λ (outcomes : Vec Outcome). AreTextsEvaluated (progress_of_texts g.R.Meaning.Meaning.functions w turn.mode turn.texts.now) outcomes.items v records) _
    (λ outcomes turns. texts_fit g.R.Meaning.Meaning.functions turn.mode w turn.texts.now v records outcomes.items turns) c.evaluate_all.ensures.turns
