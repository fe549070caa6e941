use Rattle.std.proofs.lemmas.Result.{IfOk-weaker}
use Rattle.client_table.specs.Turn.{MakesAnswers}
use Rattle.prevalence_store.specs.steps.Batch.{entries_in}
use Rattle.client_table.proofs.Settling.{replies_again}
use Rattle.client_table.proofs.turn.FirstAskedTurn.take.Goals as goal

pub returns-clause-again : goal.returns-clause-again
returns-clause-again g c =
    let functions = g.R.Meaning.Meaning.functions in
    let turn = c.args.self.now in
    let w = c.args.world.now.0 in
    let v = c.answer.new.world.0 in
    let records = entries_in c.answer.new.batch in
    IfOk-weaker c.answer.result (MakesAnswers functions turn w v records) _ (λ made is. (replies_again functions turn w v records made is).0) c.answer.ensures.made

pub returns-clause-fit : goal.returns-clause-fit
returns-clause-fit g c =
    let functions = g.R.Meaning.Meaning.functions in
    let turn = c.args.self.now in
    let w = c.args.world.now.0 in
    let v = c.answer.new.world.0 in
    let records = entries_in c.answer.new.batch in
    IfOk-weaker c.answer.result (MakesAnswers functions turn w v records) _ (λ made is. (replies_again functions turn w v records made is).1) c.answer.ensures.made
