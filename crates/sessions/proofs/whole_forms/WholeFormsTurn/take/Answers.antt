use Rattle.std.proofs.lemmas.Result.{IfOk-weaker}
use Rattle.prevalence_store.specs.steps.Batch.{entries_in}
use Rattle.sessions.specs.steps.Gather.{AreWholeFormsTaken}
use Rattle.sessions.proofs.Groups.{forms_again}
use Rattle.sessions.proofs.whole_forms.WholeFormsTurn.take.Goals as goal

pub returns-clause-again : goal.returns-clause-again
returns-clause-again g c =
    let functions = g.R.Meaning.Meaning.functions in
    let turn = c.args.self.now in
    let w = c.args.world.now.0 in
    let v = c.gather.new.world.0 in
    let records = entries_in c.gather.new.batch in
    IfOk-weaker c.gather.result (AreWholeFormsTaken functions turn w v records) _ (λ made taken. (forms_again functions turn w v records made c.requires.needs taken).0) c.gather.ensures.taken

pub returns-clause-fit : goal.returns-clause-fit
returns-clause-fit g c =
    let functions = g.R.Meaning.Meaning.functions in
    let turn = c.args.self.now in
    let w = c.args.world.now.0 in
    let v = c.gather.new.world.0 in
    let records = entries_in c.gather.new.batch in
    IfOk-weaker c.gather.result (AreWholeFormsTaken functions turn w v records) _ (λ made taken. (forms_again functions turn w v records made c.requires.needs taken).1) c.gather.ensures.taken
