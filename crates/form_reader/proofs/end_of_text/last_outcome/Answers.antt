use Rattle.form_reader.specs.Context.{setting}
use Rattle.form_reader.proofs.EndOfText.{done_ends, done_refuses}
use Rattle.form_reader.proofs.end_of_text.last_outcome.Goals as goal

pub returns-in-Gives-clause-outcome : goal.returns-in-Gives-clause-outcome
returns-in-Gives-clause-outcome g c =
    let setting = setting g.R.MacroFunctions.functions c.args.with.now in
    done_ends setting _ c.args.at c.args.start _ c.in-Gives.found _ c.done_last.result c.in-Gives.is c.in_ok-settle_last.ensures.settles (c.done_last.ensures.outcome setting)

pub returns-in-Gives-clause-refuses : goal.returns-in-Gives-clause-refuses
returns-in-Gives-clause-refuses g c =
    let setting = setting g.R.MacroFunctions.functions c.args.with.now in
    done_refuses setting _ c.args.at c.args.start _ c.in-Gives.found _ c.done_last.result c.in-Gives.is c.in_ok-settle_last.ensures.settles (c.done_last.ensures.refuses setting)
