use Rattle.form_reader.specs.Context.{setting}
use Rattle.form_reader.proofs.Gathering.{goes_on, fails}
use Rattle.form_reader.proofs.gather.in_escaped.Goals as goal

pub returns-in-None-clause-brings : goal.returns-in-None-clause-brings
returns-in-None-clause-brings g c = λ stack cs open_calls.
    let setting = setting g.R.MacroFunctions.functions c.args.with.now in
    goes_on setting stack _ _ c.args.at c.args.c cs _ (rw c.in-None.is at (c.in_ok-escaped_byte.ensures.feeds cs))

pub returns-in-Some-clause-brings : goal.returns-in-Some-clause-brings
returns-in-Some-clause-brings g c = λ stack cs open_calls.
    let setting = setting g.R.MacroFunctions.functions c.args.with.now in
    fails setting stack _ _ c.args.at c.args.c cs c.in-Some.code (rw c.in-Some.is at (c.in_ok-escaped_byte.ensures.feeds cs))
