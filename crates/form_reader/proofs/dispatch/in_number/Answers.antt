use Rattle.form_reader.specs.Context.{setting}
use Rattle.form_reader.proofs.Gathering.{goes_on, fails}
use Rattle.form_reader.proofs.Dispatches.{number_ended, number_of}
use Rattle.form_reader.proofs.dispatch.in_number.Goals as goal

pub returns-in-More-clause-brings : goal.returns-in-More-clause-brings
returns-in-More-clause-brings g c = λ cs.
    let setting = setting g.R.MacroFunctions.functions c.args.with.now in
    goes_on setting c.args.stack.now _ _ c.args.at c.args.c cs _ (c.in-More.ensures.feeds cs)

pub returns-in-Ended-clause-brings : goal.returns-in-Ended-clause-brings
returns-in-Ended-clause-brings g c = λ cs.
    let setting = setting g.R.MacroFunctions.functions c.args.with.now in
    number_ended setting c.args.stack.now _ c.args.character c.args.at c.args.c c.args.number _ cs c.sub_byte.result (c.in-Ended.ensures.feeds cs) (number_of setting c.args.stack.now _ _ _ c.args.at c.args.c _ cs c.sub_byte.result c.get.ensures.value (c.sub_byte.ensures.brings cs))

pub returns-in-Refused-clause-brings : goal.returns-in-Refused-clause-brings
returns-in-Refused-clause-brings g c = λ cs.
    let setting = setting g.R.MacroFunctions.functions c.args.with.now in
    fails setting c.args.stack.now _ _ c.args.at c.args.c cs c.in-Refused.code (c.in-Refused.ensures.feeds cs)
