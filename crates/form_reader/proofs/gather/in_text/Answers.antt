use Rattle.std.proofs.Common.{◌+◌, ◌∷◌}
use Rattle.form_reader.specs.Context.{setting}
use Rattle.form_reader.proofs.Gathering.{goes_on, fails, ends}
use Rattle.form_reader.proofs.gather.in_text.Goals as goal

pub returns-in-More-clause-brings : goal.returns-in-More-clause-brings
returns-in-More-clause-brings g c = λ stack cs open_calls.
    let setting = setting g.R.MacroFunctions.functions c.args.with.now in
    goes_on setting stack _ _ c.args.at c.args.c cs _ (rw c.in-More.is at (c.in_ok-text_byte.ensures.feeds cs))

pub returns-in-Escape-clause-brings : goal.returns-in-Escape-clause-brings
returns-in-Escape-clause-brings g c = λ stack cs open_calls.
    let setting = setting g.R.MacroFunctions.functions c.args.with.now in
    goes_on setting stack _ _ c.args.at c.args.c cs _ (rw c.in-Escape.is at (c.in_ok-text_byte.ensures.feeds cs))

pub returns-in_ok-into_bytes-in-Ended-clause-brings : goal.returns-in_ok-into_bytes-in-Ended-clause-brings
returns-in_ok-into_bytes-in-Ended-clause-brings g c = λ stack cs open_calls.
    let setting = setting g.R.MacroFunctions.functions c.args.with.now in
    ends setting stack _ _ _ c.in_ok-into_bytes-in-Ended.field-0 c.args.at (c.args.at + 1) (c.args.c ∷ cs) cs c.end_call.result (rw c.in-Ended.is at (c.in_ok-text_byte.ensures.feeds cs)) c.in_ok-into_bytes-in-Ended.ensures.value (c.end_call.ensures.brings stack cs open_calls)

pub returns-in-Refused-clause-brings : goal.returns-in-Refused-clause-brings
returns-in-Refused-clause-brings g c = λ stack cs open_calls.
    let setting = setting g.R.MacroFunctions.functions c.args.with.now in
    fails setting stack _ _ c.args.at c.args.c cs c.in-Refused.code (rw c.in-Refused.is at (c.in_ok-text_byte.ensures.feeds cs))
