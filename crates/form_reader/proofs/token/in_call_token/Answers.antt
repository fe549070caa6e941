use Rattle.form_reader.specs.Context.{setting}
use Rattle.form_reader.proofs.Dispatches.{token_ends}
use Rattle.form_reader.proofs.token.in_call_token.Goals as goal

pub returns-in_ok-end_call-in-Ended-clause-moves : goal.returns-in_ok-end_call-in-Ended-clause-moves
returns-in_ok-end_call-in-Ended-clause-moves g c = λ stack cs open_calls.
    let setting = setting g.R.MacroFunctions.functions c.args.with.now in
    token_ends setting stack _ c.args.scan c.token_byte.new.scan c.into_marks.result.items c.in_ok-token_byte.field-0 c.args.at c.args.c cs c.in_ok-end_call-in-Ended.field-0
    c.in-Ended.is (c.in_ok-token_byte.ensures.feeds cs) c.into_marks.ensures.value (c.in_ok-end_call-in-Ended.ensures.brings stack _ open_calls)
