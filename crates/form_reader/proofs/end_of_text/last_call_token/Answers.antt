use Rattle.std.proofs.Common.{[], ap, ◌∙◌}
use Rattle.token_scan.specs.ByteByByte.{Scan}
use Rattle.form_reader.specs.Context.{setting}
use Rattle.form_reader.proofs.EndOfText.{token_last, token_stopped}
use Rattle.form_reader.proofs.end_of_text.last_call_token.Goals as goal

pub returns-in-None-clause-brings : goal.returns-in-None-clause-brings
returns-in-None-clause-brings g c = λ stack open_calls.
    let setting = setting g.R.MacroFunctions.functions c.args.with.now in
    token_last setting stack c.args.at _ c.args.scan c.into_marks.result.items c.end_call.result
    (c.in-None.ensures.stops setting.table) (c.into_marks.ensures.value ∙ ap (λ (s : Scan). s.marks) (c.token_stop.ensures.same c.in-None.is))
    (c.end_call.ensures.brings stack [] open_calls)

pub returns-in-Some-clause-brings : goal.returns-in-Some-clause-brings
returns-in-Some-clause-brings g c = λ stack open_calls.
    let setting = setting g.R.MacroFunctions.functions c.args.with.now in
    token_stopped setting stack c.args.at c.args.scan _ c.in-Some.code (c.in-Some.ensures.stops setting.table)
