use Rattle.std.proofs.Common.{◌<◌, List, [], length, ap, sym, subst, ◌∙◌, None, Some}
use Rattle.token_scan.specs.declared.mark.Mark.{Mark}
use Rattle.token_scan.proofs.Forwards.{begun_has_mark}
use Rattle.token_scan.specs.ByteByByte.{Scan}
use Rattle.form_reader.specs.Context.{setting}
use Rattle.form_reader.specs.EndOfText.{TokenStops}
use Rattle.form_reader.proofs.EndOfText.{token_last, token_stopped}
use Rattle.form_reader.proofs.end_of_text.last_token.Goals as goal

pub returns-in-None-clause-brings : goal.returns-in-None-clause-brings
returns-in-None-clause-brings g c = λ stack.
    let setting = setting g.R.MacroFunctions.functions c.args.with.now in
    token_last setting stack c.args.at _ c.args.scan _ c.token_end.result
    (subst (λ (s : Scan). TokenStops setting.table setting.limits s c.args.at None) c.into_scan-scan.ensures.value (c.in-None.ensures.stops setting.table))
    (c.into_marks.ensures.value ∙ ap (λ (s : Scan). s.marks) (c.token_stop.ensures.same c.in-None.is ∙ c.into_scan-scan.ensures.value)) (c.token_end.ensures.brings stack [])

pub returns-in-Some-clause-brings : goal.returns-in-Some-clause-brings
returns-in-Some-clause-brings g c = λ stack.
    let setting = setting g.R.MacroFunctions.functions c.args.with.now in
    token_stopped setting stack c.args.at c.args.scan _ c.in-Some.code
    (subst (λ (s : Scan). TokenStops setting.table setting.limits s c.args.at (Some c.in-Some.code)) c.into_scan-scan.ensures.value (c.in-Some.ensures.stops setting.table))

pub token_end-requires-clause-some : goal.token_end-requires-clause-some
token_end-requires-clause-some g c =
    subst (λ (ms : List Mark). 0 < length ms) (sym (c.into_marks.ensures.value ∙ ap (λ (s : Scan). s.marks) (c.token_stop.ensures.same c.in-None.is)))
    (begun_has_mark c.into_scan-scan.result c.into_scan-scan.ensures.begun (c.in-None.ensures.stops c.args.with.now.readtable.now).1)
