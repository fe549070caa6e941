use Rattle.form_reader.specs.Context.{setting}
use Rattle.form_reader.proofs.Objects.{token_fails, refused_told}
use Rattle.form_reader.proofs.token.token_end.Goals as goal

pub returns-in-Err-Refused-clause-brings : goal.returns-in-Err-Refused-clause-brings
returns-in-Err-Refused-clause-brings g c = λ stack cs.
    let setting = setting g.R.MacroFunctions.functions c.args.with.now in
    token_fails setting stack c.args.at cs c.args.marks.items _ c.requires.some
    (refused_told setting c.case-case.result c.args.marks.items _ _ c.case-case.ensures c.in-Err-Refused.field-0-is c.in-Err-Refused.ensures.tells)
