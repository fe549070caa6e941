use Rattle.std.proofs.Common.{[], ap, ◌∙◌}
use Rattle.form_reader.specs.declared.state.State.{State}
use Rattle.form_reader.specs.Context.{setting}
use Rattle.form_reader.specs.State.{state_gives}
use Rattle.form_reader.proofs.EndOfText.{state_last, text_fails, byte_fails, block_fails, number_fails}
use Rattle.form_reader.proofs.end_of_text.last.Goals as goal

pub returns-in-Token-clause-brings : goal.returns-in-Token-clause-brings
returns-in-Token-clause-brings g c = λ stack open_calls.
    let setting = setting g.R.MacroFunctions.functions c.args.with.now in
    state_last setting stack c.args.at c.args.state _ c.last_token.result c.in-Token.is (c.last_token.ensures.brings stack)

pub returns-in-Text-clause-brings : goal.returns-in-Text-clause-brings
returns-in-Text-clause-brings g c = λ stack open_calls.
    let setting = setting g.R.MacroFunctions.functions c.args.with.now in
    ap (λ (s : State). state_gives setting stack s c.args.at []) c.in-Text.is ∙ text_fails setting stack c.args.at _ _ _ c.requires.within

pub returns-in-Escaped-clause-brings : goal.returns-in-Escaped-clause-brings
returns-in-Escaped-clause-brings g c = λ stack open_calls.
    let setting = setting g.R.MacroFunctions.functions c.args.with.now in
    ap (λ (s : State). state_gives setting stack s c.args.at []) c.in-Escaped.is ∙ byte_fails setting stack c.args.at _ _

pub returns-in-Block-clause-brings : goal.returns-in-Block-clause-brings
returns-in-Block-clause-brings g c = λ stack open_calls.
    let setting = setting g.R.MacroFunctions.functions c.args.with.now in
    ap (λ (s : State). state_gives setting stack s c.args.at []) c.in-Block.is ∙ block_fails setting stack c.args.at _ _ c.requires.within

pub returns-clause-brings : goal.returns-clause-brings
returns-clause-brings g c = λ stack open_calls.
    let setting = setting g.R.MacroFunctions.functions c.args.with.now in
    ap (λ (s : State). state_gives setting stack s c.args.at []) c.in-Number.is ∙ number_fails setting stack c.args.at _ _ c.requires.within
