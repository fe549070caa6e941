use Rattle.form_reader.specs.Context.{setting}
use Rattle.form_reader.proofs.Dispatches.{token_at, escaped_at, nothing_at, opened_at}
use Rattle.form_reader.proofs.dispatch.gather.Goals as goal

pub returns-in-Nothing-clause-gathers : goal.returns-in-Nothing-clause-gathers
returns-in-Nothing-clause-gathers g c = λ cs.
    let setting = setting g.R.MacroFunctions.functions c.args.with.now in
    nothing_at setting c.args.stack.now c.args.call c.args.way c.args.at cs c.end_call.result c.in-Nothing.is (c.end_call.ensures.brings c.args.stack.now cs c.len.ensures)

pub returns-in-Token-clause-gathers : goal.returns-in-Token-clause-gathers
returns-in-Token-clause-gathers g c = λ cs.
    token_at _ c.args.stack.now c.args.call c.args.way c.args.at cs c.begin-scan.result c.in-Token.is c.begin-scan.ensures.value

pub returns-in-EscapedToken-clause-gathers : goal.returns-in-EscapedToken-clause-gathers
returns-in-EscapedToken-clause-gathers g c = λ cs.
    escaped_at _ c.args.stack.now c.args.call c.args.way c.args.at cs c.begin_escaped-scan.result c.in-EscapedToken.is c.begin_escaped-scan.ensures.value

pub returns-in-Next-clause-gathers : goal.returns-in-Next-clause-gathers
returns-in-Next-clause-gathers g c = λ cs.
    let setting = setting g.R.MacroFunctions.functions c.args.with.now in
    opened_at setting c.args.stack.now c.args.call c.args.way c.args.at cs _ _ c.open_call.result c.in-Next.is (c.open_call.ensures.gathers cs)

pub returns-in-List-clause-gathers : goal.returns-in-List-clause-gathers
returns-in-List-clause-gathers g c = λ cs.
    let setting = setting g.R.MacroFunctions.functions c.args.with.now in
    opened_at setting c.args.stack.now c.args.call c.args.way c.args.at cs _ _ c.open_call-in-List.result c.in-List.is (c.open_call-in-List.ensures.gathers cs)

pub returns-in-Until-clause-gathers : goal.returns-in-Until-clause-gathers
returns-in-Until-clause-gathers g c = λ cs.
    let setting = setting g.R.MacroFunctions.functions c.args.with.now in
    opened_at setting c.args.stack.now c.args.call c.args.way c.args.at cs _ _ c.open_call-in-Until.result c.in-Until.is (c.open_call-in-Until.ensures.gathers cs)
