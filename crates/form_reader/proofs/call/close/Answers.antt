use Rattle.std.proofs.Common.{arith}
use Rattle.form_reader.specs.Context.{setting}
use Rattle.form_reader.proofs.Calls.{next_closes, dotted_closes, list_closes, until_closes, tailed_closes}
use Rattle.form_reader.proofs.call.close.Goals as goal

pub returns-in-Next-clause-brings : goal.returns-in-Next-clause-brings
returns-in-Next-clause-brings g c = λ stack cs open_calls.
    let setting = setting g.R.MacroFunctions.functions c.args.with.now in
    next_closes setting stack c.args.frame.call c.args.at cs c.args.frame.part c.in-Next.is

pub returns-in-List-clause-brings : goal.returns-in-List-clause-brings
returns-in-List-clause-brings g c = λ stack cs open_calls.
    let setting = setting g.R.MacroFunctions.functions c.args.with.now in
    list_closes setting stack c.args.frame.call c.args.at cs c.args.frame.part c.in-List.items _ c.end_call.result c.in-List.is c.into_items.ensures.objects (c.end_call.ensures.brings stack cs open_calls)

pub returns-in-Until-clause-brings : goal.returns-in-Until-clause-brings
returns-in-Until-clause-brings g c = λ stack cs open_calls.
    let setting = setting g.R.MacroFunctions.functions c.args.with.now in
    until_closes setting stack c.args.frame.call c.args.at cs c.args.frame.part _ _ _ c.end_call-in-Until.result c.in-Until.is c.into_items-in-Until.ensures.objects (c.end_call-in-Until.ensures.brings stack cs open_calls)

pub returns-in-Dotted-clause-brings : goal.returns-in-Dotted-clause-brings
returns-in-Dotted-clause-brings g c = λ stack cs open_calls.
    let setting = setting g.R.MacroFunctions.functions c.args.with.now in
    dotted_closes setting stack c.args.frame.call c.args.at cs c.args.frame.part _ c.saturating_sub.result c.in-Dotted.is (omega (arith, c.saturating_sub.ensures))

pub returns-clause-brings : goal.returns-clause-brings
returns-clause-brings g c = λ stack cs open_calls.
    let setting = setting g.R.MacroFunctions.functions c.args.with.now in
    tailed_closes setting stack c.args.frame.call c.args.at cs c.args.frame.part c.in-Tailed.items _ c.in-Tailed.tail _ c.end_call-in-Tailed.result c.in-Tailed.is c.into_items-items.ensures.objects c.into_datum-tail.ensures.object (c.end_call-in-Tailed.ensures.brings stack cs open_calls)
