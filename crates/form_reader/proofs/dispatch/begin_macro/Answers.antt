use Rattle.std.proofs.Common.{arith, sym, ◌∙◌}
use Rattle.form_reader.specs.Context.{setting}
use Rattle.form_reader.proofs.Dispatches.{none_called, character_called}
use Rattle.form_reader.proofs.dispatch.begin_macro.Goals as goal

pub returns-in-None-clause-brings : goal.returns-in-None-clause-brings
returns-in-None-clause-brings g c = λ cs.
    let setting = setting g.R.MacroFunctions.functions c.args.with.now in
    none_called setting c.args.stack.now c.args.c c.args.at cs _ c.saturating_sub.result (sym c.macro_of.ensures ∙ c.in-None.is) (omega (arith, c.saturating_sub.ensures))

pub returns-else-is_dispatch-clause-brings : goal.returns-else-is_dispatch-clause-brings
returns-else-is_dispatch-clause-brings g c = λ cs.
    let setting = setting g.R.MacroFunctions.functions c.args.with.now in
    character_called setting c.args.stack.now c.args.c c.args.at cs _ _ c.in-Some.name c.function_of.result c.of_macro.result c.begin_call.result
    (sym c.macro_of.ensures ∙ c.in-Some.is) (sym c.is_dispatch.ensures ∙ c.if-is_dispatch.false) c.function_of.ensures c.of_macro.ensures (c.begin_call.ensures.begins cs)
