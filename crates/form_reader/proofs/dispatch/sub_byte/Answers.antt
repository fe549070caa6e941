use Rattle.std.proofs.Common.{arith, sym, ◌∙◌}
use Rattle.form_reader.specs.Context.{setting}
use Rattle.readtable_core.proofs.Sound.{upper_is}
use Rattle.form_reader.proofs.Dispatches.{sub_over, sub_invalid, sub_none, sub_some}
use Rattle.form_reader.proofs.dispatch.sub_byte.Goals as goal

pub returns-then-at-with-clause-brings : goal.returns-then-at-with-clause-brings
returns-then-at-with-clause-brings g c = λ cs.
    let setting = setting g.R.MacroFunctions.functions c.args.with.now in
    sub_over setting c.args.stack.now c.args.character c.args.at c.args.c c.args.number cs c.if-at-with.true

pub returns-then-c-ge128-clause-brings : goal.returns-then-c-ge128-clause-brings
returns-then-c-ge128-clause-brings g c = λ cs.
    let setting = setting g.R.MacroFunctions.functions c.args.with.now in
    sub_invalid setting c.args.stack.now c.args.character c.args.at c.args.c c.args.number cs (omega (arith, c.if-at-with.false)) c.if-c-ge128.true

pub returns-in-None-clause-brings : goal.returns-in-None-clause-brings
returns-in-None-clause-brings g c = λ cs.
    let setting = setting g.R.MacroFunctions.functions c.args.with.now in
    sub_none setting c.args.stack.now c.args.character c.args.at c.args.c c.args.number cs (omega (arith, c.if-at-with.false)) (omega (arith, c.if-c-ge128.false)) (sym c.dispatch_of.ensures ∙ c.in-None.is)

pub returns-in-Some-clause-brings : goal.returns-in-Some-clause-brings
returns-in-Some-clause-brings g c = λ cs.
    let setting = setting g.R.MacroFunctions.functions c.args.with.now in
    sub_some setting c.args.stack.now c.args.character c.args.at c.args.c c.args.number cs _ c.in-Some.name c.function_of-function.result c.to_ascii_uppercase-sub.result c.get.result c.of_sub-call.result c.begin_call.result
    (omega (arith, c.if-at-with.false)) (omega (arith, c.if-c-ge128.false)) (sym c.dispatch_of.ensures ∙ c.in-Some.is) c.function_of-function.ensures (c.to_ascii_uppercase-sub.ensures.value ∙ upper_is c.args.c) c.get.ensures.value c.of_sub-call.ensures (c.begin_call.ensures.begins cs)
