use Rattle.std.proofs.Common.{[]}
use Rattle.form_reader.specs.Context.{setting}
use Rattle.form_reader.proofs.Readers.{brought, done_anew}
use Rattle.form_reader.proofs.Steps.{done_turns, done_nesting}
use Rattle.form_reader.proofs.step.change_of.Goals as goal

pub returns-in-Gives-clause-turns : goal.returns-in-Gives-clause-turns
returns-in-Gives-clause-turns g c = λ cs read brings.
    let setting = setting g.R.MacroFunctions.functions c.args.with.now in
    done_turns setting c.settle.new.stack c.args.start c.args.at cs read _ c.in-Gives.found c.done_after.result c.in-Gives.is (c.in_ok-state.ensures.settles cs read brings) (c.done_after.ensures.turns setting cs)

pub returns-in-Gives-clause-ready : goal.returns-in-Gives-clause-ready
returns-in-Gives-clause-ready g c =
    c.done_after.ensures.ready c.args.with.now.limits c.settle.new.stack
    (done_nesting c.args.with.now.limits c.settle.new.stack c.args.at _ _ c.in-Gives.is c.in_ok-state.ensures.ready)

pub returns-in-Gives-clause-anew : goal.returns-in-Gives-clause-anew
returns-in-Gives-clause-anew g c =
    let setting = setting g.R.MacroFunctions.functions c.args.with.now in
    let own = brought setting c.args.stack.now c.args.at c.args.event in
    done_anew setting c.settle.new.stack c.args.at _ c.in-Gives.found own.0 c.done_after.result c.in-Gives.is (c.in_ok-state.ensures.settles [] own.0 own.1) c.done_after.ensures.anew
