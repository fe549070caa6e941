use Rattle.form_reader.specs.Context.{setting}
use Rattle.form_reader.proofs.Values.{before_passes}
use Rattle.form_reader.proofs.step.feed.Goals as goal

pub returns-in-Gives-clause-passes : goal.returns-in-Gives-clause-passes
returns-in-Gives-clause-passes g c = λ cs.
    let setting = setting g.R.MacroFunctions.functions c.args.with.now in
    before_passes setting c.advance.new.stack _ c.args.at c.args.c cs c.in_ok-event.field-0 c.in-Before.event c.in-Gives.found _ c.after_found.result
    c.in-Before.is c.in-Gives.is (c.in_ok-event.ensures.moves cs) (c.after_found.ensures.passes cs)
