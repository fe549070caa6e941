use Rattle.form_reader.specs.Context.{setting}
use Rattle.form_reader.proofs.Steps.{nothing_before, nothing_starts}
use Rattle.form_reader.proofs.step.done_before.Goals as goal

pub returns-in-Nothing-clause-turns : goal.returns-in-Nothing-clause-turns
returns-in-Nothing-clause-turns g c = λ cs.
    let setting = setting g.R.MacroFunctions.functions c.args.with.now in
    nothing_before setting c.args.start c.args.at c.args.c cs c.args.found _ _ c.first_change.result c.in-Nothing.is (c.first_change.ensures.turns cs)

pub returns-in-Nothing-clause-starts : goal.returns-in-Nothing-clause-starts
returns-in-Nothing-clause-starts g c =
    let setting = setting g.R.MacroFunctions.functions c.args.with.now in
    nothing_starts setting c.args.found _ c.args.start c.args.at c.args.c c.first_change.result c.in-Nothing.is c.first_change.ensures.starts
