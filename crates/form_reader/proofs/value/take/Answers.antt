use Rattle.form_reader.specs.Context.{setting}
use Rattle.form_reader.proofs.Values.{nothing_there, end_there, found_dot}
use Rattle.form_reader.proofs.value.take.Goals as goal

pub returns-in-Nothing-clause-takes : goal.returns-in-Nothing-clause-takes
returns-in-Nothing-clause-takes g c = λ cs.
    let setting = setting g.R.MacroFunctions.functions c.args.with.now in
    nothing_there setting c.args.at cs c.args.stack.now c.in-Nothing.token c.args.found c.in-Nothing.is c.requires.open

pub returns-in-LoneDot-clause-takes : goal.returns-in-LoneDot-clause-takes
returns-in-LoneDot-clause-takes g c = λ cs.
    let setting = setting g.R.MacroFunctions.functions c.args.with.now in
    found_dot setting c.args.at cs c.args.stack.now c.take_dot.new.stack c.args.found c.take_dot.result c.in-LoneDot.is (c.take_dot.ensures.takes setting cs c.requires.within)

pub returns-in-TheEnd-clause-takes : goal.returns-in-TheEnd-clause-takes
returns-in-TheEnd-clause-takes g c = λ cs.
    let setting = setting g.R.MacroFunctions.functions c.args.with.now in
    end_there setting c.args.at cs c.args.stack.now c.args.found c.in-TheEnd.is c.requires.open
