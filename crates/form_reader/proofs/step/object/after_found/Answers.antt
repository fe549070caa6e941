use Rattle.form_reader.specs.Context.{setting}
use Rattle.form_reader.proofs.Values.{done_told}
use Rattle.form_reader.proofs.step.object.after_found.Goals as goal

pub returns-in-Gives-clause-passes : goal.returns-in-Gives-clause-passes
returns-in-Gives-clause-passes g c = λ cs.
    let setting = setting g.R.MacroFunctions.functions c.args.with.now in
    done_told setting c.return_value.new.stack c.args.at _ _ c.in_ok-token.field-0 c.in-Gives.found c.in-Gives.is (c.in_ok-token.ensures.value _)
