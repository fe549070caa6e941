use Rattle.form_reader.proofs.Steps.{nothing_turns}
use Rattle.form_reader.proofs.step.done_after.Goals as goal

pub returns-in-Nothing-clause-turns : goal.returns-in-Nothing-clause-turns
returns-in-Nothing-clause-turns c = λ setting cs. nothing_turns setting c.args.start c.args.at cs c.args.found _ c.in-Nothing.is
