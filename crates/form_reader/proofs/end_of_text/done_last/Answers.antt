use Rattle.form_reader.proofs.EndOfText.{nothing_last}
use Rattle.form_reader.proofs.end_of_text.done_last.Goals as goal

pub returns-in-Nothing-clause-outcome : goal.returns-in-Nothing-clause-outcome
returns-in-Nothing-clause-outcome c = λ setting. nothing_last setting c.args.start c.args.at c.args.found _ c.in-Nothing.is
