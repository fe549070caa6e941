use Rattle.form_reader.proofs.Deciding.{undecided}
use Rattle.form_reader.proofs.laws.what_is_decided_is_answered.Goals as goal

pub returns : goal.returns
returns c = λ setting reader bytes o steps all. undecided setting bytes o steps.3 all
