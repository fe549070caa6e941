use Rattle.std.proofs.Common.{◌∙◌}
use Rattle.lexical_evaluation.proofs.Places.{clause_so}
use Rattle.lexical_evaluation.proofs.machine.deciding.is_clause.Goals as goal

pub returns : goal.returns
returns c = c.is_some.ensures ∙ clause_so c.args.form.now c.clause.result c.clause.ensures
