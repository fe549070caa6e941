use Rattle.std.proofs.Common.{◌∙◌, is_some, sym, ap}
use Rattle.std.proofs.lemmas.Bool.{false≢true}
use Rattle.package_table.proofs.ByName.{package_some}
use Rattle.package_table.proofs.lists.listed.Goals as goal

pub returns-in-Some-clause-there : goal.returns-in-Some-clause-there
returns-in-Some-clause-there c = sym (package_some c.args.sets.now c.goodness.ensures c.args.owner.now) ∙ sym (ap is_some c.in-Some.ensures)

pub returns-in-None-clause-refused : goal.returns-in-None-clause-refused
returns-in-None-clause-refused c = λ there. false≢true (ap is_some c.in-None.ensures ∙ package_some c.args.sets.now c.goodness.ensures c.args.owner.now ∙ there)
