use Rattle.std.proofs.Common.{arith}
use Rattle.std.proofs.lemmas.Bool.Decides.{nat_tests}
use Rattle.lexical_evaluation.proofs.Handing.{list_proper}
use Rattle.lexical_evaluation.proofs.machine.finishing.listed.Goals as goal

pub returns-clause-proper : goal.returns-clause-proper
returns-clause-proper c = list_proper c.args.items.items c.from_vec.result c.from_vec.ensures c.requires (grind (arith, nat_tests, c.is_empty.ensures, c.if-is_empty.false))
