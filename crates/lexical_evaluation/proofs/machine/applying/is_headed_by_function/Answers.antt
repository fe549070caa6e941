use Rattle.std.proofs.Common.{◌∙◌, arith}
use Rattle.lexical_evaluation.proofs.Callees.{function_at}
use Rattle.lexical_evaluation.proofs.machine.applying.is_headed_by_function.Goals as goal

pub returns-in-Some : goal.returns-in-Some
returns-in-Some c = c.is_standard.ensures ∙ function_at c.args.datum.now c.in-Some.items.now c.index-items-0.result c.in-Some.ensures.0 (omega (arith, c.in-Some.ensures.1)) c.index-items-0.is
