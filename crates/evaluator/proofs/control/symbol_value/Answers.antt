use Rattle.lisp_operators.proofs.PropertyRows.{package_ascii, readtable_ascii}
use Rattle.evaluator.proofs.control.symbol_value.Goals as goal

pub returns-then-is_standard_name-3-clause-proper : goal.returns-then-is_standard_name-3-clause-proper
returns-then-is_standard_name-3-clause-proper c = c.in_ok-text.ensures.proper (package_ascii c.args.world.now.0 c.current_package.result.now c.soundness.ensures.present c.current_package.ensures)

pub returns-then-is_standard_name-4-clause-proper : goal.returns-then-is_standard_name-4-clause-proper
returns-then-is_standard_name-4-clause-proper c = c.in_ok-keyword.ensures.proper (readtable_ascii c.args.world.now.0 c.current_readtable.result.now c.soundness.ensures.present c.current_readtable.ensures)
