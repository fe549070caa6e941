use Rattle.std.proofs.Common.{rules}
use Rattle.lisp_object.proofs.Lists.{proper_items}
use Rattle.lisp_object.proofs.list.proper_list.Goals as goal

pub returns-else-is_empty-clause-proper : goal.returns-else-is_empty-clause-proper
returns-else-is_empty-clause-proper c = proper_items c.args.items (search rules)
