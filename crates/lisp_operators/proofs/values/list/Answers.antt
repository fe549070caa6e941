use Rattle.lisp_operators.proofs.Shapes.{proper_list}
use Rattle.lisp_operators.proofs.values.list.Goals as goal

pub is_too_deep-requires : goal.is_too_deep-requires
is_too_deep-requires c = proper_list c.args.values.items c.from_vec-items.result c.is_empty.result c.from_vec-items.ensures c.requires c.is_empty.ensures.1 c.if-is_empty.false

pub is_too_large-requires : goal.is_too_large-requires
is_too_large-requires c = proper_list c.args.values.items c.from_vec-items.result c.is_empty.result c.from_vec-items.ensures c.requires c.is_empty.ensures.1 c.if-is_empty.false

pub returns-clause-proper : goal.returns-clause-proper
returns-clause-proper c = proper_list c.args.values.items c.from_vec-items.result c.is_empty.result c.from_vec-items.ensures c.requires c.is_empty.ensures.1 c.if-is_empty.false
