use Rattle.std.proofs.Common.{Some, None, refl}
use Rattle.value_functions.proofs.ListParts.{list_is_proper, end_proper}
use Rattle.value_functions.proofs.parts.copied_list.Goals as goal

pub returns-in_ok-copy-in-Some-clause-proper : goal.returns-in_ok-copy-in-Some-clause-proper
returns-in_ok-copy-in-Some-clause-proper c =
    list_is_proper c.list.result c.in_ok-copies.copies.items c.args.items.now (Some c.in_ok-copy-in-Some.field-0) c.list.ensures.proper
    c.in_ok-copies.ensures c.requires.items
    (end_proper c.args.end c.in-Some.end c.in_ok-copy-in-Some.field-0 c.requires.end c.in-Some.is c.in_ok-copy-in-Some.ensures)

pub returns-in-None-clause-proper : goal.returns-in-None-clause-proper
returns-in-None-clause-proper c =
    list_is_proper c.list-in-None.result c.in_ok-copies.copies.items c.args.items.now None c.list-in-None.ensures.proper
    c.in_ok-copies.ensures c.requires.items refl
