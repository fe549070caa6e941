use Rattle.std.proofs.Common.{sym, ◌∙◌}
use Rattle.lisp_operators.proofs.MemberLists.{members_list, members_dotted, members_proper}
use Rattle.lisp_operators.proofs.lists.members.Goals as goal

pub returns-then-is_some-clause-value : goal.returns-then-is_some-clause-value
returns-then-is_some-clause-value c = members_dotted c.args.datum.now c.in-List.items c.in-List.tail c.in-List.is c.requires (sym c.is_some.ensures ∙ c.if-is_some.true)

pub returns-else-is_some-clause-value : goal.returns-else-is_some-clause-value
returns-else-is_some-clause-value c =
    members_list c.args.datum.now c.in-List.items c.as_slice.result.now c.in-List.tail c.in-List.is c.requires (sym c.is_some.ensures ∙ c.if-is_some.false) c.as_slice.ensures

pub returns-else-is_some-clause-proper : goal.returns-else-is_some-clause-proper
returns-else-is_some-clause-proper c = members_proper c.args.datum.now c.in-List.items c.as_slice.result.now c.in-List.tail c.in-List.is c.requires c.as_slice.ensures
