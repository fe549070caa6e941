use Rattle.std.proofs.Common.{◌<◌, length, sym, ◌∙◌, arith}
use Rattle.evaluator.proofs.Places.{proper_pair, dotted_place, some_items, first_proper}
use Rattle.evaluator.proofs.place.accessor.Goals as goal

pub returns-then-is_some-clause-value : goal.returns-then-is_some-clause-value
returns-then-is_some-clause-value c = dotted_place c.args.place.now c.in-List.items c.in-List.tail c.in-List.is c.requires (sym c.is_some.ensures ∙ c.if-is_some.true)

pub bounds-items-0 : goal.bounds-items-0
bounds-items-0 c = some_items c.args.place.now c.in-List.items c.as_slice-items.result.now c.in-List.tail c.in-List.is c.requires c.as_slice-items.ensures

pub overflow_sub-result : goal.overflow_sub-result
overflow_sub-result c =
    let some : 0 < length c.as_slice-items.result.now = some_items c.args.place.now c.in-List.items c.as_slice-items.result.now c.in-List.tail c.in-List.is c.requires c.as_slice-items.ensures in
    omega arith

pub returns-else-is_some-clause-value : goal.returns-else-is_some-clause-value
returns-else-is_some-clause-value c =
    proper_pair c.args.place.now c.in-List.items c.as_slice-items.result.now c.in-List.tail c.index-items-0.result c.in-List.is c.requires (sym c.is_some.ensures ∙ c.if-is_some.false) c.as_slice-items.ensures c.index-items-0.is

pub returns-else-is_some-clause-proper : goal.returns-else-is_some-clause-proper
returns-else-is_some-clause-proper c =
    first_proper c.args.place.now c.in-List.items c.as_slice-items.result.now c.in-List.tail c.index-items-0.result c.in-List.is c.requires c.as_slice-items.ensures c.index-items-0.is
