use Rattle.value_functions.proofs.ListParts.{dotted_parts, closed_parts, parts_items, parts_end}
use Rattle.value_functions.proofs.parts.list_parts.Goals as goal

pub returns-in-Some-clause-value : goal.returns-in-Some-clause-value
returns-in-Some-clause-value c =
    dotted_parts c.args.datum.now c.in-List.items c.as_slice.result.now c.in-List.tail c.in-Some.tail c.get.result.now
    c.in-List.is c.in-Some.is c.as_slice.ensures c.get.ensures c.requires

pub returns-in-Some-clause-items : goal.returns-in-Some-clause-items
returns-in-Some-clause-items c =
    parts_items c.args.datum.now c.in-List.items c.as_slice.result.now c.in-List.tail c.in-List.is c.as_slice.ensures c.requires

pub returns-in-Some-clause-end : goal.returns-in-Some-clause-end
returns-in-Some-clause-end c =
    parts_end c.args.datum.now c.in-List.items c.in-List.tail c.in-Some.tail c.get.result.now c.in-List.is c.in-Some.is c.get.ensures c.requires

pub returns-in-None-clause-value : goal.returns-in-None-clause-value
returns-in-None-clause-value c =
    closed_parts c.args.datum.now c.in-List.items c.as_slice-in-None.result.now c.in-List.tail
    c.in-List.is c.in-None.is c.as_slice-in-None.ensures c.requires

pub returns-in-None-clause-items : goal.returns-in-None-clause-items
returns-in-None-clause-items c =
    parts_items c.args.datum.now c.in-List.items c.as_slice-in-None.result.now c.in-List.tail c.in-List.is c.as_slice-in-None.ensures c.requires
