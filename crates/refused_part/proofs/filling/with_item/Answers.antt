use Rattle.refused_part.proofs.Filled.{listed_again, proper_again}
use Rattle.refused_part.proofs.filling.with_item.Goals as goal

pub returns-in_ok-tail-in-List-clause-object : goal.returns-in_ok-tail-in-List-clause-object
returns-in_ok-tail-in-List-clause-object c =
    listed_again c.args.whole.now c.in-List.items c.as_slice.result.now c.in_ok-items-in-List.items c.in-List.tail c.in_ok-tail-in-List.tail c.args.index c.args.item
    c.in-List.is c.as_slice.ensures c.in_ok-items-in-List.ensures.1 c.in_ok-tail-in-List.ensures

pub returns-in_ok-tail-in-List-clause-proper : goal.returns-in_ok-tail-in-List-clause-proper
returns-in_ok-tail-in-List-clause-proper c =
    proper_again c.args.whole.now c.in-List.items c.as_slice.result.now c.in_ok-items-in-List.items c.in-List.tail c.in_ok-tail-in-List.tail c.args.index c.args.item
    c.in-List.is c.as_slice.ensures c.in_ok-items-in-List.ensures.1 c.in_ok-tail-in-List.ensures c.requires.whole c.requires.item
