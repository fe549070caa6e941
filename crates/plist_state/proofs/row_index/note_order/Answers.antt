use Rattle.std.proofs.Common.{sym}
use Rattle.plist_state.proofs.Noted.{still, next}
use Rattle.plist_state.proofs.row_index.note_order.Goals as goal

pub returns-in-Ok-clause-indexed : goal.returns-in-Ok-clause-indexed
returns-in-Ok-clause-indexed c =
    still c.args.indexes.now.entries _ c.args.number c.args.row.now.items c.args.indicator c.args.order c.in-Some.index.now c.insert.new.self (sym c.in-Some.ensures.value)
    (c.get_mut.follows.holds c.insert.new.self).0 c.in-Ok.ensures.entries c.requires.indexed c.requires.new

pub returns-in-Ok-clause-next : goal.returns-in-Ok-clause-next
returns-in-Ok-clause-next c =
    next c.args.indexes.now.entries _ c.args.number c.args.row.now.items c.args.indicator c.args.order c.in-Some.index.now c.insert.new.self (sym c.in-Some.ensures.value)
    (c.get_mut.follows.holds c.insert.new.self).0 c.in-Ok.ensures.entries c.requires.indexed c.requires.new c.requires.above
