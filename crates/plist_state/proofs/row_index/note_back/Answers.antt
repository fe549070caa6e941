use Rattle.std.proofs.Common.{sym}
use Rattle.plist_state.proofs.Noted.{back}
use Rattle.plist_state.proofs.row_index.note_back.Goals as goal

pub returns-then-set_order-clause-indexed : goal.returns-then-set_order-clause-indexed
returns-then-set_order-clause-indexed c =
    let fit = c.if-fits.true in
    back c.args.indexes.now.entries _ c.args.number c.args.row.now.items c.args.property.now c.args.index c.in-Some.known.now c.set_order.new.index (sym c.in-Some.ensures.value)
    (c.get_mut.follows.holds c.set_order.new.index).0 (c.set_order.ensures c.if-set_order.true) c.requires.indexed
    (c.fits.ensures.new fit) c.requires.index (c.fits.ensures.below fit) (c.fits.ensures.above fit)
