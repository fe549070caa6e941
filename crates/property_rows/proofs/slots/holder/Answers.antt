use Rattle.std.proofs.Common.{arith}
use Rattle.property_rows.proofs.Written.{within, read_holds}
use Rattle.property_rows.proofs.slots.holder.Goals as goal

pub offset_bounds-slots-place : goal.offset_bounds-slots-place
offset_bounds-slots-place c =
    let less = within c.args.slots.now c.args.index c.place.result c.requires.index c.place.ensures in
    omega (arith, less, c.requires.slots.few)

pub bounds-slots-place : goal.bounds-slots-place
bounds-slots-place c = within c.args.slots.now c.args.index c.place.result c.requires.index c.place.ensures

pub returns : goal.returns
returns c = read_holds c.args.slots.now c.args.index c.place.result c.requires.index c.place.ensures c.index-slots-place.result c.index-slots-place.is
