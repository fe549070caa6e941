use Rattle.std.proofs.Common.{refl}
use Rattle.store_looks.proofs.unreadable.push_line.Goals as goal

pub returns : goal.returns
returns c = let h = c.in-Ok.ensures.whole c.args.text.now.items refl in cc
