use Rattle.std.proofs.Common.{◌≡◌, ◌++◌, take}
use Rattle.refused_part.proofs.filling.add_copies.Given as goal

abbrev pub invariant-loop-item : goal.invariant-loop-item
invariant-loop-item l = l.copies ≡ l.initial.copies ++ take l.item-index l.items
