use Rattle.std.proofs.Common.{◌≡◌, take}
use Rattle.lisp_object.proofs.+copying.Given as goal

abbrev pub invariant-copy::copy_items-loop-item : goal.invariant-copy::copy_items-loop-item
invariant-copy::copy_items-loop-item l = l.copies ≡ take l.item-index l.items
