use Rattle.std.proofs.Common.{◌≡◌, ◌+◌, map, take}
use Rattle.std.specs.Prelude.{sum}
use Rattle.lisp_object.specs.Datum.{size}
use Rattle.std_macros.proofs.vectors.room_after.Given as goal

abbrev pub invariant-loop-item : goal.invariant-loop-item
invariant-loop-item l = l.left + sum (map size (take l.item-index l.items)) ≡ l.room
