use Rattle.std.proofs.Common.{◌≡◌, ◌-◌, ◌^◌, min, map, take}
use Rattle.std.specs.Prelude.{sum}
use Rattle.lisp_object.specs.Datum.{size}
use Rattle.lisp_operators.proofs.sizes.sizes.Given as goal

abbrev pub invariant-loop-item : goal.invariant-loop-item
invariant-loop-item l = l.total ≡ min (sum (map size (take l.item-index l.items))) (2 ^ 64 - 1)
