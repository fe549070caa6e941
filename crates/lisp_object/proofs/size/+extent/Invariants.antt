use Rattle.std.proofs.Common.{◌≡◌, ◌-◌, ◌^◌, min, map, take}
use Rattle.std.specs.Prelude.{sum}
use Rattle.lisp_object.specs.Datum.{size}
use Rattle.lisp_object.proofs.size.+extent.Given as goal

abbrev pub invariant-total_extent-loop-item : goal.invariant-total_extent-loop-item
invariant-total_extent-loop-item l = l.total ≡ min (sum (map size (take l.item-index l.items))) (2 ^ 64 - 1)
