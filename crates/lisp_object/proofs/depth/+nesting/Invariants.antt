use Rattle.std.proofs.Common.{◌≡◌, ◌-◌, ◌^◌, min, map, take}
use Rattle.lisp_object.specs.Datum.{depth, greatest}
use Rattle.lisp_object.proofs.depth.+nesting.Given as goal

abbrev pub invariant-deepest-loop-item : goal.invariant-deepest-loop-item
invariant-deepest-loop-item l = l.most ≡ min (greatest (map depth (take l.item-index l.items))) (2 ^ 64 - 1)
