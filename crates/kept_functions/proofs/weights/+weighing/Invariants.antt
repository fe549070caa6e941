use Rattle.std.proofs.Common.{◌≡◌, ◌-◌, ◌^◌, min, map, take}
use Rattle.std.specs.Prelude.{sum}
use Rattle.kept_functions.specs.Weights.{datum_weight}
use Rattle.kept_functions.proofs.weights.+weighing.Given as goal

abbrev pub invariant-total_weight-loop-item : goal.invariant-total_weight-loop-item
invariant-total_weight-loop-item l = l.total ≡ min (sum (map datum_weight (take l.item-index l.items))) (2 ^ 64 - 1)
