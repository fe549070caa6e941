use Rattle.std.proofs.Common.{◌≡◌, map}
use Rattle.std.specs.List.{range_with_len}
use Rattle.readtable_core.specs.Tables.{standard_sub_function}
use Rattle.readtable_core.proofs.standard_table.standard_dispatch.Given as goal

abbrev pub invariant-loop-sub : goal.invariant-loop-sub
invariant-loop-sub l = l.dispatch.items ≡ map standard_sub_function (range_with_len 0 l.sub)
