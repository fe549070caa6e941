use Rattle.std.proofs.Common.{◌∙◌}
use Rattle.readtable_core.proofs.Standard.{range_grown}
use Rattle.readtable_core.specs.Tables.{standard_sub_function}
use Rattle.readtable_core.proofs.standard_table.standard_dispatch.Goals as goal

pub loop-sub-preserved : goal.loop-sub-preserved
loop-sub-preserved c =
    c.in_ok-push.ensures.items ∙ range_grown standard_sub_function _ _ _ c.loop-sub.invariant c.standard_sub_function_of.ensures
