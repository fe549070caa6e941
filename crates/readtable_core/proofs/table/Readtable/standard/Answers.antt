use Rattle.std.proofs.Common.{◌∙◌, arith, sym, subst}
use Rattle.readtable_core.specs.Sound.{IsReadtable}
use Rattle.readtable_core.proofs.Sound.{standard_sound}
use Rattle.readtable_core.proofs.Standard.{range_grown, standard_of_rows}
use Rattle.readtable_core.specs.Tables.{standard_entry}
use Rattle.readtable_core.proofs.table.Readtable.standard.Goals as goal

pub loop-c-preserved : goal.loop-c-preserved
loop-c-preserved c =
    c.in_ok-push.ensures.items ∙ range_grown standard_entry _ _ _ c.loop-c.invariant c.in_ok-standard_character.ensures

pub returns : goal.returns
returns c = standard_of_rows c.loop-c.entries.items c.loop-c.c c.loop-c.invariant (omega arith)

pub invariant_of-result : goal.invariant_of-result
invariant_of-result c =
    subst IsReadtable (sym (standard_of_rows c.loop-c.entries.items c.loop-c.c c.loop-c.invariant (omega arith))) standard_sound
