use Rattle.std.proofs.Common.{arith}
use Rattle.std.proofs.lemmas.List.{get_or_default}
use Rattle.std.proofs.lemmas.List.Edits.{map_over_more}
use Rattle.readtable_core.specs.Characters.{upper_case}
use Rattle.plain_reader.proofs.words.upcase.Goals as goal

pub loop-c-preserved : goal.loop-c-preserved
loop-c-preserved c =
    rw c.upper_case.ensures
    (map_over_more upper_case c.args.name.now c.loop-c.name c.loop-c.c-index _ (omega arith) c.loop-c.invariant
    (get_or_default c.loop-c.name c.loop-c.c-index 0 _ (omega arith)))
