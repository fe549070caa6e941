use Rattle.std.proofs.Common.{◌≡◌, true, map, take}
use Rattle.std.specs.List.{list_all}
use Rattle.readtable_core.specs.Names.{is_among}
use Rattle.fixed_macros.proofs.fixed.FixedMacroFunctions.is_whole.Given as goal

abbrev pub invariant-loop-name : goal.invariant-loop-name
invariant-loop-name g l = list_all (is_among g.M.Meaning.functions.names) (take l.name-index l.name-items) ≡ true
