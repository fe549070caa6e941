use Rattle.std.proofs.Common.{◌≡◌, ◌++◌, map, take, drop}
use Rattle.readtable_core.specs.Characters.{upper_case}
use Rattle.token_meaning.specs.Folding.{on_plain}
use Rattle.token_meaning.proofs.case.upcase.Given as goal

abbrev pub invariant-loop-mark : goal.invariant-loop-mark
invariant-loop-mark l = l.marks ≡ map (on_plain upper_case) (take l.mark-index l.initial.marks) ++ drop l.mark-index l.initial.marks
