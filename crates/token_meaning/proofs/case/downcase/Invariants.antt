use Rattle.std.proofs.Common.{◌≡◌, ◌++◌, map, take, drop}
use Rattle.token_meaning.specs.Folding.{lower_case, on_plain}
use Rattle.token_meaning.proofs.case.downcase.Given as goal

abbrev pub invariant-loop-mark : goal.invariant-loop-mark
invariant-loop-mark l = l.marks ≡ map (on_plain lower_case) (take l.mark-index l.initial.marks) ++ drop l.mark-index l.initial.marks
