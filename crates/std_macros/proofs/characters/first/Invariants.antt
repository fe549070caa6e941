use Rattle.std.proofs.Common.{◌≡◌, length}
use Rattle.token_scan.specs.Marks.{characters}
use Rattle.std_macros.proofs.characters.first.Given as goal

-- the marks that are left have all characters
abbrev pub invariant-loop-mark : goal.invariant-loop-mark
invariant-loop-mark l = characters l.rest ≡ characters l.marks

abbrev pub decreases-loop-mark : goal.decreases-loop-mark
decreases-loop-mark l = length l.rest
