use Rattle.std.proofs.Common.{◌≡◌, length}
use Rattle.token_scan.specs.Marks.{characters}
use Rattle.std_macros.specs.Values.{is_named}
use Rattle.std_macros.proofs.characters.is_named.Given as goal

-- what is left of both compares as the whole of both does
abbrev pub invariant-loop-c : goal.invariant-loop-c
invariant-loop-c l = is_named (characters l.rest) l.left ≡ is_named (characters l.name) l.wanted

abbrev pub decreases-loop-c : goal.decreases-loop-c
decreases-loop-c l = length l.left
