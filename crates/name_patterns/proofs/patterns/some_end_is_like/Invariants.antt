use Rattle.std.proofs.Common.{◌≡◌, length}
use Rattle.name_patterns.specs.Pattern.{matches_pieces, pieces, some_end}
use Rattle.name_patterns.proofs.patterns.some_end_is_like.Given as goal

-- what is left of both decides
abbrev pub invariant-loop-piece : goal.invariant-loop-piece
invariant-loop-piece l = some_end (matches_pieces (pieces l.left)) l.rest ≡ some_end (matches_pieces (pieces l.pattern)) l.text

abbrev pub decreases-loop-piece : goal.decreases-loop-piece
decreases-loop-piece l = length l.left
