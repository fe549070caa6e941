use Rattle.std.proofs.Common.{◌≡◌, ℕ, List, ◌++◌, Some, length}
use Rattle.sessions.proofs.output.write_text.Given as goal

-- what was written, and what is left
abbrev pub invariant-pieces : goal.invariant-pieces
invariant-pieces g l =
    (held : List ℕ) → g.W.Write.contents l.fn.writer ≡ Some held
    → (front : List ℕ) × (l.text ≡ front ++ l.rest) × (g.W.Write.contents l.writer ≡ Some (held ++ front))

abbrev pub decreases-pieces : goal.decreases-pieces
decreases-pieces g l = length l.rest
