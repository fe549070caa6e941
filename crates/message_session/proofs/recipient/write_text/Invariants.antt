use Rattle.std.proofs.Common.{◌≡◌, ℕ, List, ◌++◌, Some, length}
use Rattle.message_session.proofs.recipient.write_text.Given as goal

-- what was written, and what is left
abbrev pub invariant-pieces : goal.invariant-pieces
invariant-pieces g l =
    (held : List ℕ) → g.O.Write.contents l.fn.output ≡ Some held
    → (front : List ℕ) × (l.text ≡ front ++ l.rest) × (g.O.Write.contents l.output ≡ Some (held ++ front))

abbrev pub decreases-pieces : goal.decreases-pieces
decreases-pieces g l = length l.rest
