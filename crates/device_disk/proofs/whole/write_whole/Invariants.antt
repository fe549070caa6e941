use Rattle.std.proofs.Common.{◌≡◌, ◌+◌, ◌++◌, ℕ, List, length}
use Rattle.device_disk.specs.Pieces.{after_writes, joined_pieces}
use Rattle.device_disk.proofs.whole.write_whole.Given as goal

-- these pieces were written, and what is left comes after them
abbrev pub invariant-pieces : goal.invariant-pieces
invariant-pieces g l =
    (pieces : List (List ℕ)) × (l.bytes ≡ joined_pieces pieces ++ l.rest)
    × (l.place ≡ l.at + length (joined_pieces pieces))
    × (g.V.Device.calls l.device ≡ after_writes l.half l.at pieces (g.V.Device.calls l.fn.device))
