use Rattle.std.proofs.Common.{◌≡◌, ℕ, List, length}
use Rattle.device_disk.specs.Pieces.{after_reads, joined_pieces}
use Rattle.device_disk.proofs.whole.read_whole.Given as goal

-- these pieces were read, from the start on
abbrev pub invariant-parts : goal.invariant-parts
invariant-parts g l =
    ((pieces : List (List ℕ)) × (l.bytes.items ≡ joined_pieces pieces)
    × (g.V.Device.calls l.device ≡ after_reads l.half 65536 0 pieces (g.V.Device.calls l.fn.device)))
    × (length l.piece ≡ 65536)
