use Rattle.std.proofs.Common.{take}
use Rattle.diagnostics.specs.Places.{IsSpotBehind}
use Rattle.diagnostics.proofs.places.Spot.through.Given as goal

-- so far it has come
abbrev pub invariant-bytes : goal.invariant-bytes
invariant-bytes l = IsSpotBehind l.fn.self (take l.byte-index l.text) l.spot
