use Rattle.std.proofs.Common.{◌≡◌, map, take}
use Rattle.plist_state.proofs.readers.copies.Given as goal

-- the symbols so far
abbrev pub invariant-loop-home : goal.invariant-loop-home
invariant-loop-home l = l.copies ≡ map (λ s. (s.0.now, s.1.now)) (take l.home-index l.symbols)
