use Rattle.std.proofs.Common.{◌≡◌, replicate, None}
use Rattle.readtable_core.proofs.entry.empty_dispatch.Given as goal

abbrev pub invariant-loop-sub : goal.invariant-loop-sub
invariant-loop-sub l = l.dispatch.items ≡ replicate l._sub None
