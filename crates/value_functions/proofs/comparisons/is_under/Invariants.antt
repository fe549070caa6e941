use Rattle.std.proofs.Common.{◌≡◌, ◌+◌, ◌<◌, ◌*◌, nat_lt}
use Rattle.value_functions.proofs.comparisons.is_under.Given as goal

abbrev pub invariant-loop-a : goal.invariant-loop-a
invariant-loop-a l = record {
  same : nat_lt (l.a * l.d) (l.c * l.b) ≡ nat_lt (l.fn.a * l.fn.d) (l.fn.c * l.fn.b);
  first : 0 < l.b;
  second : 0 < l.d;
}

abbrev pub decreases-loop-a : goal.decreases-loop-a
decreases-loop-a l = l.b + l.d
