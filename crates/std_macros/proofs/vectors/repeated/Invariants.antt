use Rattle.std.proofs.Common.{◌≡◌, ◌++◌, replicate}
use Rattle.std_macros.proofs.vectors.repeated.Given as goal

abbrev pub invariant-loop : goal.invariant-loop
invariant-loop l = record {
  same : l.last ≡ l.fn.last;
  so_far : l.items.items ≡ l.fn.front.items ++ replicate l.counter l.fn.last;
}
