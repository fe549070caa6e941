use Rattle.std.proofs.Common.{◌≡◌, ◌≤◌, length, drop}
use Rattle.value_functions.specs.TextValues.{less_at}
use Rattle.value_functions.proofs.texts.less_at.Given as goal

abbrev pub invariant-loop-at : goal.invariant-loop-at
invariant-loop-at l = record {
  left : less_at l.at (drop l.at l.a) (drop l.at l.b) ≡ less_at 0 l.a l.b;
  within : l.at ≤ length l.b;
}
