use Rattle.std.proofs.Common.{◌≡◌}
use Rattle.evaluator.proofs.trimmed.+trimming.Given as goal

abbrev pub invariant-trimmed_items-loop-i : goal.invariant-trimmed_items-loop-i
invariant-trimmed_items-loop-i l = l.items.items ≡ l.fn.items
