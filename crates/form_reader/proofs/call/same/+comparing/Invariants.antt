use Rattle.std.proofs.Common.{◌≡◌, ◌+◌, ◌*◌, ◌++◌, take}
use Rattle.form_reader.proofs.call.same.+comparing.Given as goal

-- a part has one level fewer
abbrev pub decreases-is_same : goal.decreases-is_same
decreases-is_same l = 2 * l.levels

abbrev pub decreases-are_same : goal.decreases-are_same
decreases-are_same l = 2 * l.levels + 1

abbrev pub invariant-are_same-loop-one : goal.invariant-are_same-loop-one
invariant-are_same-loop-one l = record { same : take l.one-index l.ones ++ l.rest ≡ l.others }
