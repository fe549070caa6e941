use Rattle.std.proofs.Common.{◌≡◌, ◌+◌, ◌-◌, ℕ, vec_len}
use Rattle.package_sets.specs.Groups.{group_at}
use Rattle.package_sets.proofs.pairs.note.Given as goal

-- only empty groups were added
abbrev pub invariant-loop-alloc : goal.invariant-loop-alloc
invariant-loop-alloc l = (f : ℕ) → group_at l.groups.items f ≡ group_at l.initial.groups.items f

abbrev pub decreases-loop-alloc : goal.decreases-loop-alloc
decreases-loop-alloc l = (l.first + 1) - vec_len l.groups
