use Rattle.std.proofs.Common.{◌≡◌, ◌+◌, ◌-◌, ℕ, get_or, vec_len}
use Rattle.package_sets.proofs.chains.Chains.reserve.Given as goal

-- names were added that no place has
abbrev pub invariant-loop-self : goal.invariant-loop-self
invariant-loop-self l =
    ((j : ℕ) → get_or l.self.lasts.items j 0 ≡ get_or l.initial.self.lasts.items j 0) × (l.self.befores.items ≡ l.initial.self.befores.items)

abbrev pub decreases-loop-self : goal.decreases-loop-self
decreases-loop-self l = (l.name + 1) - vec_len l.self.lasts
