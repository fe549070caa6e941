use Rattle.std.proofs.Common.{◌≡◌, ◌<◌, ◌&&◌, ℕ, false}
use Rattle.std.specs.FinMap as finite
use Rattle.package_sets.specs.KeptSets.{name_at}
use Rattle.package_table.specs.Changes.{finds_other}
use Rattle.package_table.specs.Meaning.{numbered_of, package_of_number}
use Rattle.package_table.proofs.conflicts.user_finds_other.Given as goal

-- none of the packages passed is a user that finds another symbol
abbrev pub invariant-loop-user : goal.invariant-loop-user
invariant-loop-user l =
    (q : ℕ) → q < l.user → (finite.contains_key (package_of_number l.sets q).uses (name_at l.sets.packages l.owner) && finds_other (numbered_of l.sets).0 (name_at l.sets.packages q) l.home (name_at l.sets.names l.name)) ≡ false
