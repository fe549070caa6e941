use Rattle.std.proofs.Common.{◌≡◌, drop}
use Rattle.package_sets.specs.KeptSets.{positions_of}
use Rattle.package_table.specs.Meaning.{first_shown}
use Rattle.package_table.proofs.look_ups.inherited_number.Given as goal

-- the packages passed have no external symbol by that name
abbrev pub invariant-loop-position : goal.invariant-loop-position
invariant-loop-position l =
    first_shown l.sets l.name (drop l.position-index (positions_of l.owner l.sets.uses)) ≡ first_shown l.sets l.name (positions_of l.owner l.sets.uses)
