use Rattle.std.proofs.Common.{◌≡◌, map, take, get_or}
use Rattle.package_sets.specs.KeptSets.{positions_of}
use Rattle.package_table.specs.Meaning.{symbol_name}
use Rattle.package_table.proofs.lists.imported_names.Given as goal

-- the names so far
abbrev pub invariant-loop-position : goal.invariant-loop-position
invariant-loop-position l = map (λ n. n.now) l.names.items ≡ map (λ x. symbol_name l.sets (get_or l.sets.imported x 0)) (take l.position-index (positions_of l.owner l.sets.imports))
