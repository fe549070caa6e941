use Rattle.std.proofs.Common.{◌≡◌, map, take}
use Rattle.package_table.specs.Meaning.{shown_positions, shown_symbol, symbol_name}
use Rattle.package_table.proofs.lists.shown_names.Given as goal

-- the names so far
abbrev pub invariant-loop-position : goal.invariant-loop-position
invariant-loop-position l = map (λ n. n.now) l.names.items ≡ map (λ x. symbol_name l.sets (shown_symbol l.sets l.owner x)) (take l.position-index (shown_positions l.sets l.owner))
