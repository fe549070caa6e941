use Rattle.std.proofs.Common.{◌≡◌, map, take}
use Rattle.package_table.specs.Meaning.{symbol_name}
use Rattle.package_table.proofs.lists.names_in.Given as goal

-- the names so far
abbrev pub invariant-loop-symbol : goal.invariant-loop-symbol
invariant-loop-symbol l = map (λ n. n.now) l.names.items ≡ map (symbol_name l.sets) (take l.symbol-index l.symbols)
