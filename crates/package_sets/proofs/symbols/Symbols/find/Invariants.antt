use Rattle.package_sets.proofs.Namesakes.{IsLeft}
use Rattle.package_sets.proofs.symbols.Symbols.find.Given as goal

-- what is sought has not been passed
abbrev pub invariant-loop : goal.invariant-loop
invariant-loop l = IsLeft l.self-inside.pairs l.home l.name l.last
