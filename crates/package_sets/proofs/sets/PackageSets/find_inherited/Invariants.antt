use Rattle.package_sets.proofs.Seeking.{IsSought}
use Rattle.package_sets.proofs.sets.PackageSets.find_inherited.Given as goal

-- what is sought has not been passed
abbrev pub invariant-loop : goal.invariant-loop
invariant-loop l = IsSought l.self l.owner l.name l.last
