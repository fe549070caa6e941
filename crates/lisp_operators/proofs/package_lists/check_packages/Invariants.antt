use Rattle.std.proofs.Common.{All, take}
use Rattle.lisp_operators.proofs.MemberSteps.{IsThere}
use Rattle.lisp_operators.proofs.package_lists.check_packages.Given as goal

abbrev pub invariant-loop-name : goal.invariant-loop-name
invariant-loop-name l = All (IsThere l.world.0.packages) (take l.name-index l.names)
