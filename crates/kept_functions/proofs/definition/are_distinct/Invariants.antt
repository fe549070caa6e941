use Rattle.std.proofs.Common.{◌≡◌, drop}
use Rattle.lisp_operators.specs.Members.{symbols_in}
use Rattle.kept_functions.specs.Environments.{are_distinct}
use Rattle.kept_functions.proofs.definition.are_distinct.Given as goal

abbrev pub invariant-loop-i : goal.invariant-loop-i
invariant-loop-i l = are_distinct (symbols_in (drop l.i l.items)) ≡ are_distinct (symbols_in l.items)
