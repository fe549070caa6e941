use Rattle.std.proofs.Common.{All, take}
use Rattle.std.specs.Option.{IsSome}
use Rattle.lisp_object.specs.Datum.{object_of}
use Rattle.kept_functions.specs.Environments.{a_variable}
use Rattle.kept_functions.proofs.definition.are_variables.Given as goal

abbrev pub invariant-loop-item : goal.invariant-loop-item
invariant-loop-item l = All (λ d. IsSome (a_variable (object_of d))) (take l.item-index l.items)
