use Rattle.std.proofs.Common.{All, take}
use Rattle.std.specs.Option.{IsSome}
use Rattle.lisp_object.specs.Datum.{object_of}
use Rattle.lisp_operators.specs.ArgumentKinds.{a_symbol}
use Rattle.lisp_operators.proofs.lists.check_symbols.Given as goal

abbrev pub invariant-loop-member : goal.invariant-loop-member
invariant-loop-member l = All (λ d. IsSome (a_symbol (object_of d))) (take l.member-index l.members)
