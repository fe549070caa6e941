use Rattle.std.proofs.Common.{take}
use Rattle.lisp_operators.specs.Readtables.{AreFunctionNames}
use Rattle.form_eval.proofs.transaction.are_names.Given as goal

abbrev pub invariant-loop-name : goal.invariant-loop-name
invariant-loop-name l = AreFunctionNames (take l.name-index l.names)
