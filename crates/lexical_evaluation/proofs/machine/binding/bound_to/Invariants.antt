use Rattle.std.proofs.Common.{◌≡◌, [], drop, reverse}
use Rattle.package_table.specs.Table.{Table}
use Rattle.lisp_operators.specs.EvaluationAnswers.{objects}
use Rattle.lisp_operators.specs.Members.{symbols_in}
use Rattle.kept_functions.specs.Environments.{binding}
use Rattle.lexical_evaluation.specs.Machine.{variables_seen}
use Rattle.lexical_evaluation.specs.Arguments.{AreArguments, HaveArguments}
use Rattle.lexical_evaluation.proofs.machine.binding.bound_to.Given as goal

-- with the variables and the values that are left it is all of them
abbrev pub invariant-loop-datum : goal.invariant-loop-datum
invariant-loop-datum l = record {
  same : binding (symbols_in (drop l.datum-index l.variables)) (objects (reverse l.values.items)) (variables_seen l.made.items) ≡ binding (symbols_in l.variables) (objects l.fn.values.items) [];
  arguments : (u : Table) → AreArguments u l.fn.values.items → AreArguments u l.values.items × HaveArguments u l.made.items;
}
