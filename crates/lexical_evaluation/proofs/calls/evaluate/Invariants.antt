use Rattle.std.proofs.Common.{◌≡◌, []}
use Rattle.lisp_object.specs.Datum.{object_of}
use Rattle.kept_functions.specs.declared.bounds.TheConstants.{MOST_STEPS}
use Rattle.lexical_evaluation.specs.Values.{value_in}
use Rattle.lexical_evaluation.specs.Calls.{rules_of}
use Rattle.lexical_evaluation.specs.Machine.{comes_to, next_value}
use Rattle.lexical_evaluation.specs.Ways.{ways}
use Rattle.lexical_evaluation.specs.Arguments.{IsMachineOf, IsNextOf}
use Rattle.lexical_evaluation.proofs.calls.evaluate.Given as goal

-- what is in hand comes to the value of the form, and all data are arguments of the world
abbrev pub invariant-steps : goal.invariant-steps
invariant-steps l = record {
  comes : value_in (rules_of l.names) [] (record { state = l.fn.world.0; left = MOST_STEPS }) (object_of l.fn.form) ≡ comes_to (ways l.names) l.machine (next_value (ways l.names) l.world.0 l.machine l.next);
  machine : IsMachineOf l.world.0.packages l.machine;
  next : IsNextOf l.world.0.packages l.next;
  marked : l.world.1 ≡ l.fn.world.1;
}
