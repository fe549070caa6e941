use Rattle.std.proofs.Common.{◌≡◌, true, false, List, [], All, map, drop}
use Rattle.lisp_object.specs.Object.{Object, list_of}
use Rattle.lisp_object.specs.Datum.{object_of}
use Rattle.lisp_operators.specs.Evaluation.{also}
use Rattle.lisp_operators.specs.ListBuilder.{HoldsList}
use Rattle.evaluator.specs.Value.{sought, selected, are_clauses}
use Rattle.evaluator.specs.ArgumentValues.{values_after, arguments_of, sequence_value}
use Rattle.lisp_operators.specs.EvaluationAnswers.{IsArgument, KeepsArguments}
use Rattle.evaluator.proofs.evaluation.+evaluation.Given as goal

abbrev pub invariant-extended-loop-i : goal.invariant-extended-loop-i
invariant-extended-loop-i l = record {
  same : values_after l.names (map object_of l.fn.values.values.items) l.fn.values.wrote l.fn.world.0 (list_of (map object_of (drop l.fn.from l.forms)))
      ≡ values_after l.names (map object_of l.values.values.items) l.values.wrote l.world.0 (list_of (map object_of (drop l.i l.forms)));
  values : All (IsArgument l.world.0.packages) l.values.values.items;
  forms : All (IsArgument l.world.0.packages) l.forms;
  kept : KeepsArguments l.fn.world.0.packages l.world.0.packages;
  marked : l.world.1 ≡ l.fn.world.1;
}

abbrev pub invariant-sequence-loop-i : goal.invariant-sequence-loop-i
invariant-sequence-loop-i l = record {
  same : sequence_value l.names l.fn.world.0 (arguments_of (map object_of l.items))
      ≡ also l.wrote (sequence_value l.names l.world.0 (list_of (map object_of (drop l.i l.items))));
  forms : All (IsArgument l.world.0.packages) l.items;
  marked : l.world.1 ≡ l.fn.world.1;
}

abbrev pub invariant-listed-loop-i : goal.invariant-listed-loop-i
invariant-listed-loop-i l = record {
  listed : (xs : List Object) × HoldsList xs l.values
      × (values_after l.names [] false l.fn.world.0 (list_of (map object_of (drop 1 l.items))) ≡ values_after l.names xs l.wrote l.world.0 (list_of (map object_of (drop l.i l.items))));
  forms : All (IsArgument l.world.0.packages) l.items;
  marked : l.world.1 ≡ l.fn.world.1;
}

abbrev pub invariant-deciding::sought-loop-i : goal.invariant-deciding::sought-loop-i
invariant-deciding::sought-loop-i l = record {
  same : sought l.names l.truth l.fn.world.0 (arguments_of (map object_of l.items))
      ≡ also l.wrote (sought l.names l.truth l.world.0 (list_of (map object_of (drop l.i l.items))));
  forms : All (IsArgument l.world.0.packages) l.items;
  marked : l.world.1 ≡ l.fn.world.1;
}

abbrev pub invariant-deciding::selected-loop-i : goal.invariant-deciding::selected-loop-i
invariant-deciding::selected-loop-i l = record {
  same : selected l.names l.fn.world.0 (arguments_of (map object_of l.items))
      ≡ also l.wrote (selected l.names l.world.0 (list_of (map object_of (drop l.i l.items))));
  clauses : are_clauses (list_of (map object_of (drop l.i l.items))) ≡ true;
  forms : All (IsArgument l.world.0.packages) l.items;
  marked : l.world.1 ≡ l.fn.world.1;
}
