use Rattle.std.proofs.Common.{◌≡◌, true, map, take}
use Rattle.std.specs.List.{list_all}
use Rattle.lisp_object.specs.Datum.{object_of, is_proper}
use Rattle.lisp_operators.specs.Properties.{in_turn}
use Rattle.lisp_operators.proofs.properties.in_turn.Given as goal

abbrev pub invariant-loop-index : goal.invariant-loop-index
invariant-loop-index l = (map object_of l.values.items ≡ in_turn (take l.index l.row)) × (list_all is_proper l.values.items ≡ true)
