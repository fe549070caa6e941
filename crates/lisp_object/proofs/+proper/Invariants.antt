use Rattle.std.proofs.Common.{◌≡◌, true, map, take}
use Rattle.std.specs.Prelude.{All}
use Rattle.std.specs.List.{list_all}
use Rattle.lisp_object.specs.Object.{IsSound}
use Rattle.lisp_object.specs.Datum.{object_of, standing}
use Rattle.lisp_object.proofs.+proper.Given as goal

abbrev pub invariant-proper::are_proper-loop-item : goal.invariant-proper::are_proper-loop-item
invariant-proper::are_proper-loop-item l = record {
  proper : list_all (λ p. p.0) (map standing (take l.item-index l.items)) ≡ true;
  sound : All (λ d. IsSound (object_of d)) (take l.item-index l.items);
}
