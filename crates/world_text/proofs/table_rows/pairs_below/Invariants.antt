use Rattle.std.proofs.Common.{◌≡◌, true, map, get_or, None}
use Rattle.std.specs.List.{list_all, flat_map, range_with_len}
use Rattle.lisp_object.specs.Datum.{object_of, is_proper}
use Rattle.world_text.specs.Snapshot.{dispatch_object}
use Rattle.world_text.proofs.table_rows.pairs_below.Given as goal

-- the pairs of the sub-characters so far
abbrev pub invariant-loop-sub : goal.invariant-loop-sub
invariant-loop-sub l = record {
  objects : map object_of l.pairs.items ≡ flat_map (λ sub. dispatch_object (get_or l.entry.dispatch sub None) sub) (range_with_len 0 l.sub);
  proper : list_all is_proper l.pairs.items ≡ true;
}
