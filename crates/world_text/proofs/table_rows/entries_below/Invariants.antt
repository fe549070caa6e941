use Rattle.std.proofs.Common.{◌≡◌, true, not, map, filter}
use Rattle.std.specs.List.{list_all, range_with_len}
use Rattle.lisp_object.specs.Datum.{object_of, is_proper}
use Rattle.readtable_core.specs.NamedFunctions.{same_entry}
use Rattle.readtable_core.specs.Tables.{entry_at}
use Rattle.world_text.specs.Snapshot.{entry_object}
use Rattle.world_text.proofs.table_rows.entries_below.Given as goal

-- the rows of the characters so far
abbrev pub invariant-loop-c : goal.invariant-loop-c
invariant-loop-c l = record {
  objects : map object_of l.rows.items
      ≡ map (λ c. entry_object c (entry_at l.table c)) (filter (λ c. not (same_entry (entry_at l.table c) (entry_at l.first c))) (range_with_len 0 l.c));
  proper : list_all is_proper l.rows.items ≡ true;
}
