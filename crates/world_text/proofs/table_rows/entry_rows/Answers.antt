use Rattle.std.proofs.Common.{◌≡◌, subst, not, map, filter, IfOk}
use Rattle.std.specs.List.{range_with_len}
use Rattle.lisp_object.specs.Datum.{object_of}
use Rattle.readtable_core.specs.NamedFunctions.{same_entry}
use Rattle.readtable_core.specs.Tables.{entry_at}
use Rattle.world_text.specs.Snapshot.{entry_object, entry_objects}
use Rattle.world_text.proofs.table_rows.entry_rows.Goals as goal

pub returns-clause-objects : goal.returns-clause-objects
unfolding entry_objects
returns-clause-objects c =
    subst (λ first. IfOk c.entries_below.result (λ rows. map object_of rows.items
    ≡ map (λ k. entry_object k (entry_at c.args.table.now k)) (filter (λ k. not (same_entry (entry_at c.args.table.now k) (entry_at first k))) (range_with_len 0 128))))
    c.requires c.entries_below.ensures.objects

pub returns-clause-proper : goal.returns-clause-proper
returns-clause-proper c = c.entries_below.ensures.proper
