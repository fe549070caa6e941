use Rattle.std.proofs.Common.{◌≡◌, true}
use Rattle.lisp_object.specs.Object.{list_of}
use Rattle.lisp_object.specs.Datum.{object_of, is_proper}
use Rattle.readtable_core.specs.Tables.{Table, standard}
use Rattle.plist_state.specs.Sound.{HasKeywordFunctions}
use Rattle.world_text.specs.Snapshot.{entry_objects}
use Rattle.snapshot_text.specs.BuiltWorlds.{IsWritable}
use Rattle.snapshot_text.proofs.ReadtableParts.{IsMaking}
use Rattle.snapshot_text.proofs.table_parts.put_entries.Given as goal

-- the readtable has the entries of the rows so far
abbrev pub invariant-loop-entry : goal.invariant-loop-entry
invariant-loop-entry l =
    is_proper l.entries ≡ true → (t : Table) → object_of l.entries ≡ list_of (entry_objects t) → HasKeywordFunctions l.fn.world.0.packages t
    → IsWritable l.fn.world.0.readtables l.name (record standard { letters = t.letters }) → IsMaking l.fn.world.0 l.name t l.entry-items l.entry-index l.world.0
