use Rattle.std.proofs.Common.{◌≡◌, true}
use Rattle.lisp_object.specs.Object.{list_of}
use Rattle.lisp_object.specs.Datum.{object_of, is_proper}
use Rattle.readtable_core.specs.Names.{is_dispatch_name}
use Rattle.readtable_core.specs.Tables.{CharacterEntry, Table}
use Rattle.readtable_core.specs.Changes.{macro_syntax}
use Rattle.world_text.specs.Snapshot.{dispatch_objects}
use Rattle.snapshot_text.specs.BuiltWorlds.{IsWritable, IsNamedEntry}
use Rattle.snapshot_text.proofs.MacroParts.{IsFilling, function_of}
use Rattle.snapshot_text.proofs.table_parts.put_macro.Given as goal

-- the entry has the sub-characters of the pairs so far
abbrev pub invariant-loop-pair : goal.invariant-loop-pair
invariant-loop-pair l =
    is_proper l.dispatch ≡ true → (t : Table) (e : CharacterEntry) → object_of l.dispatch ≡ list_of (dispatch_objects e)
    → e.syntax ≡ macro_syntax l.non_terminating → IsNamedEntry l.fn.world.0.packages e → IsWritable l.fn.world.0.readtables l.table t
    → is_dispatch_name (function_of e) ≡ true → IsFilling l.fn.world.0 l.table t l.c e l.pair-items l.pair-index l.world.0
