use Rattle.std.proofs.Common.{◌≡◌, true}
use Rattle.lisp_object.specs.Datum.{object_of, is_proper}
use Rattle.plist_state.specs.State.{WorldState}
use Rattle.plist_state.specs.Sound.{IsSoundWorldState}
use Rattle.world_text.specs.Snapshot.{readtables_object}
use Rattle.snapshot_text.specs.BuiltWorlds.{built_with_properties}
use Rattle.snapshot_text.proofs.NamedTables.{IsNaming}
use Rattle.snapshot_text.proofs.table_parts.put_readtables.Given as goal

-- the readtables of the rows so far are there
abbrev pub invariant-loop-row : goal.invariant-loop-row
invariant-loop-row l =
    (s : WorldState) → IsSoundWorldState s → is_proper l.readtables ≡ true → object_of l.readtables ≡ readtables_object s → l.fn.world.0 ≡ built_with_properties s
    → IsNaming s l.row-items l.row-index l.world.0
