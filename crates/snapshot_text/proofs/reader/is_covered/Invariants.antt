use Rattle.std.proofs.Common.{◌≡◌, true, take}
use Rattle.std.specs.List.{list_all}
use Rattle.readtable_core.specs.NamedFunctions.{functions_of}
use Rattle.user_macros.specs.Registry.{is_covered}
use Rattle.plist_state.specs.Readers.{readtable_names}
use Rattle.world_text.specs.Snapshot.{snapshot_readtable}
use Rattle.snapshot_text.proofs.reader.is_covered.Given as goal

-- the functions of the readtables so far
abbrev pub invariant-loop-name : goal.invariant-loop-name
invariant-loop-name g l = record {
  whole : l.name-items ≡ readtable_names l.world.0;
  covered : list_all (λ n. list_all (is_covered (g.R.MacroFunctions.functions l.macros).names) (functions_of (snapshot_readtable l.world.0 n))) (take l.name-index l.name-items) ≡ true;
}
