use Rattle.std.proofs.Common.{◌≡◌, true, not, map, filter, take}
use Rattle.std.specs.List.{list_all}
use Rattle.std.specs.Str.{bytes_eq}
use Rattle.lisp_object.specs.Datum.{object_of, is_proper}
use Rattle.lisp_object.specs.Ascii.{is_ascii}
use Rattle.plist_state.specs.State.{standard_name}
use Rattle.world_text.specs.Snapshot.{readtable_object, snapshot_readtable}
use Rattle.world_text.proofs.table_rows.readtable_rows.Given as goal

-- the rows of the readtables so far
abbrev pub invariant-loop-name : goal.invariant-loop-name
invariant-loop-name l = record {
  objects : map object_of l.rows.items ≡ map (λ n. readtable_object n (snapshot_readtable l.world.0 n)) (filter (λ n. not (bytes_eq n standard_name)) (take l.name-index l.names));
  proper : list_all (λ name. list_all is_ascii name) l.names ≡ true → list_all is_proper l.rows.items ≡ true;
}
