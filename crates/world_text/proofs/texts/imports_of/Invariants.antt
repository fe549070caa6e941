use Rattle.std.proofs.Common.{◌≡◌, ◌&&◌, true, map, take}
use Rattle.std.specs.List.{list_all}
use Rattle.lisp_object.specs.Datum.{object_of, is_proper}
use Rattle.lisp_object.specs.Ascii.{is_ascii}
use Rattle.world_text.specs.Snapshot.{imported_name}
use Rattle.world_text.proofs.texts.imports_of.Given as goal

-- the rows of the imports so far
abbrev pub invariant-loop-name : goal.invariant-loop-name
invariant-loop-name l = record {
  objects : map object_of l.items.items ≡ map imported_name (take l.name-index l.imports);
  proper : list_all (λ r. list_all is_ascii r.0 && list_all is_ascii r.1) l.imports ≡ true → list_all is_proper l.items.items ≡ true;
}
