use Rattle.std.proofs.Common.{◌≡◌, true, map, take}
use Rattle.std.specs.List.{list_all}
use Rattle.lisp_object.specs.Object.{text}
use Rattle.lisp_object.specs.Datum.{object_of, is_proper}
use Rattle.lisp_object.specs.Ascii.{is_ascii}
use Rattle.world_text.proofs.texts.texts_of.Given as goal

-- the texts of the names so far
abbrev pub invariant-loop-name : goal.invariant-loop-name
invariant-loop-name l = record {
  objects : map object_of l.items.items ≡ map (λ n. text n) (take l.name-index l.names);
  proper : list_all (λ name. list_all is_ascii name) l.names ≡ true → list_all is_proper l.items.items ≡ true;
}
