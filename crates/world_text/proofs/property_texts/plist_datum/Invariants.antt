use Rattle.std.proofs.Common.{◌≡◌, ◌&&◌, ◌∷◌, [], true, map, take}
use Rattle.std.specs.List.{list_all, flat_map}
use Rattle.lisp_object.specs.Datum.{object_of, is_proper}
use Rattle.lisp_object.specs.Ascii.{is_ascii}
use Rattle.world_text.specs.Snapshot.{symbol_object}
use Rattle.world_text.proofs.property_texts.plist_datum.Given as goal

-- the symbol, and the properties so far
abbrev pub invariant-loop-index : goal.invariant-loop-index
invariant-loop-index l = record {
  objects : map object_of l.items.items ≡ symbol_object (l.home, l.name) ∷ flat_map (λ p. symbol_object p.0 ∷ p.1 ∷ []) (take l.index l.properties);
  proper : list_all is_ascii l.home && list_all is_ascii l.name ≡ true
      → list_all (λ p. list_all is_ascii p.0.0 && list_all is_ascii p.0.1) l.properties ≡ true
      → list_all is_proper l.items.items ≡ true;
}
