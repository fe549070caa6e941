use Rattle.std.proofs.Common.{◌≡◌, ◌∷◌, [], true, map, length}
use Rattle.std.specs.List.{list_all, flat_map}
use Rattle.lisp_object.specs.Datum.{object_of, is_proper}
use Rattle.plist_state.specs.Properties.{Plist}
use Rattle.plist_state.specs.Views.{symbol_of}
use Rattle.plist_state.specs.Sound.{IsSymbol, IsPlist}
use Rattle.world_text.specs.Snapshot.{symbol_object}
use Rattle.snapshot_text.specs.BuiltWorlds.{with_each}
use Rattle.snapshot_text.proofs.PropertyParts.{IsLeft}
use Rattle.snapshot_text.proofs.property_parts.put_each.Given as goal

-- what is left makes of the world now what all the properties make of the world at the start
abbrev pub invariant-loop-rest : goal.invariant-loop-rest
invariant-loop-rest l =
    list_all is_proper l.fn.properties ≡ true → (ps : Plist) → map object_of l.fn.properties ≡ flat_map (λ p. symbol_object p.0 ∷ p.1 ∷ []) ps
    → IsSymbol l.fn.world.0.packages (symbol_of l.symbol) → IsPlist l.fn.world.0.packages ps
    → IsLeft l.fn.world.0.packages (symbol_of l.symbol) (with_each l.fn.world.0 (symbol_of l.symbol) ps) l.world.0 l.rest

abbrev pub decreases-loop-rest : goal.decreases-loop-rest
decreases-loop-rest l = length l.rest
