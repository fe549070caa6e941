-- A search through the items of a part: an item of a part has a place.
use Rattle.std.proofs.Common.{◌≡◌, ℕ, List, [], ◌∷◌, ◌++◌, Some, refl}
use Rattle.std.specs.Prelude.{slice_get}
use Rattle.lisp_object.specs.declared.datum.Datum.{Datum}
use Rattle.refused_part.specs.PartPlaces.{HasPart, items_inside}
use Rattle.refused_part.proofs.Parts.{joined_way}

pub item_there : (place : List ℕ) (i : ℕ) (form part item : Datum) → HasPart place form part → slice_get (items_inside part) i ≡ Some item → HasPart (place ++ i ∷ []) form item
item_there place i form part item has there = joined_way place (i ∷ []) form part item has (item, there, refl)
