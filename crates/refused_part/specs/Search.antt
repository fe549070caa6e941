-- What a search for the part that is refused has come to.
use Rattle.std.specs.Prelude.{◌≡◌, ℕ, List, true}
use Rattle.lisp_object.specs.Datum.{object_of, is_proper}
use Rattle.lisp_object.specs.Object.{AllAtoms}
use Rattle.lisp_object.specs.declared.datum.Datum.{Datum}
use Rattle.package_table.specs.Table.{Name, Table}
use Rattle.plist_state.specs.State.{WorldState}
use Rattle.form_eval.specs.Laws.{FitsTable}
use Rattle.refused_part.specs.Part.{is_refused_at}
use Rattle.refused_part.specs.PartPlaces.{HasPart}
use Rattle.refused_part.specs.declared.placed.PlacedPart.{PlacedPart}

-- a proper datum whose symbols fit
abbrev pub MayTry : Table → Datum → Type 0
MayTry t d = (is_proper d ≡ true) × AllAtoms (FitsTable t) (object_of d)

-- a form has the part at its place
abbrev pub IsPlacedIn : Datum → PlacedPart → Type 0
IsPlacedIn form part = HasPart part.place.items form part.part.now

-- a part was found that is refused at its place
abbrev pub IsFoundPart : List Name → WorldState → ℕ → Datum → PlacedPart → Type 0
IsFoundPart names s number form found = IsPlacedIn form found × (is_refused_at names s number (object_of form) found.place.items (object_of found.part.now) ≡ true)
