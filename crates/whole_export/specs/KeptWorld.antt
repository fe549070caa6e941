-- The state that the forms of an export make, where properties are left out: the state without these.
use Rattle.std.specs.Prelude.{◌≡◌, ◌≢◌, [], Some}
use Rattle.std.specs.List.{filter}
use Rattle.std.specs.FinMap as finite
use Rattle.plist_state.specs.Properties.{Symbol, Plist}
use Rattle.plist_state.specs.State.{WorldState}
use Rattle.plist_state.specs.Changes.{plist}
use Rattle.world_forms.specs.Properties.{is_form, property_form}

-- the properties of a symbol whose forms are read, in their order
abbrev pub kept_properties : WorldState → Symbol → Plist
kept_properties s x = filter (λ p. is_form s.packages (property_form s.packages x p)) (plist s x)

-- All but the properties is as in s, and each symbol has those whose forms are read; one that has none of these has no list.
pub record IsWithoutLeftOut (s w : WorldState) : Type 0 where
  pub others : w ≡ record s { properties = w.properties }
  pub lists : (x : Symbol) → plist w x ≡ kept_properties s x
  pub some : (x : Symbol) (ps : Plist) → finite.get w.properties x ≡ Some ps → ps ≢ []
