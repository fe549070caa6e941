-- Two rounds of which the next requests make the same.
use Rattle.std.specs.Prelude.{◌≡◌, ◌≢◌, [], Some}
use Rattle.std.specs.FinMap as finite
use Rattle.plist_state.specs.Properties.{Plist, Properties, Symbol}
use Rattle.plist_state.specs.Sound.{IsApart}
use Rattle.messages.specs.MessageAnswers.{Round}
use Rattle.messages.specs.Position.{without_position}

-- a property list that is there has a property, and no indicator twice
abbrev pub IsTidy : Properties → Type 0
IsTidy m = (x : Symbol) (ps : Plist) → finite.get m x ≡ Some ps → (ps ≢ []) × IsApart ps

-- The last numbers are the same, and the worlds but for the position.
pub record Near (a b : Round) : Type 0 where
  pub last : a.last ≡ b.last
  pub tidy : IsTidy a.left.properties
  pub other_tidy : IsTidy b.left.properties
  pub same : without_position a.left ≡ without_position b.left
