-- What a crash leaves of a store in which messages were answered.
use Rattle.std.specs.Prelude.{◌≡◌, ◌⊎◌, pos, true, Some}
use Rattle.lisp_object.specs.Object.{integer}
use Rattle.plist_state.specs.State.{WorldState}
use Rattle.messages.specs.MessageAnswers.{Round}
use Rattle.messages.specs.Position.{position_property}

-- The world before requests; or the one after all of them, if a message wrote, and its position is the number of the last message.
abbrev pub IsBeforeOrAfter : WorldState → Round → WorldState → Type 0
IsBeforeOrAfter world round now = (now ≡ world) ⊎ ((round.wrote ≡ true) × (now ≡ round.left) × (position_property now ≡ Some (integer (pos round.last))))
