-- How a session over the text of an export ends.
use Rattle.std.specs.Prelude.{◌≡◌, Option, Some}
use Rattle.plist_state.specs.State.{WorldState}
use Rattle.sessions.specs.declared.ending.Ended.{Ended}
use Rattle.sessions.specs.declared.ending.Ended.TheVariants.{End, Store}

-- The store has the world at the end of the input. Or a fault ended the session, or the want of room or memory; no refusal does.
abbrev pub EndsWith : Option WorldState → WorldState → Ended → Type 0
EndsWith left world End = left ≡ Some world
EndsWith left world (Store number) = Unit {0}
EndsWith left world _ = ⊥
