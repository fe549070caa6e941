-- From which property list a change took a property out.
use Rattle.std.specs.Prelude.{ℕ, Option, Some, None}
use Rattle.plist_state.specs.declared.note.PropertyChange.TheVariants.{Removed}
use Rattle.plist_state.specs.declared.note.Note.{Note}
use Rattle.plist_state.specs.declared.note.Note.TheVariants.{Property}

-- the number of the symbol of that list
abbrev pub shortened_symbol : Note → Option ℕ
shortened_symbol (Property number (Removed index property)) = Some number
shortened_symbol _ = None
