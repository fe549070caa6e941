-- What contracts see of the entry of a character and of a readtable.
use Rattle.readtable_core.specs.declared.entry.CharacterSlot.TheInside.{Inside as EntryInside}
use Rattle.readtable_core.specs.Tables.{CharacterEntry}
use Rattle.readtable_core.specs.Sound.{IsCharacterEntry}

-- an entry of the program, as one of the logic
abbrev pub character_entry : EntryInside → CharacterEntry
character_entry e = record { syntax = e.syntax; function = e.function; dispatch = e.dispatch.items }

-- what holds of each entry
abbrev pub IsKeptEntry : EntryInside → Type 0
IsKeptEntry e = IsCharacterEntry (character_entry e)
