-- An entry, and a message, in memory.
use Rattle.std.specs.Prelude.{ℕ, List, Option, Ok, Err, option_map}
use Rattle.client_table.specs.Entries.{KeptMessage}
use Rattle.client_table.specs.declared.entry.Entry.{Entry}
use Rattle.client_table.specs.declared.entry.KeptAnswer.{KeptAnswer}
use Rattle.client_table.specs.declared.entry.KeptAnswer.TheVariants.{Whole, Count}
use Rattle.client_table.specs.declared.table.ClientMessage.{ClientMessage}

-- what is kept of a message, as the definitions have what memory holds
abbrev pub kept_told : KeptAnswer → KeptMessage
kept_told (Whole form answer) = Ok (form.now, answer.now)
kept_told (Count form) = Err form

-- an entry, as the definitions have what memory holds
abbrev pub entry_told : Entry → ℕ × KeptMessage
entry_told held = (held.number, kept_told held.kept)

-- the form of a message, which one of a client that goes has not
abbrev pub form_told : ClientMessage → Option (List ℕ)
form_told message = option_map (λ form. form.now) message.form
