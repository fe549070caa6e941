-- The status after a text that was written to a stream.
use Rattle.std.specs.Prelude.{◌≡◌, ◌⊎◌, ℕ, List, Option}
use Rattle.lisp_object.specs.declared.refusal.TheConstants.{OUTPUT, NO_MEMORY}
use Rattle.sessions.specs.Streams.{Writes}
use Rattle.diagnostics.specs.StreamTexts.{WritesFront}
use Rattle.store_commands.specs.declared.status.Status.{Status}
use Rattle.store_commands.specs.declared.status.Status.TheVariants.{Done, Helped, FormRefused, Unanswered, WordsRefused, LeftOut, Fault}

-- The text was written and flushed; or a part of it from its front, and the output failed, perhaps at the flush after all of it;
-- or nothing, as memory was refused.
abbrev pub TellsText : Status → Option (List ℕ) → Option (List ℕ) → List ℕ → Type 0
TellsText Done held written text = Writes held written text
TellsText (Fault number) held written text = ((number ≡ OUTPUT) × WritesFront held written text) ⊎ ((number ≡ NO_MEMORY) × (written ≡ held))
TellsText Helped held written text = ⊥
TellsText FormRefused held written text = ⊥
TellsText Unanswered held written text = ⊥
TellsText WordsRefused held written text = ⊥
TellsText LeftOut held written text = ⊥
