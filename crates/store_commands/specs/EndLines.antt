-- What is told on standard error as the program ends.
use Rattle.std.specs.Prelude.{◌≡◌, ◌⊎◌, ℕ, List, [], Option, codes}
use Rattle.sessions.specs.declared.ending.Ended.{Ended}
use Rattle.sessions.specs.declared.ending.Ended.TheVariants as ways
use Rattle.diagnostics.specs.Faults.{IsFaultText}
use Rattle.sessions.specs.Streams.{Writes, WritesPart}
use Rattle.diagnostics.specs.Refusals.{line_of}
use Rattle.diagnostics.specs.declared.refusal.Refusal.{Refusal}
use Rattle.store_commands.specs.declared.status.Status.{Status}
use Rattle.store_commands.specs.declared.status.Status.TheVariants as statuses
use Rattle.store_commands.specs.declared.told.Remark.{Remark}
use Rattle.store_commands.specs.declared.told.Remark.TheVariants.{Nothing, Cause, LeftOut, Refused}

-- the text, or, if that failed, a part of it from its front
abbrev pub WritesSome : Option (List ℕ) → Option (List ℕ) → List ℕ → Type 0
WritesSome held written text = Writes held written text ⊎ WritesPart held written text

-- after a refusal that ended the session the line on it
abbrev pub TellsRefusal : Remark → Option (List ℕ) → Option (List ℕ) → Type 0
TellsRefusal (Refused refusal) held written = WritesSome held written (line_of refusal)
TellsRefusal Nothing held written = written ≡ held
TellsRefusal (Cause error) held written = written ≡ held
TellsRefusal (LeftOut lines) held written = written ≡ held

-- the line after a strict session that answered nothing of a text
abbrev pub unanswered_line : List ℕ
unanswered_line = codes "no form of the input was answered: the readtable makes comments of it; --rescue reads under the standard one\n"

-- the lines on what was left out of an export
abbrev pub left_out_of : Remark → List ℕ
left_out_of (LeftOut lines) = lines.items
left_out_of Nothing = []
left_out_of (Cause error) = []
left_out_of (Refused refusal) = []

-- After a fault that is told, after an export what was left out of it, after a refusal that ended the session where that was, and after
-- a strict session that answered nothing a line.
abbrev pub TellsFault : Status → Remark → Option (List ℕ) → Option (List ℕ) → Type 0
TellsFault (statuses.Fault number) told held written = (text : List ℕ) × IsFaultText number text × WritesSome held written text
TellsFault statuses.FormRefused told held written = TellsRefusal told held written
TellsFault statuses.Unanswered told held written = WritesSome held written unanswered_line
TellsFault statuses.LeftOut told held written = WritesSome held written (left_out_of told)
TellsFault statuses.Done told held written = Unit {0}
TellsFault statuses.Helped told held written = Unit {0}
TellsFault statuses.WordsRefused told held written = Unit {0}

-- If a session ended with a refusal, that is told.
abbrev pub IsToldOf : Ended → Remark → Type 0
IsToldOf ways.End told = Unit {0}
IsToldOf (ways.Unreadable number place) told = (refusal : Refusal) × (told ≡ Refused refusal) × (refusal.number ≡ number) × (refusal.place ≡ place)
IsToldOf (ways.Unaccepted number place) told = (refusal : Refusal) × (told ≡ Refused refusal) × (refusal.number ≡ number) × (refusal.place ≡ place)
IsToldOf (ways.Store number) told = Unit {0}
