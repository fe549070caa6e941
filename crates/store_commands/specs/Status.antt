-- Exit statuses, and when each comes.
use Rattle.std.specs.Prelude.{◌≡◌, ◌≤◌, ◌⊎◌, ◌&&◌, if◌then◌else◌, ℕ, Bool, [], ◌∷◌, Result, Ok, Err}
use Rattle.clap.specs.Words.{Kinds}
use Rattle.clap.specs.declared.error.kind.ErrorKind.{ErrorKind}
use Rattle.clap.specs.declared.error.kind.ErrorKind.TheVariants.{DisplayHelp, DisplayVersion, OutOfMemory}
use Rattle.disk_trait.specs.declared.host.HostError.{HostError}
use Rattle.disk_trait.specs.declared.host.HostError.TheVariants as host
use Rattle.lisp_object.specs.declared.refusal.TheConstants.{DEVICE, DAMAGED, OUTPUT, NO_MEMORY}
use Rattle.sessions.specs.declared.ending.Ended.{Ended}
use Rattle.sessions.specs.declared.ending.Ended.TheVariants.{End, Store, Unaccepted, Unreadable}
use Rattle.diagnostics.specs.declared.fault.Unwritten.{Unwritten}
use Rattle.store_commands.specs.declared.status.Status.{Status}
use Rattle.store_commands.specs.declared.status.Status.TheVariants.{Done, Helped, FormRefused, Unanswered, WordsRefused, LeftOut, Fault}

-- the exit status
abbrev pub exit_code : Status → ℕ
exit_code Done = 0
exit_code Helped = 0
exit_code FormRefused = 1
exit_code Unanswered = 1
exit_code WordsRefused = 2
exit_code LeftOut = 3
exit_code (Fault number) = 3

-- the status after a session, by how it ended
abbrev pub status_of_ended : Ended → Status
status_of_ended End = Done
status_of_ended (Unreadable number place) = FormRefused
status_of_ended (Unaccepted number place) = FormRefused
status_of_ended (Store number) = Fault number

-- The status after a session, by how it ended, where it was strict or not, and it is known or not that nothing of a text was answered.
abbrev pub status_after : (strict unanswered : Bool) → Ended → Status
status_after strict unanswered End = if strict && unanswered then Unanswered else Done
status_after strict unanswered (Unreadable number place) = FormRefused
status_after strict unanswered (Unaccepted number place) = FormRefused
status_after strict unanswered (Store number) = Fault number

-- after a text that was written, or not whole
abbrev pub status_of_output : Result Unit Unwritten → Status
status_of_output (Ok written) = Done
status_of_output (Err unwritten) = Fault OUTPUT

-- the status where the system did not open the files
abbrev pub status_of_host : HostError → Status
status_of_host host.OutOfMemory = Fault NO_MEMORY
status_of_host _ = Fault DEVICE

-- after words that gave no command: help that was asked for, out of memory, or words that are refused
abbrev pub status_of_kind : ErrorKind → Status
status_of_kind DisplayHelp = Helped
status_of_kind DisplayVersion = Helped
status_of_kind OutOfMemory = Fault NO_MEMORY
status_of_kind _ = WordsRefused

-- the command was carried out: to its end, perhaps with nothing answered, or to a refusal that ended the session
abbrev pub IsCarriedOut : Status → Type 0
IsCarriedOut status = (status ≡ Done) ⊎ ((status ≡ Unanswered) ⊎ (status ≡ FormRefused))

-- nothing is told on standard error
abbrev pub IsQuiet : Status → Type 0
IsQuiet status = (status ≡ Done) ⊎ (status ≡ Helped)

-- the number is of the device, of the files, their limit, the input or the output, or of memory: 60, 62 to 68, or 90
abbrev pub IsFaultNumber : ℕ → Type 0
IsFaultNumber number = (number ≡ DEVICE) ⊎ (((DAMAGED ≤ number) × (number ≤ OUTPUT)) ⊎ (number ≡ NO_MEMORY))

-- where the status is that of a fault, it has the number of one
abbrev pub HasFaultNumber : Status → Type 0
HasFaultNumber status = (number : ℕ) → status ≡ Fault number → IsFaultNumber number

-- the words were taken: neither were they refused, nor did they ask for help
abbrev pub TakesWords : Status → Type 0
TakesWords Helped = ⊥
TakesWords WordsRefused = ⊥
TakesWords Done = Unit {0}
TakesWords FormRefused = Unit {0}
TakesWords Unanswered = Unit {0}
TakesWords LeftOut = Unit {0}
TakesWords (Fault number) = Unit {0}

-- the status after words that gave no command: that of their kind of error, or a fault of the output where help was not
-- written
abbrev pub IsStatusAfterWords : ErrorKind → Status → Type 0
IsStatusAfterWords kind status = (status ≡ status_of_kind kind) ⊎ ((status_of_kind kind ≡ Helped) × (status ≡ Fault OUTPUT))

-- no command was carried out: help was written or not, the words were refused, or memory ran out
abbrev pub IsOfWords : Status → Type 0
IsOfWords Done = ⊥
IsOfWords FormRefused = ⊥
IsOfWords Unanswered = ⊥
IsOfWords LeftOut = ⊥
IsOfWords Helped = Unit {0}
IsOfWords WordsRefused = Unit {0}
IsOfWords (Fault number) = (number ≡ NO_MEMORY) ⊎ (number ≡ OUTPUT)

-- after words that have these mistakes, one of which is told
abbrev pub IsAfterOneOf : Kinds → Status → Type 0
IsAfterOneOf [] status = ⊥
IsAfterOneOf (kind ∷ kinds) status = IsStatusAfterWords kind status ⊎ IsAfterOneOf kinds status

-- How the program ends after words that have these mistakes. Where there is none the words are taken. Else one of them is told, or
-- memory ran out.
abbrev pub EndsAfter : Kinds → Status → Type 0
EndsAfter [] status = TakesWords status
EndsAfter (kind ∷ kinds) status = (status ≡ Fault NO_MEMORY) ⊎ IsAfterOneOf (kind ∷ kinds) status
