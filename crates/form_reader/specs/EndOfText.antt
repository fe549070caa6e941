-- What the end of the text is to a token and to a call.
use Rattle.std.specs.Prelude.{ℕ, ◌≡◌, ◌≤◌, [], Ok, Option, Some, None}
use Rattle.readtable_core.specs.Tables.{Table}
use Rattle.token_scan.specs.ByteByByte.{Scan}
use Rattle.token_scan.specs.declared.stage.Stage.TheVariants.{Outside}
use Rattle.lisp_reading.specs.declared.limits.Limits.{Limits}
use Rattle.form_reader.specs.declared.state.Event.{Event}
use Rattle.form_reader.specs.declared.state.Event.TheVariants.{Open as IsAt, Gives as IsGiven, Refused as IsRefused}
use Rattle.form_reader.specs.declared.state.State.TheVariants.{Object as AtObject}
use Rattle.form_reader.specs.declared.reader.ReadOutcome.{ReadOutcome}
use Rattle.form_reader.specs.declared.reader.ReadOutcome.TheVariants.{Refused as ReadRefused}
use Rattle.lisp_reading.specs.declared.attempt.Found.{Found}
use Rattle.lisp_reading.specs.Plans.{Read, fault}
use Rattle.lisp_reading.specs.Setting.{Setting}
use Rattle.form_reader.specs.Step.{start_of}
use Rattle.form_reader.specs.Token.{token_read}

-- it ends the token; or the token is refused
abbrev pub TokenStops : Table → Limits → Scan → ℕ → Option ℕ → Type 0
TokenStops table limits scan at None = (token_read table limits scan at [] ≡ Ok (scan.marks, at, [])) × (scan.stage ≡ Outside)
TokenStops table limits scan at (Some number) = token_read table limits scan at [] ≡ fault number at

-- Only where an object may begin is more waited for; a refusal is at no later offset.
abbrev pub IsLastEvent : ℕ → Event → Type 0
IsLastEvent at (IsAt state) = state ≡ AtObject
IsLastEvent at (IsGiven found) = Unit {0}
IsLastEvent at (IsRefused number offset) = offset ≤ at

-- where the outcome is a refusal, it is of the attempt that began at start, which comes to this
abbrev pub RefusesIn : Setting → ℕ → Read Found → ReadOutcome → Type 0
RefusesIn setting start read (ReadRefused number offset) = start_of setting start read ≡ start
RefusesIn setting start read _ = Unit {0}

-- no more is waited for
abbrev pub IsLastSettled : ℕ → Event → Type 0
IsLastSettled at (IsAt state) = ⊥
IsLastSettled at (IsGiven found) = Unit {0}
IsLastSettled at (IsRefused number offset) = offset ≤ at
