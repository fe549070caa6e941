-- What one byte is to a reader, wherever it is in a form: by the outcome of the whole text.
use Rattle.std.specs.Prelude.{ℕ, ◌≡◌, ◌+◌, ◌≤◌, List, [], length, Ok, ◌∷◌, ◌<◌, ◌&&◌, nat_lt, Bool, false, ◌⊎◌}
use Rattle.lisp_reading.specs.declared.attempt.Found.{Found}
use Rattle.form_reader.specs.declared.stack.Frame.{Frame}
use Rattle.lisp_reading.specs.declared.limits.Limits.{Limits}
use Rattle.form_reader.specs.declared.state.State.{State}
use Rattle.form_reader.specs.declared.state.State.TheVariants.{Object as AtObject}
use Rattle.form_reader.specs.declared.state.Event.{Event}
use Rattle.form_reader.specs.declared.state.Event.TheVariants.{Open as IsAt, Gives as IsGiven, Refused as IsRefused}
use Rattle.form_reader.specs.declared.step.Change.{Change}
use Rattle.form_reader.specs.declared.step.Change.TheVariants.{Goes, Form, Refused}
use Rattle.lisp_reading.specs.Plans.{Read, fault}
use Rattle.lisp_reading.specs.Setting.{Setting}
use Rattle.lisp_reading.specs.Deciding.{deciding, decided_at}
use Rattle.lisp_reading.specs.Reading.{ReadingResult, form, refused, outcome, reads_at, is_whitespace}
use Rattle.form_reader.specs.State.{IsStateAt, state_gives, lookahead, Brings, IsReady}
use Rattle.form_reader.specs.declared.step.object.Passed.{Passed}
use Rattle.form_reader.specs.declared.step.object.Passed.TheVariants.{Brings as PassedBrings, Done as PassedDone}
use Rattle.lisp_reading.specs.declared.attempt.Found.TheVariants.{Nothing as nothing}

-- What is read of the whole text, where the attempt that began at start comes to this; after discarded text a new one begins.
abbrev pub outcome_of : Setting → ℕ → Read Found → ReadingResult
outcome_of setting start read = outcome setting.table start (λ next cs. reads_at setting next cs) read

-- what is read of the whole text, where the attempt that began at start is in this state, so many bytes after it began, and these bytes follow
abbrev pub rest_of_attempt : Setting → List Frame → State → ℕ → ℕ → List ℕ → ReadingResult
rest_of_attempt setting stack state start at cs = outcome_of setting start (state_gives setting stack state at cs)

-- where the attempt begins that decides the text, where the attempt that began at start comes to this
abbrev pub start_of : Setting → ℕ → Read Found → ℕ
start_of setting start read = deciding start (λ next cs. decided_at setting next cs) read

-- what is read, and where what decides it begins
abbrev pub verdict_of : Setting → ℕ → Read Found → ReadingResult × ℕ
verdict_of setting start read = (outcome_of setting start read, start_of setting start read)

-- what a byte brings, after the open calls took what was found
abbrev pub Settles : Setting → List Frame → ℕ → List ℕ → Event → Read Found → Type 0
Settles setting stack at cs (IsAt state) read = read ≡ state_gives setting stack state at cs
Settles setting stack at cs (IsGiven found) read = (read ≡ Ok (found, at, cs)) × (stack ≡ [])
Settles setting stack at cs (IsRefused number offset) read = read ≡ fault number offset

-- What a change is to the verdict: more bytes decide it, or it is a form, or a refusal, of what begins there.
abbrev pub ChangesTo : Setting → List Frame → List ℕ → Change → ReadingResult × ℕ → Type 0
ChangesTo setting stack cs (Goes start at state) v = v ≡ verdict_of setting start (state_gives setting stack state at cs)
ChangesTo setting stack cs (Form x start «end» next) v = (v ≡ (form x start «end» next, start)) × (stack ≡ [])
ChangesTo setting stack cs (Refused start number offset) v = v ≡ (refused number offset, start)

-- where a reader may be in a form, so many bytes after it began
pub record IsStanding (limits : Limits) (stack : List Frame) (state : State) (at : ℕ) : Type 0 where
  pub within : at ≤ limits.text
  pub nesting : length stack ≤ limits.nesting
  pub levels : IsStateAt at state

-- the places of a change are within the text, of which so many bytes were taken
abbrev pub IsReadyChange : Limits → List Frame → ℕ → Change → Type 0
IsReadyChange limits stack count (Goes start at state) = IsStanding limits stack state at × (start + at ≡ count)
IsReadyChange limits stack count (Form x start «end» next) = (next ≤ count) × (count ≤ next + 1) × (length stack ≤ limits.nesting)
IsReadyChange limits stack count (Refused start number offset) = (start < count) × (offset ≤ count)

-- what the open calls made of it is within the limits
abbrev pub IsReadySettled : Limits → List Frame → ℕ → Event → Type 0
IsReadySettled limits stack at (IsAt state) = IsStanding limits stack state at
IsReadySettled limits stack at (IsGiven found) = (lookahead found ≡ 0) × (length stack ≤ limits.nesting)
IsReadySettled limits stack at (IsRefused number offset) = offset ≤ at

-- what is open after it, the object of the form, or what is refused, began at this offset or later
abbrev pub StepBeginsFrom : ℕ → Change → Type 0
StepBeginsFrom from (Goes start at state) = from ≤ start
StepBeginsFrom from (Form x start «end» next) = from ≤ start
StepBeginsFrom from (Refused start number offset) = from ≤ start

-- where the attempt that is open has no byte, nothing is open
abbrev pub OpensNothingAtStart : List Frame → Change → Type 0
OpensNothingAtStart stack (Goes start at state) = at ≡ 0 → (stack ≡ []) × (state ≡ AtObject)
OpensNothingAtStart stack (Form x start «end» next) = Unit {0}
OpensNothingAtStart stack (Refused start number offset) = Unit {0}

-- What a byte is to them after what was found before it: it is taken, and brings this; or the outermost attempt came to this
-- before it.
abbrev pub Passes : Setting → List Frame → ℕ → ℕ → List ℕ → Passed → Read Found → Type 0
Passes setting stack at c cs (PassedBrings event) read = Brings setting stack (at + 1) cs event read
Passes setting stack at c cs (PassedDone found) read = (read ≡ Ok (found, at, c ∷ cs)) × (stack ≡ [])

-- what a byte brings is within the limits, or the outermost attempt ended before it
abbrev pub IsReadyPass : Limits → ℕ → Passed → Type 0
IsReadyPass limits at (PassedBrings event) = IsReady limits (at + 1) event
IsReadyPass limits at (PassedDone found) = lookahead found ≤ 1

-- The byte is whitespace that is discarded where nothing is open.
abbrev pub is_space : Setting → ℕ → Bool
is_space setting c = nat_lt 0 setting.limits.text && is_whitespace setting.table c

-- at this offset, or nothing is open
abbrev pub StartsAt : ℕ → Change → Type 0
StartsAt from (Goes start at state) = (start ≡ from) ⊎ (at ≡ 0)
StartsAt from (Form x start «end» next) = Unit {0}
StartsAt from (Refused start number offset) = start ≡ from

-- What is open after a change, or what it refused, began with this byte, which is at this offset and is not discarded there; or nothing
-- is open.
abbrev pub StartsWith : Setting → ℕ → ℕ → Change → Type 0
StartsWith setting from c (Goes start at state) = (at ≡ 0) ⊎ ((start ≡ from) × (is_space setting c ≡ false))
StartsWith setting from c (Form x start «end» next) = Unit {0}
StartsWith setting from c (Refused start number offset) = (start ≡ from) × (is_space setting c ≡ false)

-- Where this was found so many bytes after an attempt began at start: what is open after a change began with this byte, and that attempt
-- had come to nothing, or nothing is open. What is refused began so too, or it is that attempt.
abbrev pub StartsAfter : Setting → Found → ℕ → ℕ → ℕ → Change → Type 0
StartsAfter setting found start at c (Goes from count state) =
    (count ≡ 0) ⊎ ((from ≡ start + at) × (is_space setting c ≡ false) × ((token : Bool) × (found ≡ nothing token)))
StartsAfter setting found start at c (Form x from «end» next) = Unit {0}
StartsAfter setting found start at c (Refused from number offset) =
    (from ≡ start) ⊎ ((from ≡ start + at) × (is_space setting c ≡ false) × ((token : Bool) × (found ≡ nothing token)))

-- An attempt that has so many bytes comes to nothing before this byte, which is not discarded where an attempt begins.
pub record AttemptEndsBefore (setting : Setting) (stack : List Frame) (state : State) (at c : ℕ) : Type 0 where
  pub token : Bool
  pub found : (cs : List ℕ) → state_gives setting stack state at (c ∷ cs) ≡ Ok (nothing token, at, c ∷ cs)
  pub other : is_space setting c ≡ false

-- where the attempt began in which this byte is taken; or nothing is open; or at this byte, before which that attempt ended
abbrev pub Starts : Setting → List Frame → State → ℕ → ℕ → ℕ → Change → Type 0
Starts setting stack state start at c (Goes next count there) =
    (next ≡ start) ⊎ ((count ≡ 0) ⊎ ((next ≡ start + at) × AttemptEndsBefore setting stack state at c))
Starts setting stack state start at c (Form x from «end» next) = Unit {0}
Starts setting stack state start at c (Refused from number offset) =
    (from ≡ start) ⊎ ((from ≡ start + at) × AttemptEndsBefore setting stack state at c)
