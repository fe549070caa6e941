-- Where a reader is in its innermost call: what is given there on a text, what a byte brings, and what keeps the reader going.
use Rattle.std.specs.Prelude.{ℕ, ◌≡◌, ◌+◌, ◌-◌, ◌≤◌, false, true, List, [], ◌∷◌, ◌++◌, length, Option, IsTrue, ◌&&◌, nat_le, Bool}
use Rattle.std_macros.specs.Values.{letters, marked, nothing as no_material}
use Rattle.lisp_reading.specs.declared.attempt.Found.{Found}
use Rattle.form_reader.specs.declared.stack.Frame.{Frame}
use Rattle.form_reader.specs.declared.state.State.{State}
use Rattle.form_reader.specs.declared.state.State.TheVariants.{Object as AtObject, Token as AtToken, CallToken as AtCallToken, Text as AtText, Escaped as AtEscaped, Line as AtLine, Block as AtBlock, Number as AtNumber}
use Rattle.form_reader.specs.declared.state.Event.{Event}
use Rattle.form_reader.specs.declared.state.Event.TheVariants.{Open as IsAt, Gives as IsGiven, Refused as IsRefused}
use Rattle.lisp_reading.specs.InvokedCalls.{keep_of}
use Rattle.form_reader.specs.declared.state.Moved.{Moved}
use Rattle.form_reader.specs.declared.state.Moved.TheVariants.{After as AfterByte, Before as BeforeByte}
use Rattle.lisp_reading.specs.Plans.{Plan, gives, then_plan, next_byte, Read, fault, run}
use Rattle.lisp_reading.specs.Setting.{Setting}
use Rattle.lisp_reading.specs.Reading.{text_to, line_after, block_after, dispatch_plan, completed_call, token_found, attempt, inner}
use Rattle.form_reader.specs.Token.{is_going, token_read}
use Rattle.form_reader.specs.Stack.{between_objects, plan_gives, token_goes_on}
use Rattle.lisp_reading.specs.declared.limits.Limits.{Limits}
use Rattle.form_reader.specs.declared.reader.ReaderState.{ReaderState}
use Rattle.form_reader.specs.declared.reader.ReaderState.TheVariants.{Open, Refused, OutOfMemory}
use Rattle.lisp_reading.specs.declared.attempt.Found.TheVariants.{Nothing as nothing, One as one, LoneDot as lone_dot, TheEnd as the_end}

-- an attempt where so many calls are open
abbrev pub attempt_at : Setting → ℕ → Plan Found
attempt_at setting open_calls = attempt setting (setting.limits.nesting - open_calls)

-- an attempt inside one more call, where one more may be open
abbrev pub inner_at : Setting → ℕ → Option (Plan Found)
inner_at setting open_calls = inner setting (setting.limits.nesting - open_calls)

-- what the outermost attempt comes to, at an offset counted from where it began
abbrev pub state_gives : Setting → List Frame → State → ℕ → List ℕ → Read Found
state_gives setting stack AtObject at cs = run setting.table setting.limits (between_objects setting stack) at cs
state_gives setting stack (AtToken scan) at cs =
    token_goes_on setting stack (token_found setting) (token_read setting.table setting.limits scan at cs)
state_gives setting stack (AtCallToken call scan) at cs =
    token_goes_on setting stack (λ marks. completed_call setting (length stack) call true false (marked marks))
    (token_read setting.table setting.limits scan at cs)
state_gives setting stack (AtText held) at cs =
    plan_gives setting stack (then_plan (text_to setting held.terminator held.text)
    (λ cs. completed_call setting (length stack) held.call false false (letters cs))) at cs
state_gives setting stack (AtEscaped held) at cs =
    plan_gives setting stack (then_plan (next_byte (λ d. text_to setting held.terminator (held.text ++ d ∷ [])))
    (λ cs. completed_call setting (length stack) held.call false false (letters cs))) at cs
state_gives setting stack (AtLine call text) at cs =
    plan_gives setting stack (then_plan (line_after setting (keep_of call.function) text)
    (λ cs. completed_call setting (length stack) call false false (letters cs))) at cs
state_gives setting stack (AtBlock call levels) at cs =
    plan_gives setting stack (then_plan (block_after setting levels)
    (λ u. completed_call setting (length stack) call false false no_material)) at cs
state_gives setting stack (AtNumber c number) at cs =
    plan_gives setting stack (dispatch_plan setting (length stack) (inner_at setting (length stack)) c number) at cs

-- What holds of where it is, at this offset: a token is not refused, and each block inside a block took a byte.
abbrev pub IsStateAt : ℕ → State → Type 0
IsStateAt at (AtToken scan) = IsTrue (is_going scan.stage)
IsStateAt at (AtCallToken call scan) = IsTrue (is_going scan.stage)
IsStateAt at (AtBlock call levels) = levels.0 ≤ at
IsStateAt at _ = Unit {0}

-- what was read is what this brings
abbrev pub Brings : Setting → List Frame → ℕ → List ℕ → Event → Read Found → Type 0
Brings setting stack at cs (IsAt state) read = read ≡ state_gives setting stack state at cs
Brings setting stack at cs (IsGiven found) read = read ≡ plan_gives setting stack (gives found) at cs
Brings setting stack at cs (IsRefused number offset) read = read ≡ fault number offset

-- What was read is what this brings, where it was brought at the byte at this offset: before it, or as it was taken.
abbrev pub Moves : Setting → List Frame → ℕ → ℕ → List ℕ → Moved → Read Found → Type 0
Moves setting stack at c cs (AfterByte event) read = Brings setting stack (at + 1) cs event read
Moves setting stack at c cs (BeforeByte event) read = Brings setting stack at (c ∷ cs) event read

-- a token is not refused, and each block inside a block took a byte
abbrev pub is_state_at : ℕ → State → Bool
is_state_at at (AtToken scan) = is_going scan.stage
is_state_at at (AtCallToken call scan) = is_going scan.stage
is_state_at at (AtBlock call levels) = nat_le levels.0 at
is_state_at at _ = true

-- The offset and the open calls are within the limits. After a refusal, or out of memory, nothing is asked.
abbrev pub is_standing : Limits → List Frame → ℕ → ReaderState → Bool
is_standing limits stack at (Open state) = nat_le at limits.text && (nat_le (length stack) limits.nesting && is_state_at at state)
is_standing limits stack at (Refused number offset) = true
is_standing limits stack at OutOfMemory = true

-- one character, where a token ended
abbrev pub discarded_space_length : Bool → ℕ
discarded_space_length true = 1
discarded_space_length false = 0

-- How much of the text after it may still matter: nothing; one character, which ended a token; the end of the text.
abbrev pub lookahead : Found → ℕ
lookahead (nothing token) = discarded_space_length token
lookahead (one token x) = discarded_space_length token
lookahead lone_dot = 1
lookahead the_end = 2

-- What a byte brings, at the offset after it: this offset is within the limit of the text, and nothing of what follows matters
-- to what was found; a refusal is at no later offset.
abbrev pub IsReady : Limits → ℕ → Event → Type 0
IsReady limits at (IsAt state) = (at ≤ limits.text) × IsStateAt at state
IsReady limits at (IsGiven found) = (at ≤ limits.text) × (lookahead found ≡ 0)
IsReady limits at (IsRefused number offset) = offset ≤ at

-- What a call or a token comes to where it ends: no more is gathered in it.
abbrev pub IsEnd : ℕ → ℕ → Event → Type 0
IsEnd most at (IsAt state) = ⊥
IsEnd most at (IsGiven found) = lookahead found ≤ most
IsEnd most at (IsRefused number offset) = offset ≤ at

-- An event has come with the byte at this offset, or right before it, and its places are within the text so far.
abbrev pub IsReadyMove : Limits → ℕ → Moved → Type 0
IsReadyMove limits at (AfterByte event) = IsReady limits (at + 1) event
IsReadyMove limits at (BeforeByte event) = IsEnd 1 at event
