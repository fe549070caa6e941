-- What the open calls make of what is found in the innermost.
use Rattle.std.specs.Prelude.{ℕ, ◌≡◌, ◌≤◌, ◌<◌, List, [], length, Ok}
use Rattle.form_reader.specs.declared.value.Return.{Return}
use Rattle.form_reader.specs.declared.value.Return.TheVariants.{Waits, Gives as ReturnGives, Refused as ReturnRefused}
use Rattle.lisp_reading.specs.declared.attempt.Found.{Found}
use Rattle.form_reader.specs.declared.stack.Frame.{Frame}
use Rattle.lisp_reading.specs.Plans.{Read, fault, gives}
use Rattle.lisp_reading.specs.Setting.{Setting}
use Rattle.form_reader.specs.Stack.{plan_gives, next_item_gives}
use Rattle.form_reader.specs.State.{discarded_space_length, lookahead}

-- What the innermost makes of it, after which these calls are open: it goes on, perhaps after one whitespace character; or it
-- comes to this; or it is refused.
abbrev pub AttemptTakes : Setting → List Frame → ℕ → List ℕ → Return → Read Found → Type 0
AttemptTakes setting stack at cs (Waits token) read = read ≡ next_item_gives setting token stack at cs
AttemptTakes setting stack at cs (ReturnGives found) read = read ≡ plan_gives setting stack (gives found) at cs
AttemptTakes setting stack at cs (ReturnRefused number offset) read = read ≡ fault number offset

-- No more calls are open after it, and fewer where the innermost ended.
abbrev pub ShortensOpenCalls : List Frame → List Frame → Return → Type 0
ShortensOpenCalls stack after (Waits token) = length after ≤ length stack
ShortensOpenCalls stack after (ReturnGives found) = length after < length stack
ShortensOpenCalls stack after (ReturnRefused number offset) = length after ≤ length stack

-- What all open calls make of it.
abbrev pub Returns : Setting → List Frame → ℕ → List ℕ → Return → Read Found → Type 0
Returns setting stack at cs (Waits token) read = read ≡ next_item_gives setting token stack at cs
Returns setting stack at cs (ReturnGives found) read = (read ≡ Ok (found, at, cs)) × (stack ≡ [])
Returns setting stack at cs (ReturnRefused number offset) read = read ≡ fault number offset

-- What open calls make of what is found at this offset: no more of the text matters to it.
abbrev pub IsReturnAt : ℕ → ℕ → Return → Type 0
IsReturnAt most at (Waits token) = discarded_space_length token ≤ most
IsReturnAt most at (ReturnGives found) = lookahead found ≤ most
IsReturnAt most at (ReturnRefused number offset) = offset ≤ at
