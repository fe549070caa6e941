-- What the calls of functions come to.
use Rattle.form_reader.specs.declared.call.CallValue.{CallValue}
use Rattle.form_reader.specs.declared.call.CallValue.TheVariants.{Gives, Refused}
use Rattle.lisp_reading.specs.declared.attempt.Found.{Found}
use Rattle.lisp_reading.specs.Plans.{Plan, gives, refuses}
use Rattle.std.specs.Prelude.{ℕ, List}
use Rattle.form_reader.specs.declared.stack.Frame.{Frame}
use Rattle.form_reader.specs.declared.state.Event.{Event}
use Rattle.lisp_reading.specs.Setting.{Setting}
use Rattle.lisp_reading.specs.Reading.{completed_call}
use Rattle.form_reader.specs.Stack.{plan_gives}
use Rattle.form_reader.specs.State.{Brings, lookahead}

-- the plan that was found
abbrev pub plan_of : CallValue → Plan Found
plan_of (Gives found) = gives found
plan_of (Refused number back) = refuses number back

-- how much of the text after it may still matter to what a call comes to
abbrev pub value_lookahead : CallValue → ℕ
value_lookahead (Gives found) = lookahead found
value_lookahead (Refused number back) = 0

-- a call comes to this in these open calls
abbrev pub CallComesTo : Setting → List Frame → CallValue → ℕ → List ℕ → Event → Type 0
CallComesTo setting stack completed at cs event =
    Brings setting stack at cs event (plan_gives setting stack (plan_of completed) at cs)
