-- How a call begins.
use Rattle.std.specs.Prelude.{ℕ, Bool, true, false, List, [], length}
use Rattle.lisp_reading.specs.declared.way.Way.{Way}
use Rattle.lisp_reading.specs.declared.way.Way.TheVariants.{Next, List as ListWay, Until}
use Rattle.form_reader.specs.declared.stack.Frame.{Frame}
use Rattle.form_reader.specs.declared.stack.Part.{Part}
use Rattle.form_reader.specs.declared.stack.Part.TheVariants.{Next as InNext, List as InList, Until as InUntil, Dotted as InDotted, Tailed as InTailed}
use Rattle.form_reader.specs.declared.state.Event.{Event}
use Rattle.lisp_reading.specs.InvokedCalls.{InvokedCall}
use Rattle.lisp_reading.specs.Setting.{Setting}
use Rattle.lisp_reading.specs.Reading.{gathering_plan, call_plan}
use Rattle.form_reader.specs.Stack.{plan_gives}
use Rattle.form_reader.specs.State.{inner_at, Brings}

-- the way in which a call gathers that reads objects
abbrev pub way_of_part : Part → Way
way_of_part InNext = Next
way_of_part (InList xs) = ListWay
way_of_part (InUntil close xs) = Until close
way_of_part (InDotted xs) = ListWay
way_of_part (InTailed xs tail) = ListWay

-- it has read none yet
abbrev pub has_no_object : Part → Bool
has_no_object InNext = true
has_no_object (InList []) = true
has_no_object (InUntil close []) = true
has_no_object _ = false

-- a call begins in these open calls, after which there are those
abbrev pub CallBegins : Setting → List Frame → List Frame → InvokedCall → ℕ → List ℕ → Event → Type 0
CallBegins setting after stack call at cs event =
    Brings setting after at cs event (plan_gives setting stack (call_plan setting (length stack) (inner_at setting (length stack)) call) at cs)

-- it gathers in this way
abbrev pub CallGathers : Setting → List Frame → List Frame → InvokedCall → Way → ℕ → List ℕ → Event → Type 0
CallGathers setting after stack call way at cs event =
    Brings setting after at cs event (plan_gives setting stack (gathering_plan setting (length stack) (inner_at setting (length stack)) call way) at cs)
