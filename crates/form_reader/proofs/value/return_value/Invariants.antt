use Rattle.std.proofs.Common.{◌≡◌, ◌≤◌, ℕ, List, length}
use Rattle.lisp_reading.specs.Plans.{gives, run}
use Rattle.form_reader.specs.Context.{setting}
use Rattle.form_reader.specs.Stack.{outer_plan}
use Rattle.form_reader.specs.State.{lookahead}
use Rattle.form_reader.proofs.value.return_value.Given as goal

abbrev pub invariant-calls : goal.invariant-calls
invariant-calls g l =
    let setting = setting g.R.MacroFunctions.functions l.fn.with in
    ((cs : List ℕ) → run setting.table setting.limits (outer_plan setting l.fn.stack (gives l.fn.found)) l.fn.at cs
    ≡ run setting.table setting.limits (outer_plan setting l.stack (gives l.found)) l.fn.at cs)
    × (length l.stack ≤ length l.fn.stack)
    × (lookahead l.found ≤ lookahead l.fn.found)

abbrev pub decreases-calls : goal.decreases-calls
decreases-calls g l = length l.stack
