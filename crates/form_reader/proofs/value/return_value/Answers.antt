use Rattle.std.proofs.Common.{arith}
use Rattle.form_reader.specs.Context.{setting}
use Rattle.form_reader.proofs.Values.{none_left}
use Rattle.form_reader.proofs.Steps.{none_open}
use Rattle.form_reader.proofs.value.return_value.Goals as goal

pub returns-clause-value : goal.returns-clause-value
returns-clause-value g c = λ cs.
    let setting = setting g.R.MacroFunctions.functions c.args.with.now in
    let none = none_open c.calls.stack (omega (arith, c.len.ensures, c.calls-test.false)) in
    (none_left setting c.args.stack.now c.calls.stack c.args.found c.calls.found c.args.at cs c.calls.invariant.0 none, none)
