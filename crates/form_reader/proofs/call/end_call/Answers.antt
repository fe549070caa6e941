use Rattle.std.proofs.Common.{arith}
use Rattle.form_reader.specs.Context.{setting}
use Rattle.form_reader.proofs.Calls.{call_ends}
use Rattle.form_reader.proofs.Calls.{end_within, or_none}
use Rattle.form_reader.proofs.call.end_call.Goals as goal

pub returns-clause-brings : goal.returns-clause-brings
returns-clause-brings g c = λ stack cs open_calls.
    let setting = setting g.R.MacroFunctions.functions c.args.with.now in
    call_ends setting stack c.args.call.now c.args.at cs c.args.token _ c.args.depth c.in_ok-call_value.field-0 c.event_of.result open_calls c.in_ok-call_value.ensures.gives (c.event_of.ensures.comes setting stack cs)

pub returns-clause-ends : goal.returns-clause-ends
returns-clause-ends g c = end_within _ _ c.args.at c.event_of.result c.event_of.ensures.ends (omega (arith, c.in_ok-call_value.ensures.ends, or_none c.args.token))
