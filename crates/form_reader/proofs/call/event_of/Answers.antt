use Rattle.std.proofs.Common.{arith}
use Rattle.form_reader.proofs.Dispatches.{refusal_comes}
use Rattle.form_reader.proofs.call.event_of.Goals as goal

pub returns-in-Refused-clause-comes : goal.returns-in-Refused-clause-comes
returns-in-Refused-clause-comes c = λ setting stack cs.
    refusal_comes setting stack c.args.completed c.in-Refused.code c.in-Refused.back c.args.at c.saturating_sub.result cs c.in-Refused.is (omega (arith, c.saturating_sub.ensures))
