use Rattle.std.proofs.Common.{arith}
use Rattle.form_reader.proofs.Dispatches.{refusal_comes}
use Rattle.form_reader.proofs.value.return_of.Goals as goal

pub returns-in-Refused-clause-takes : goal.returns-in-Refused-clause-takes
returns-in-Refused-clause-takes c = λ setting stack cs.
    refusal_comes setting stack c.args.completed c.in-Refused.code c.in-Refused.back c.args.at c.saturating_sub.result cs c.in-Refused.is (omega (arith, c.saturating_sub.ensures))
