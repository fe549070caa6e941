use Rattle.lisp_reading.proofs.Numbers.{refusal_numbered}
use Rattle.lisp_reading.proofs.laws.refusals_are_of_reading.Goals as goal

pub returns : goal.returns
returns c = refusal_numbered
