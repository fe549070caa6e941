use Rattle.std.proofs.Common.{arith}
use Rattle.form_reader.proofs.EndOfText.{none_waits, some_waits}
use Rattle.form_reader.proofs.end_of_text.end_at_object.Goals as goal

pub returns-then-calls-eq0-clause-settles : goal.returns-then-calls-eq0-clause-settles
returns-then-calls-eq0-clause-settles c = λ setting stack open_calls h. none_waits setting stack c.args.at h (omega (arith, open_calls, c.if-calls-eq0.true))

pub returns-clause-settles : goal.returns-clause-settles
returns-clause-settles c = λ setting stack open_calls h. some_waits setting stack c.args.at h (λ e. omega (arith, e, open_calls, c.if-calls-eq0.false))
