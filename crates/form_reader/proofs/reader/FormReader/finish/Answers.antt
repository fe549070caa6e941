use Rattle.std.proofs.Common.{sym, ◌∙◌}
use Rattle.form_reader.proofs.Readers.{refused_finishes}
use Rattle.form_reader.proofs.Begun.{refuses_from}
use Rattle.form_reader.proofs.reader.FormReader.finish.Goals as goal

pub returns-in-Refused-clause-outcome : goal.returns-in-Refused-clause-outcome
returns-in-Refused-clause-outcome g c = λ bytes after. refused_finishes _ c.args.self bytes c.in-Refused.code c.in-Refused.at c.in-Refused.is after

pub returns-in-Open-clause-has_begun : goal.returns-in-Open-clause-has_begun
returns-in-Open-clause-has_begun g c = λ bytes has. refuses_from _ c.args.self c.in-Open.state bytes c.last_outcome.result c.in-Open.is has c.last_outcome.ensures.refuses

pub returns-in-Refused-clause-has_begun : goal.returns-in-Refused-clause-has_begun
returns-in-Refused-clause-has_begun g c = λ bytes has.
    let never = sym has.goes_on.1 ∙ c.in-Refused.is in
    absurd (cc)
