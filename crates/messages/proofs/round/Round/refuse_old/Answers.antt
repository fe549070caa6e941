use Rattle.std.proofs.Common.{false, ap, ◌∙◌}
use Rattle.messages.specs.MessageAnswers.{with_answer}
use Rattle.messages.specs.Rounds.{round_in}
use Rattle.prevalence_store.proofs.steps.Taking.{ok_on}
use Rattle.messages.proofs.round.Round.refuse_old.Goals as goal

pub returns-in-Ok : goal.returns-in-Ok
returns-in-Ok c = record { answered = ok_on c.push.result (λ pushed s. pushed s ∙ ap (λ t. with_answer t false (round_in c.args.self.now s)) c.in-Ok.ensures) c.push.ensures.pushed }
