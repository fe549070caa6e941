use Rattle.std.proofs.Common.{ap, ◌∙◌}
use Rattle.client_table.proofs.table.tell.Goals as goal
use Rattle.messages.specs.MessageAnswers.{with_answer}
use Rattle.messages.specs.Rounds.{round_in}
use Rattle.prevalence_store.proofs.steps.Taking.{ok_on}

pub returns-in-Ok-clause-answered : goal.returns-in-Ok-clause-answered
returns-in-Ok-clause-answered c = ok_on c.push.result (λ told s. told s ∙ ap (λ t. with_answer t c.args.wrote (round_in c.args.round.now s)) c.in-Ok.ensures.items) c.push.ensures.answered
