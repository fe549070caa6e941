use Rattle.std.proofs.Common.{List, subst}
use Rattle.messages.specs.declared.request.Request.{Request}
use Rattle.messages.specs.MessageAnswers.{first_round}
use Rattle.messages.specs.MessageCalls.{AnswersRequests}
use Rattle.messages.proofs.Fronts.{first_all}
use Rattle.messages.proofs.calls.answer_requests.Goals as goal

pub returns-clause-answer : goal.returns-clause-answer
returns-clause-answer g c = λ world known.
    subst (λ (requests : List Request). AnswersRequests g.R.Meaning.Meaning.functions g.D.Disk.state c.args.store.now c.answer_up_to.new.store world c.args.last requests c.answer_up_to.result)
    (first_all g.R.Meaning.Meaning.functions (first_round c.args.last world) c.args.requests.now) (c.answer_up_to.ensures.answer world known)
