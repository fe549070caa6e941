use Rattle.std.proofs.Common.{◌<◌, ◌≤◌, length}
use Rattle.lisp_object.specs.declared.refusal.TheConstants.{REOPEN}
use Rattle.messages.specs.declared.request.Replies.{Replies}
use Rattle.messages.proofs.Fronts.{by_world, first_answered, most_answered, some_answered}
use Rattle.messages.proofs.calls.answer_first_requests.Goals as goal

pub returns-clause-answer : goal.returns-clause-answer
returns-clause-answer g c = λ world known.
    first_answered g.R.Meaning.Meaning.functions g.D.Disk.state c.args.store.now c.answer_up_to.new.store world c.args.last c.args.requests.now c.answer_up_to.result
    (c.answer_up_to.ensures.answer world known)

pub returns-clause-most : goal.returns-clause-most
returns-clause-most g c =
    by_world (λ (replies : Replies). length replies.answers.items ≤ length c.args.requests.now) c.args.store.now.world REOPEN c.answer_up_to.result (λ none. (c.answer_up_to.ensures.reopen none).0)
    (λ world known.
    most_answered g.R.Meaning.Meaning.functions g.D.Disk.state c.args.store.now c.answer_up_to.new.store world c.args.last c.args.requests.now c.answer_up_to.result
    (first_answered g.R.Meaning.Meaning.functions g.D.Disk.state c.args.store.now c.answer_up_to.new.store world c.args.last c.args.requests.now c.answer_up_to.result
    (c.answer_up_to.ensures.answer world known)))

pub returns-clause-some : goal.returns-clause-some
returns-clause-some g c = λ some.
    by_world (λ (replies : Replies). 0 < length replies.answers.items) c.args.store.now.world REOPEN c.answer_up_to.result (λ none. (c.answer_up_to.ensures.reopen none).0)
    (λ world known.
    some_answered g.R.Meaning.Meaning.functions g.D.Disk.state c.args.store.now c.answer_up_to.new.store world c.args.last c.args.requests.now c.answer_up_to.result some
    (first_answered g.R.Meaning.Meaning.functions g.D.Disk.state c.args.store.now c.answer_up_to.new.store world c.args.last c.args.requests.now c.answer_up_to.result
    (c.answer_up_to.ensures.answer world known)))
