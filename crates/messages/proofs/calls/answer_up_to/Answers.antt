use Rattle.std.proofs.Common.{rules, Err, IsSome, sym, subst}
use Rattle.std.proofs.lemmas.Result.{IfErr-weaker}
use Rattle.messages.specs.declared.first_requests.FirstRequests.{FirstRequests}
use Rattle.messages.specs.MessageCalls.{AnswersRequests}
use Rattle.messages.specs.Turn.{front_requests}
use Rattle.prevalence_store.proofs.calls.Executing.{known_world}
use Rattle.messages.proofs.Owned.{no_device}
use Rattle.messages.proofs.Settling.{refused_unchanged, replies_logged, replies_unlogged}
use Rattle.messages.proofs.calls.answer_up_to.Goals as goal

pub returns-in-Ok-clause-answer : goal.returns-in-Ok-clause-answer
returns-in-Ok-clause-answer g c = λ world known.
    let turn : FirstRequests = record { last = c.args.last; requests = c.args.requests; most = c.args.most } in
    replies_logged g.R.Meaning.Meaning.functions turn world g.D.Disk.state c.args.store.now c.together.new.self c.in-Ok.made (c.in-Ok.ensures.made world known)

pub returns-in-Ok-clause-unchanged : goal.returns-in-Ok-clause-unchanged
returns-in-Ok-clause-unchanged g c =
    let is_open : IsSome c.args.store.now.world = search rules in
    let here = known_world c.args.store.now.world is_open in
    let turn : FirstRequests = record { last = c.args.last; requests = c.args.requests; most = c.args.most } in
    IfErr-weaker c.in-Ok.made _ _ (λ number same. λ other. same)
    (refused_unchanged g.R.Meaning.Meaning.functions turn here.0 g.D.Disk.state c.args.store.now c.together.new.self c.in-Ok.made (c.in-Ok.ensures.made here.0 here.1))

pub returns-in-Err-clause-answer : goal.returns-in-Err-clause-answer
returns-in-Err-clause-answer g c = λ world known.
    let functions = g.R.Meaning.Meaning.functions in
    let turn : FirstRequests = record { last = c.args.last; requests = c.args.requests; most = c.args.most } in
    subst (λ n. AnswersRequests functions g.D.Disk.state c.args.store.now c.together.new.self world c.args.last (front_requests functions turn world) (Err n)) (sym c.number.ensures)
    (replies_unlogged functions turn world g.D.Disk.state c.args.store.now c.together.new.self c.in-Err.cause (c.in-Err.ensures.left world known))

pub returns-in-Err-clause-unchanged : goal.returns-in-Err-clause-unchanged
returns-in-Err-clause-unchanged g c = λ other.
    let is_open : IsSome c.args.store.now.world = search rules in
    let here = known_world c.args.store.now.world is_open in
    (c.in-Err.ensures.left here.0 here.1).unchanged (no_device c.in-Err.cause c.number.result c.number.ensures other)
