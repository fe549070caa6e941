use Rattle.std.proofs.Common.{◌<◌, ◌≤◌, rules, Err, IsSome, Some, length, sym, subst}
use Rattle.std.proofs.lemmas.Result.{IfErr-weaker}
use Rattle.client_table.specs.declared.turn.FirstAsked.{FirstAsked}
use Rattle.client_table.specs.CallsByName.{AnswersAllAsked}
use Rattle.client_table.specs.Turn.{asked_front}
use Rattle.client_table.proofs.Fronts.{first_answered, most_answered, some_answered}
use Rattle.client_table.proofs.Settling.{refused_unchanged, replies_logged, replies_unlogged}
use Rattle.prevalence_store.proofs.calls.Executing.{known_world}
use Rattle.messages.proofs.Owned.{no_device}
use Rattle.client_table.proofs.calls.answer_first_asked.Goals as goal

pub returns-in-Ok-clause-answer : goal.returns-in-Ok-clause-answer
returns-in-Ok-clause-answer g c = λ world known.
    let turn : FirstAsked = record { last = c.args.last; most = c.args.most; asked = c.args.asked } in
    let functions = g.R.Meaning.Meaning.functions in
    first_answered functions c.args.most g.D.Disk.state c.args.store.now c.together.new.self world c.args.last c.args.asked.now c.in-Ok.made
    (replies_logged functions turn world g.D.Disk.state c.args.store.now c.together.new.self c.in-Ok.made (c.in-Ok.ensures.made world known))

pub returns-in-Ok-clause-unchanged : goal.returns-in-Ok-clause-unchanged
returns-in-Ok-clause-unchanged g c =
    let is_open : IsSome c.args.store.now.world = search rules in
    let here = known_world c.args.store.now.world is_open in
    let turn : FirstAsked = record { last = c.args.last; most = c.args.most; asked = c.args.asked } in
    IfErr-weaker c.in-Ok.made _ _ (λ number same. λ other. same)
    (refused_unchanged g.R.Meaning.Meaning.functions turn here.0 g.D.Disk.state c.args.store.now c.together.new.self c.in-Ok.made (c.in-Ok.ensures.made here.0 here.1))

pub returns-in-Err-clause-answer : goal.returns-in-Err-clause-answer
returns-in-Err-clause-answer g c = λ world known.
    let functions = g.R.Meaning.Meaning.functions in
    let turn : FirstAsked = record { last = c.args.last; most = c.args.most; asked = c.args.asked } in
    first_answered functions c.args.most g.D.Disk.state c.args.store.now c.together.new.self world c.args.last c.args.asked.now (Err c.number.result)
    (subst (λ n. AnswersAllAsked functions g.D.Disk.state c.args.store.now c.together.new.self world c.args.most c.args.last (asked_front functions turn world) (Err n)) (sym c.number.ensures)
    (replies_unlogged functions turn world g.D.Disk.state c.args.store.now c.together.new.self c.in-Err.cause (c.in-Err.ensures.left world known)))

pub returns-in-Err-clause-unchanged : goal.returns-in-Err-clause-unchanged
returns-in-Err-clause-unchanged g c = λ other.
    let is_open : IsSome c.args.store.now.world = search rules in
    let here = known_world c.args.store.now.world is_open in
    (c.in-Err.ensures.left here.0 here.1).unchanged (no_device c.in-Err.cause c.number.result c.number.ensures other)

pub returns-in-Ok-clause-most : goal.returns-in-Ok-clause-most
returns-in-Ok-clause-most g c =
    let is_open : IsSome c.args.store.now.world = search rules in
    let here = known_world c.args.store.now.world is_open in
    let functions = g.R.Meaning.Meaning.functions in
    let turn : FirstAsked = record { last = c.args.last; most = c.args.most; asked = c.args.asked } in
    most_answered functions c.args.most g.D.Disk.state c.args.store.now c.together.new.self here.0 c.args.last c.args.asked.now c.in-Ok.made
    (first_answered functions c.args.most g.D.Disk.state c.args.store.now c.together.new.self here.0 c.args.last c.args.asked.now c.in-Ok.made
    (replies_logged functions turn here.0 g.D.Disk.state c.args.store.now c.together.new.self c.in-Ok.made (c.in-Ok.ensures.made here.0 here.1)))

pub returns-in-Ok-clause-some : goal.returns-in-Ok-clause-some
returns-in-Ok-clause-some g c = λ some.
    let is_open : IsSome c.args.store.now.world = search rules in
    let here = known_world c.args.store.now.world is_open in
    let functions = g.R.Meaning.Meaning.functions in
    let turn : FirstAsked = record { last = c.args.last; most = c.args.most; asked = c.args.asked } in
    some_answered functions c.args.most g.D.Disk.state c.args.store.now c.together.new.self here.0 c.args.last c.args.asked.now c.in-Ok.made some
    (first_answered functions c.args.most g.D.Disk.state c.args.store.now c.together.new.self here.0 c.args.last c.args.asked.now c.in-Ok.made
    (replies_logged functions turn here.0 g.D.Disk.state c.args.store.now c.together.new.self c.in-Ok.made (c.in-Ok.ensures.made here.0 here.1)))
