use Rattle.std.proofs.Common.{inl, inr, refl}
use Rattle.message_session.proofs.Beginning.{world_begun}
use Rattle.message_session.proofs.serve.begin_anew.Goals as goal

pub returns-in-Ok-begin_messages-clause-begun : goal.returns-in-Ok-begin_messages-clause-begun
returns-in-Ok-begin_messages-clause-begun g c = λ w known full.
    let renewed = c.in-Ok.ensures.renews w known in
    let same = renewed.renews.left in
    let begins = c.in-Ok-begin_messages.ensures.begins w same in
    let first = world_begun g.R.Meaning.Meaning.functions g.D.Disk.state c.renew_for_room.new.store c.begin_messages.new.store w c.in-Ok-begin_messages.position same begins in
    (first.0, record { renewed = c.renew_for_room.new.store; renews = inr (full, renewed); same = same; survives = renewed.survives; begins = begins; known = first.1 })

pub returns-in-Err-clause-begun : goal.returns-in-Err-clause-begun
returns-in-Err-clause-begun g c = λ w known full. (c.in-Err.number, refl, inr (inl (full, c.in-Err.ensures.renews w known)))

pub returns-in-Err-begin_messages-clause-begun : goal.returns-in-Err-begin_messages-clause-begun
returns-in-Err-begin_messages-clause-begun g c = λ w known full.
    let renewed = c.in-Ok.ensures.renews w known in
    (c.in-Err-begin_messages.number, refl, inr (inr (full, c.renew_for_room.new.store, renewed, c.in-Err-begin_messages.ensures.begins w renewed.renews.left)))
