use Rattle.store_laws.proofs.Handings.{account_further, are_calls, ended_calls, handed_calls, handed_further}
use Rattle.store_laws.proofs.session.sessions.Goals as goal

pub returns-clause-further : goal.returns-clause-further
returns-clause-further g c = λ functions account handings last handed stored.
    (handed_further functions g.D.Disk.state handings account last handed stored, account_further functions g.D.Disk.state handings account last)

pub returns-clause-handed : goal.returns-clause-handed
returns-clause-handed g c = λ functions account handings handed honest keeps.
    are_calls functions g.D.Disk.state account _
    (handed_calls functions g.D.Disk.state (c.what_is_answered_is_stored.ensures.is_call functions) account handings handed honest)
    (λ earlier later run. c.headline.ensures.holds functions account.disk account.now earlier later honest keeps run)
    (λ earlier later run together. c.batches.ensures functions account.disk account.now earlier later honest keeps run together)

pub returns-clause-ended : goal.returns-clause-ended
returns-clause-ended g c = λ functions account handings store handed since honest keeps.
    are_calls functions g.D.Disk.state account _
    (ended_calls functions g.D.Disk.state (c.what_is_answered_is_stored.ensures.is_call functions) account handings handed honest store since)
    (λ earlier later run. c.headline.ensures.holds functions account.disk account.now earlier later honest keeps run)
    (λ earlier later run together. c.batches.ensures functions account.disk account.now earlier later honest keeps run together)
