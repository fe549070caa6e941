use Rattle.std.proofs.Common.{refl, arith}
use Rattle.sessions.specs.steps.Schedule.{pace_of}
use Rattle.sessions.proofs.Counting.{fewer_counted, fewer_left, rest_counted}
use Rattle.sessions.proofs.schedule.Schedule.pass.Goals as goal

pub returns-then-self-gt1 : goal.returns-then-self-gt1
returns-then-self-gt1 c =
    let old = pace_of c.args.self.now in
    let fewer = fewer_left c.args.logged old c.requires c.if-self-gt1.true in
    fewer_counted c.args.logged old _ fewer refl refl (omega (arith, fewer))

pub returns-then-logged-gt0 : goal.returns-then-logged-gt0
returns-then-logged-gt0 c =
    rest_counted c.args.logged (pace_of c.args.self.now) _ c.requires c.if-self-gt1.false refl refl (λ none. absurd (omega (arith, none, c.if-logged-gt0.true))) (λ some. refl)
