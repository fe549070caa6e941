use Rattle.std.proofs.Common.{refl, sym, subst}
use Rattle.sessions.specs.Pace.{HasHalfGrown}
use Rattle.sessions.proofs.schedule.grown_at.Goals as goal

pub returns-in-Some : goal.returns-in-Some
returns-in-Some g c = λ size small grown. (c.in-Some.ensures.some size).0 (subst (λ n. HasHalfGrown c.args.ratio size n) (sym c.first_size.ensures) grown)

pub returns-in-None : goal.returns-in-None
returns-in-None g c = λ size small grown. absurd (c.in-None.ensures.none refl size small (subst (λ n. HasHalfGrown c.args.ratio size n) (sym c.first_size.ensures) grown))
