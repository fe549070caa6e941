use Rattle.std.proofs.Common.{◌+◌, ◌-◌, refl, arith}
use Rattle.sessions.proofs.schedule.bytes_before_grown.Goals as goal

pub returns-in-Some : goal.returns-in-Some
returns-in-Some c = λ some grown.
    let size = c.args.size + c.saturating_sub-in-Some.result in
    let least = (c.in-Some.ensures.some size).0 grown in
    absurd (omega (arith, some, least, c.saturating_sub.ensures, c.saturating_sub-in-Some.ensures))

pub returns-in-None : goal.returns-in-None
returns-in-None c = λ some grown. c.in-None.ensures.none refl (c.args.size + (18446744073709551615 - c.args.size)) (omega (arith, c.ranges.size.fits)) grown
