use Rattle.std.proofs.Common.{◌≡◌, ◌≤◌, ◌↔◌, refl, sym, subst, arith}
use Rattle.std.proofs.lemmas.Bool.{le-leb, leb-true}
use Rattle.sessions.specs.Pace.{HasHalfGrown}
use Rattle.sessions.proofs.schedule.has_grown.Goals as goal

pub returns-in-Some : goal.returns-in-Some
returns-in-Some g c =
    let now = c.args.store.now in
    let least = c.in-Some.least in
    let size : c.size-size.result ≡ now.size = c.size-size.ensures in
    let known = subst (λ n. HasHalfGrown c.args.ratio now.size n ↔ (least ≤ now.size)) c.first_size.ensures (c.in-Some.ensures.some now.size) in (
      λ test. known.1 (subst (λ n. least ≤ n) size (leb-true least c.size-size.result test)),
      λ grown. le-leb least c.size-size.result (subst (λ n. least ≤ n) (sym size) (known.0 grown)),
    )

pub returns-in-None : goal.returns-in-None
returns-in-None g c =
    let now = c.args.store.now in
    let size : c.size-size.result ≡ now.size = c.size-size.ensures in (
      λ test. absurd (cc),
      λ grown. absurd (c.in-None.ensures.none refl now.size (omega (arith, size, c.size-size.type_inv)) (subst (λ n. HasHalfGrown c.args.ratio now.size n) (sym c.first_size.ensures) grown)),
    )
