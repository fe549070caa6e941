use Rattle.std.proofs.Common.{Some, sym, ap, subst, ◌∙◌}
use Rattle.disk_trait.specs.Disk.{IsHonest}
use Rattle.prevalence_store.specs.Theorem.{Keeps}
use Rattle.program_tests.proofs.closed.opened_again.Goals as goal

pub returns : goal.returns
returns g c = λ w known honest.
    let functions = g.M.Meaning.Meaning.functions in
    let state = g.D.Disk.state in
    let same = sym c.close-disk.ensures.disk in
    let disk = c.close-disk.result.0 in
    let still = subst (λ (d : g.row.D.Denot). IsHonest (state d)) same honest in
    let keeps = subst (λ (d : g.row.D.Denot). Keeps functions (state d) w) same (c.keeps_its_world.ensures w known honest) in
    let o = c.in-Ok.ensures.opened in
    o.known ∙ ap (λ w. Some w)
    (c.one_world.ensures functions (state disk).reads o.world w (o.reopens still).meant (keeps (state disk).reads (g.met.D.Disk.sound disk still).reads_stay))
