use Rattle.std.proofs.Common.{subst, sym}
use Rattle.plist_state.specs.State.{WorldState}
use Rattle.prevalence_store.proofs.calls.Executing.{known_world, world_inside}
use Rattle.prevalence_store.proofs.store.Store.visit.Goals as goal

pub visit-requires : goal.visit-requires
visit-requires g c =
    let inside = c.self.inside in
    let here = known_world c.args.self.now.world c.requires.is_open in
    let same = world_inside inside.log.failed inside.log.halves inside.world.0 here.0 inside.macros c.args.self.now c.self.view_is here.1 in
    record { may = subst (λ (v : WorldState). g.V.Visit.may c.args.visit.now v) (sym same) (c.requires.may here.0 here.1) }
