use Rattle.std.proofs.Common.{[], Option, Some, ap, sym, subst, ◌∙◌}
use Rattle.disk_trait.specs.Disk.{IsHonest, but_for_reports}
use Rattle.plist_state.specs.State.{WorldState}
use Rattle.prevalence_store.specs.calls.Store.{StoreView}
use Rattle.prevalence_store.specs.Theorem.{Keeps, Survives}
use Rattle.prevalence_store.proofs.Reported.{rested_survives}
use Rattle.prevalence_store.proofs.store.Store.report_done.Goals as goal

pub returns-clause-survives : goal.returns-clause-survives
returns-clause-survives g c = λ world known honest keeps.
    let state = g.D.Disk.state in
    let functions = g.R.Meaning.Meaning.functions in
    let done = c.report_done in
    let is_disk = ap (λ (s : StoreView g.row.D.Denot g.row.R.Denot). s.disk) c.self.view_is in
    let is_world = ap (λ (s : StoreView g.row.D.Denot g.row.R.Denot). s.world) c.self.view_is ∙ known in
    let then = state done.new.self.disk in
    let start = state c.self.inside.log.halves.disk in
    subst (λ (left : Option WorldState). Survives functions (but_for_reports (state c.args.self.now.disk)) (but_for_reports then) world [] 0 left) (sym is_world)
    (subst (λ (d : g.row.D.Denot). Survives functions (but_for_reports (state d)) (but_for_reports then) world [] 0 (Some world)) is_disk
    (rested_survives functions (but_for_reports start) (but_for_reports then) world
    (done.ensures.rests (subst (λ (d : g.row.D.Denot). IsHonest (state d)) (sym is_disk) honest))
    done.ensures.tells.honest done.ensures.tells.failures
    (subst (λ (d : g.row.D.Denot). Keeps functions (state d) world) (sym is_disk) keeps)))
