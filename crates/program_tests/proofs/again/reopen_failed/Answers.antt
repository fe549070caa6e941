use Rattle.std.proofs.Common.{List, [], ◌∷◌, Option, sym, subst}
use Rattle.disk_trait.specs.Disk.{IsHonest}
use Rattle.plist_state.specs.State.{WorldState}
use Rattle.store_laws.specs.Histories.{Event, IsOpening, StillStands, opened}
use Rattle.program_tests.proofs.again.reopen_failed.Goals as goal

pub returns-then-is_some-clause-stands : goal.returns-then-is_some-clause-stands
returns-then-is_some-clause-stands g c = λ first line sure stands.
    (c.histories.ensures.goes_on g.M.Meaning.Meaning.functions first line sure c.args.store.disk c.args.store.world [] stands tt).1

pub returns-in-Ok-clause-stands : goal.returns-in-Ok-clause-stands
returns-in-Ok-clause-stands g c = λ first line sure stands.
    let functions = g.M.Meaning.Meaning.functions in
    let state = g.D.Disk.state in
    let o = c.in-Ok.ensures.opened in
    let now = c.in-Ok.store.disk in
    let same = c.close-disk.ensures.disk in
    let opening : IsOpening functions state c.args.store.disk now o.world =
    subst (λ (d : g.row.D.Denot). IsOpening functions state d now o.world) same
    (record { reopens = o.reopens (subst (λ (d : g.row.D.Denot). IsHonest (state d)) (sym same) stands.honest); honest = o.honest }) in
    let events : List (Event g.row.D.Denot) = opened now o.world ∷ [] in
    subst (λ (left : Option WorldState). StillStands functions state first line sure now left) (sym o.known)
    (c.histories.ensures.goes_on functions first line sure c.args.store.disk c.args.store.world events stands (opening, tt)).1
