use Rattle.std.proofs.Common.{[], None}
use Rattle.plist_state.specs.State.{initial}
use Rattle.store_laws.proofs.Events.{begins, follow, in_call, in_opening}
use Rattle.store_laws.proofs.history.histories.Goals as goal

pub returns-clause-goes_on : goal.returns-clause-goes_on
returns-clause-goes_on g c = λ functions first line sure disk left events stands happened.
    let law = c.recoveries.ensures in
    follow functions g.D.Disk.state g.met.D.Disk.sound first (λ start now world forms least honest some again. (law.opened functions start now first world forms least honest some again).0)
    (λ start back whole forms least limit number honest some unopened.
    let all = law.refused functions start back whole first forms least limit number honest some unopened in
    (all.0, all.1, all.3))
    events line sure disk left stands happened

pub returns-clause-of_files : goal.returns-clause-of_files
returns-clause-of_files g c = λ functions start first events honest keeps happened.
    (returns-clause-goes_on g c functions first [] 0 start None events (begins functions g.D.Disk.state first start honest keeps) happened).0

pub returns-clause-of_fresh_files : goal.returns-clause-of_fresh_files
returns-clause-of_fresh_files g c = λ functions start events fresh happened.
    returns-clause-of_files g c functions start initial events fresh.honest (c.fresh_files.ensures functions start fresh) happened

pub returns-clause-in_call : goal.returns-clause-in_call
returns-clause-in_call g c = λ functions first line sure disk left call stands is image might.
    in_call functions g.D.Disk.state first line sure disk left call stands is image might

pub returns-clause-in_opening : goal.returns-clause-in_opening
returns-clause-in_opening g c = λ functions first line sure disk there left stands is image might.
    in_opening functions g.D.Disk.state first line sure disk left there stands is image might
