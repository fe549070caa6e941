use Rattle.std.proofs.Common.{arith}
use Rattle.prevalence_store.specs.meaning.Acceptance.{setting_in}
use Rattle.store_laws.proofs.CutShort.{front_of_all}
use Rattle.store_laws.proofs.InputForms.{one_count, some_count}
use Rattle.store_laws.proofs.Outcomes.{both_complete, both_stop, completed, stopped}
use Rattle.store_laws.proofs.outcome.one_outcome.Goals as goal

pub returns-clause-one_count : goal.returns-clause-one_count
returns-clause-one_count g c = λ functions world mode input forms others far other all all_others.
    one_count functions world mode input forms others far other all all_others

pub returns-clause-completed : goal.returns-clause-completed
returns-clause-completed g c = λ functions wanted old new world input has held written ended served by_input.
    completed functions g.D.Disk.state old new world wanted input has held written ended served by_input

pub returns-clause-same : goal.returns-clause-same
returns-clause-same g c = λ functions wanted other old new before later world input has held written ended others_has others_held others_written ending mode served by_input others_served others_by_input.
    both_complete functions g.D.Disk.state g.E.Disk.state old new before later world wanted.mode other.mode input held written others_held others_written ended ending mode
    (completed functions g.D.Disk.state old new world wanted input has held written ended served by_input)
    (completed functions g.E.Disk.state before later world other input others_has others_held others_written ending others_served others_by_input)

pub returns-clause-front : goal.returns-clause-front
returns-clause-front g c = λ functions wanted old new world input has held written number forms far all served.
    front_of_all functions g.D.Disk.state old new world wanted input has held written number forms far all served

pub returns-clause-stopped : goal.returns-clause-stopped
returns-clause-stopped g c = λ functions wanted old new world input has held written number place served.
    stopped functions g.D.Disk.state old new world wanted input has held written number place served

pub returns-clause-both_stopped : goal.returns-clause-both_stopped
returns-clause-both_stopped g c = λ functions wanted other old new before later world input has held written number place others_has others_held others_written code others_place mode served others_served.
    both_stop functions g.D.Disk.state g.E.Disk.state old new before later world wanted.mode other.mode input held written others_held others_written mode
    (stopped functions g.D.Disk.state old new world wanted input has held written number place served)
    (stopped functions g.E.Disk.state before later world other input others_has others_held others_written code others_place others_served)

pub returns-clause-some_count : goal.returns-clause-some_count
returns-clause-some_count g c = λ functions world mode input.
    some_count functions world mode
    (λ left text object start stop next read.
    let framed = c.forms_are_framed.ensures (setting_in functions left mode) text object start stop next read in (omega (arith, framed.some, framed.after), framed.inside))
    input
