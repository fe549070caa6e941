use Rattle.std.proofs.Common.{refl, true, false}
use Rattle.store_laws.proofs.outcome.groups_change_nothing.Goals as goal

pub returns-clause-strict : goal.returns-clause-strict
returns-clause-strict g c = λ functions wanted old new before later world input has held written number place others_has others_held others_written code others_place served others_served.
    c.one_outcome.ensures.both_stopped functions (record wanted { group = true }) (record wanted { group = false }) old new before later world input has held written number place others_has others_held others_written code
    others_place refl served others_served

pub returns-clause-completed : goal.returns-clause-completed
returns-clause-completed g c = λ functions wanted old new before later world input has held written ended others_has others_held others_written ending served by_input others_served others_by_input.
    c.one_outcome.ensures.same functions (record wanted { group = true }) (record wanted { group = false }) old new before later world input has held written ended others_has others_held others_written ending refl
    served by_input others_served others_by_input
