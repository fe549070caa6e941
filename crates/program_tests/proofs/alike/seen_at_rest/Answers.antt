use Rattle.log_look.specs.SeenState.{state_of_sight}
use Rattle.program_tests.proofs.alike.seen_at_rest.Goals as goal

pub returns-in-Ok-clause-means : goal.returns-in-Ok-clause-means
returns-in-Ok-clause-means g c = λ image honest rests k.
    c.a_sight_means_the_same.ensures.means image (state_of_sight c.in-Ok.sight).reads k (c.in-Ok.ensures.at_rest image honest rests)

pub returns-in-Ok-clause-refused : goal.returns-in-Ok-clause-refused
returns-in-Ok-clause-refused g c = λ image honest rests e.
    c.a_sight_means_the_same.ensures.warrants image (state_of_sight c.in-Ok.sight).reads e (c.in-Ok.ensures.at_rest image honest rests)
