use Rattle.log_look.proofs.Sights.{sight_means, sight_warrants}
use Rattle.log_look.proofs.laws.a_sight_means_the_same.Goals as goal

pub returns-clause-means : goal.returns-clause-means
returns-clause-means c = λ image seen k sight. sight_means image seen k sight

pub returns-clause-warrants : goal.returns-clause-warrants
returns-clause-warrants c = λ image seen e sight. sight_warrants image seen e sight
