use Rattle.std.proofs.Common.{ap, ℕ, List, [], get_or}
use Rattle.std.proofs.lemmas.Result.{MatchResult-weaker}
use Rattle.package_sets.proofs.Places.{copied}
use Rattle.package_sets.proofs.pairs.copy_groups.Goals as goal

pub returns : goal.returns
returns c = MatchResult-weaker c.clone.result c.clone.ensures.cases (λ w all f. ap (λ (l : List (List ℕ)). get_or l f []) (copied c.args.groups.now.items w.items all.0)) (λ y h. tt)
