use Rattle.std.proofs.Common.{◌∙◌}
use Rattle.package_sets.proofs.Places.{copied_by}
use Rattle.package_sets.proofs.names.Names.copy.Goals as goal

pub returns : goal.returns
returns c = copied_by (λ k. k.bytes) c.self.inside.set.keys c.in_ok-set.set.keys c.in_ok-set.ensures.cases ∙ c.self.view_is
