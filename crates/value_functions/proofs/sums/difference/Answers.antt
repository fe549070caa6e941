use Rattle.value_functions.proofs.Differences.{of_one}
use Rattle.value_functions.proofs.sums.difference.Goals as goal

pub returns-in-len1-clause-value : goal.returns-in-len1-clause-value
returns-in-len1-clause-value c = of_one c.from_left.result c.args.values.now c.in-len1.len_at_least c.in-len1.len_below c.from_left.ensures.value
