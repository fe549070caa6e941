use Rattle.reader_tests.specs.Large.{letters}
use Rattle.reader_tests.proofs.large.too_long.Goals as goal

pub returns : goal.returns
unfolding letters
returns c = c.symbol.ensures
