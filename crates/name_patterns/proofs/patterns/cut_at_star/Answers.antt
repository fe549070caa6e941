use Rattle.name_patterns.proofs.Pieces.{cut_pattern, whole_pattern}
use Rattle.name_patterns.proofs.patterns.cut_at_star.Goals as goal

pub returns-in-Some : goal.returns-in-Some
returns-in-Some c = cut_pattern c.args.pattern.now c.in-Some.at c.in-Some.ensures.within c.in-Some.ensures.value

pub returns-in-None : goal.returns-in-None
returns-in-None c = whole_pattern c.args.pattern.now c.in-None.ensures.value
