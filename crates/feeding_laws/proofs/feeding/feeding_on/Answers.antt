use Rattle.feeding_laws.proofs.Twice.{fed_on}
use Rattle.feeding_laws.proofs.feeding.feeding_on.Goals as goal

pub returns : goal.returns
returns c = λ functions last first middle now frames before after. fed_on functions last first middle now frames before after
