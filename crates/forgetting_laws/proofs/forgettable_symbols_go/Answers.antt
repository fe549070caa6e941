use Rattle.forgetting_laws.proofs.Counted.{symbols_gone, symbols_left}
use Rattle.forgetting_laws.proofs.forgettable_symbols_go.Goals as goal

pub returns-clause-left : goal.returns-clause-left
returns-clause-left c = λ held s. symbols_left held s

pub returns-clause-count : goal.returns-clause-count
returns-clause-count c = λ held s. symbols_gone held s
