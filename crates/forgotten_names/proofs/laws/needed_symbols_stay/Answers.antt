use Rattle.forgotten_names.proofs.ForgottenSound.{symbol_stays, symbol_was}
use Rattle.forgotten_names.proofs.FoundStays.{found_still, found_before}
use Rattle.forgotten_names.proofs.laws.needed_symbols_stay.Goals as goal

pub returns-clause-symbols : goal.returns-clause-symbols
returns-clause-symbols c = λ held s x. (symbol_was held s x, λ both. symbol_stays held s x both.0 both.1)

pub returns-clause-found : goal.returns-clause-found
returns-clause-found c = λ held s p n h sound. (found_before held s sound p n h, λ both. found_still held s sound p n h both.0 both.1)
