use Rattle.prevalence_store.proofs.meaning.Numbered.{acceptance_is_numbered}
use Rattle.prevalence_store.proofs.laws.form_numbers.Goals as goal

pub returns : goal.returns
returns c = acceptance_is_numbered
