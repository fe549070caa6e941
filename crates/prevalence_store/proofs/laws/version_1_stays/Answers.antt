use Rattle.prevalence_store.proofs.meaning.Migrating.{files_stay, form_stays}
use Rattle.prevalence_store.proofs.laws.version_1_stays.Goals as goal

pub returns-clause-forms : goal.returns-clause-forms
returns-clause-forms c = λ functions world mode text given base is. form_stays functions world base mode text given is

pub returns-clause-files : goal.returns-clause-files
returns-clause-files c = files_stay
