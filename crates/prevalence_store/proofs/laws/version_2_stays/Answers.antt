use Rattle.prevalence_store.proofs.meaning.Migrating.{later_files_stay}
use Rattle.prevalence_store.proofs.laws.version_2_stays.Goals as goal

pub returns-clause-forms : goal.returns-clause-forms
returns-clause-forms c = λ functions world mode text given is. is

pub returns-clause-files : goal.returns-clause-files
returns-clause-files c = later_files_stay
