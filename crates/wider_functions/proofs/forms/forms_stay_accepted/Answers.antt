use Rattle.prevalence_store.specs.meaning.Acceptance.{rules_in_force}
use Rattle.wider_functions.proofs.Keeping.{form_keeps, more_functions, records_keep}
use Rattle.wider_functions.proofs.forms.forms_stay_accepted.Goals as goal

pub returns-clause-read : goal.returns-clause-read
returns-clause-read c = λ fewer more world mode text x start «end» next among is.
    (more_functions fewer more among).reads world mode text x start «end» next is

pub returns-clause-accepted : goal.returns-clause-accepted
returns-clause-accepted c = λ fewer more world mode text given among is.
    form_keeps rules_in_force rules_in_force fewer more (more_functions fewer more among) world mode text given is

pub returns-clause-replayed : goal.returns-clause-replayed
returns-clause-replayed c = λ fewer more world later entries among is.
    records_keep rules_in_force rules_in_force fewer more (more_functions fewer more among) world later entries is
