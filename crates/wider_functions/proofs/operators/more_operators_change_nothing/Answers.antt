use Rattle.prevalence_store.specs.meaning.Acceptance.{rules_in_force}
use Rattle.prevalence_store.specs.meaning.BeforeOperators.{rules_before_forgetting, rules_before_operators}
use Rattle.wider_functions.specs.EarlierRules.{rules_before_deciding, rules_before_places}
use Rattle.wider_functions.proofs.Keeping.{before_deciding, before_forgetting_among, before_places, earlier_among, files_keep, form_keeps, more_rules, records_keep}
use Rattle.wider_functions.proofs.operators.more_operators_change_nothing.Goals as goal

pub returns-clause-accepted : goal.returns-clause-accepted
returns-clause-accepted c = λ fewer more functions world mode text given among is.
    form_keeps fewer more functions functions (more_rules fewer more among functions) world mode text given is

pub returns-clause-replayed : goal.returns-clause-replayed
returns-clause-replayed c = λ fewer more functions world later entries among is.
    records_keep fewer more functions functions (more_rules fewer more among functions) world later entries is

pub returns-clause-files : goal.returns-clause-files
returns-clause-files c = λ fewer more functions image world among means.
    files_keep fewer more functions functions (more_rules fewer more among functions) image world means

pub returns-clause-before : goal.returns-clause-before
returns-clause-before c = λ functions image world means.
    files_keep rules_before_operators rules_in_force functions functions (more_rules rules_before_operators rules_in_force earlier_among functions) image world means

pub returns-clause-before_deciding : goal.returns-clause-before_deciding
returns-clause-before_deciding c = λ functions image world means.
    files_keep rules_before_deciding rules_in_force functions functions (more_rules rules_before_deciding rules_in_force before_deciding functions) image world means

pub returns-clause-before_places : goal.returns-clause-before_places
returns-clause-before_places c = λ functions image world means.
    files_keep rules_before_places rules_in_force functions functions (more_rules rules_before_places rules_in_force before_places functions) image world means

pub returns-clause-before_forgetting : goal.returns-clause-before_forgetting
returns-clause-before_forgetting c = λ functions image world means.
    files_keep rules_before_forgetting rules_in_force functions functions (more_rules rules_before_forgetting rules_in_force before_forgetting_among functions) image world means
