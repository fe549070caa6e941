use Rattle.prevalence_store.specs.meaning.Acceptance.{rules_in_force}
use Rattle.wider_functions.proofs.Keeping.{files_keep, form_keeps, more_functions, newer, records_keep}
use Rattle.wider_functions.proofs.programs.newer_programs_keep_files.Goals as goal

pub returns-clause-accepted : goal.returns-clause-accepted
returns-clause-accepted c = λ by fewer more world mode text given rules among is.
    form_keeps by rules_in_force fewer more (newer by fewer more rules among) world mode text given is

pub returns-clause-replayed : goal.returns-clause-replayed
returns-clause-replayed c = λ by fewer more world later entries rules among is.
    records_keep by rules_in_force fewer more (newer by fewer more rules among) world later entries is

pub returns-clause-files : goal.returns-clause-files
returns-clause-files c = λ by fewer more image world rules among means.
    files_keep by rules_in_force fewer more (newer by fewer more rules among) image world means

pub returns-clause-version_1 : goal.returns-clause-version_1
returns-clause-version_1 c = λ fewer more image world among means.
    let stays = c.version_1_stays.ensures.files fewer image world means in
    (files_keep rules_in_force rules_in_force fewer more (more_functions fewer more among) image world stays.0, stays.1)
