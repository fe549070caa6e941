use Rattle.prevalence_store.specs.meaning.Acceptance.{rules_in_force}
use Rattle.wider_functions.proofs.Keeping.{files_keep, more_functions, some_keeps}
use Rattle.wider_functions.proofs.files.files_keep_their_world.Goals as goal

pub returns-clause-files : goal.returns-clause-files
returns-clause-files g c = λ fewer more image world among means. files_keep rules_in_force rules_in_force fewer more (more_functions fewer more among) image world means

pub returns-clause-kept : goal.returns-clause-kept
returns-clause-kept g c = λ fewer more disk world among keeps image might.
    files_keep rules_in_force rules_in_force fewer more (more_functions fewer more among) image world (keeps image might)

pub returns-clause-some_kept : goal.returns-clause-some_kept
returns-clause-some_kept g c = λ fewer more disk world forms least among keeps image might. some_keeps fewer more among world forms least image (keeps image might)
