use Rattle.lisp_reading.proofs.Registered.{setting_same, one_answer}
use Rattle.lisp_reading.proofs.laws.only_registered_names_matter.Goals as goal

pub returns : goal.returns
returns c = λ limits table base packages current functions names to from.
    setting_same limits table base packages current functions names (λ name. one_answer _ _ (from name) (to name))
