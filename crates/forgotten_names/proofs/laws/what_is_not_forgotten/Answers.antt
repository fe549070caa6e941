use Rattle.std.proofs.Common.{refl}
use Rattle.forgotten_names.specs.WorldsWithoutNames.{is_kept}
use Rattle.forgotten_names.proofs.KeptPackages.{there_kept}
use Rattle.forgotten_names.proofs.ForgottenSound.{used_same, external_same}
use Rattle.forgotten_names.proofs.laws.what_is_not_forgotten.Goals as goal

pub returns-clause-rest : goal.returns-clause-rest
returns-clause-rest c = λ held s. refl

pub returns-clause-packages : goal.returns-clause-packages
returns-clause-packages c = λ held s p. there_kept (is_kept held s) s.packages p

pub returns-clause-uses : goal.returns-clause-uses
returns-clause-uses c = used_same

pub returns-clause-external : goal.returns-clause-external
returns-clause-external c = external_same
