use Rattle.std.proofs.Common.{◌≡◌, false, take}
use Rattle.user_macros.proofs.Found.{has_name}
use Rattle.user_macros.proofs.registry.Macros.find.Given as goal

abbrev pub invariant-loop-stored : goal.invariant-loop-stored
invariant-loop-stored g l = has_name (λ s. s.name) l.name (take l.stored-index l.stored-items) ≡ false
