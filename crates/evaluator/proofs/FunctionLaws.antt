-- What holds of the functions of values alone.
--     computed_silent, computed_safe, computed_numbered, computed_keeps      what the laws ask of an operator
use Rattle.std.proofs.Common.{ℕ, false, List, Result, Ok, Err, refl}
use Rattle.lisp_object.specs.Object.{Object}
use Rattle.plist_state.specs.State.{WorldState}
use Rattle.plist_state.specs.Sound.{IsSoundWorldState, IsValue}
use Rattle.lisp_operators.proofs.Good.{Goods, goods_here}
use Rattle.lisp_operators.proofs.Keeping.{Keeps}
use Rattle.lisp_operators.proofs.Numbered.{Numbered}
use Rattle.lisp_operators.proofs.NumberedOperators.{IsNumberedFunction}
use Rattle.lisp_operators.proofs.Silence as silence
use Rattle.lisp_operators.proofs.SilentOperators.{IsSilent}
use Rattle.lisp_operators.proofs.SoundProperties.{IsSafe}
use Rattle.value_functions.specs.declared.functions.ValueFunction.{ValueFunction}
use Rattle.value_functions.specs.Functions.{call_value}
use Rattle.value_functions.proofs.RefusalNumbers.{IsNumbered, call_numbered}
use Rattle.value_functions.proofs.Values.{IsStorable, call_storable}
use Rattle.evaluator.specs.Operators.{computed, value_here}

module _ (s : WorldState) where
  silent_here : (v : Result Object ℕ) → silence.Keeps s (value_here s v)
  silent_here (Ok x) = record { same = λ _. refl }
  silent_here (Err code) = record { same = tt }

  safe_here : (v : Result Object ℕ) → IsSoundWorldState s → IsStorable s.packages v → Goods IsValue s (value_here s v)
  safe_here (Ok x) sound is = goods_here IsValue s x false sound is.storable
  safe_here (Err code) sound is = record { good = tt }

  numbered_here : (v : Result Object ℕ) → IsNumbered v → Numbered (value_here s v)
  numbered_here (Ok x) is = record { number = tt }
  numbered_here (Err code) is = record { number = is.number }

  pub keeps_here : (Kept : WorldState → WorldState → Type 0) (v : Result Object ℕ) → Kept s s → Keeps Kept s (value_here s v)
  keeps_here Kept (Ok x) none = record { kept = none }
  keeps_here Kept (Err code) none = record { kept = tt }

pub computed_silent : (function : ValueFunction) → IsSilent (computed function)
computed_silent function xs s = silent_here s (call_value function xs)

pub computed_safe : (function : ValueFunction) → IsSafe (computed function)
computed_safe function xs s sound are = safe_here s (call_value function xs) sound (call_storable s.packages sound.packages function xs are)

pub computed_numbered : (function : ValueFunction) → IsNumberedFunction (computed function)
computed_numbered function xs s = numbered_here s (call_value function xs) (call_numbered function xs)

-- where the relation is that of a state to itself
pub computed_keeps : (Kept : WorldState → WorldState → Type 0) (function : ValueFunction) (xs : List Object) (s : WorldState) → Kept s s → Keeps Kept s (computed function xs s)
computed_keeps Kept function xs s none = keeps_here s Kept (call_value function xs) none
