-- Why a form is not added to a batch, and why a batch is not logged.
use Rattle.std.specs.Prelude.{ℕ, Bool, true, false, Ok, Err, Result}
use Rattle.lisp_object.specs.declared.refusal.TheConstants.{DEVICE, LOG_FULL, NO_MEMORY}
use Rattle.prevalence_store.specs.declared.failure.Unadded.{Unadded}
use Rattle.prevalence_store.specs.declared.failure.Unadded.TheVariants as unadded
use Rattle.prevalence_store.specs.declared.failure.Unlogged.{Unlogged}
use Rattle.prevalence_store.specs.declared.failure.Unlogged.TheVariants as unlogged

-- whether it was evaluation that refused the form
abbrev pub is_refusal : Unadded → Bool
is_refusal (unadded.Refused number) = true
is_refusal unadded.OutOfMemory = false

-- the number of the refusal
abbrev pub failure_number : Unlogged → ℕ
failure_number unlogged.Full = LOG_FULL
failure_number unlogged.DeviceFault = DEVICE
failure_number unlogged.OutOfMemory = NO_MEMORY

-- whether the device failed
abbrev pub is_unlogged_by_device : Unlogged → Bool
is_unlogged_by_device unlogged.Full = false
is_unlogged_by_device unlogged.DeviceFault = true
is_unlogged_by_device unlogged.OutOfMemory = false

-- the call ended with a fault of the device
abbrev pub is_fault : {T : Type 0} → Result T Unlogged → Bool
is_fault (Ok value) = false
is_fault (Err cause) = is_unlogged_by_device cause
