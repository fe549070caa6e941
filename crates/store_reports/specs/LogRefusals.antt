-- The numbers under which a log is refused.
use Rattle.std.specs.Prelude.{ℕ}
use Rattle.gate_log.specs.declared.error.OpenRefusal.{OpenRefusal}
use Rattle.gate_log.specs.declared.error.OpenRefusal.TheVariants as opening
use Rattle.gate_log.specs.declared.error.ReadError.{ReadError}
use Rattle.gate_log.specs.declared.error.ReadError.TheVariants as reading
use Rattle.gate_log.specs.declared.error.StartError.{StartError}
use Rattle.gate_log.specs.declared.error.StartError.TheVariants as starting
use Rattle.lisp_object.specs.declared.refusal.TheConstants.{DAMAGED, DEVICE, NO_MEMORY, SNAPSHOT_TOO_LARGE, VERSION}

-- one that is not opened
abbrev pub open_number : OpenRefusal → ℕ
open_number opening.DeviceFault = DEVICE
open_number opening.Damaged = DAMAGED
open_number opening.UnknownVersion = VERSION
open_number opening.DoesNotMix = VERSION
open_number opening.OutOfMemory = NO_MEMORY

-- one whose half is not read
abbrev pub read_number : ReadError → ℕ
read_number reading.DeviceFault = DEVICE
read_number reading.Damaged = DAMAGED
read_number reading.OutOfMemory = NO_MEMORY

-- one whose half is not started
abbrev pub start_number : StartError → ℕ
start_number starting.DeviceFault = DEVICE
start_number starting.TooLarge = SNAPSHOT_TOO_LARGE
start_number starting.OutOfMemory = NO_MEMORY
