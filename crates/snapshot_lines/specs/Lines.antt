-- What is read of the lines of a snapshot.
use Rattle.std.specs.Prelude.{◌≡◌, ℕ, true, List, drop, Result, Ok, Err}
use Rattle.lisp_object.specs.declared.datum.Datum.{Datum}
use Rattle.lisp_object.specs.Datum.{object_of, is_proper}
use Rattle.lisp_object.specs.Object.{Object}
use Rattle.snapshot_lines.specs.declared.error.BuildError.{BuildError}
use Rattle.snapshot_lines.specs.declared.error.BuildError.TheVariants.{OutOfMemory}
use Rattle.readtable_core.specs.Tables.{standard}
use Rattle.package_table.specs.Table.{common_lisp_user}
use Rattle.user_macros.specs.Functions.{Functions}
use Rattle.plist_state.specs.State.{WorldState}
use Rattle.lisp_reading.specs.Setting.{Setting, setting_of}
use Rattle.world_text.specs.Lines.{snapshot_limits}

-- under what a line is read in a world: the limits of a snapshot, the standard readtable, base 10, and COMMON-LISP-USER
abbrev pub line_setting : WorldState → Functions → Setting
line_setting now functions = setting_of snapshot_limits standard 10 now.packages common_lisp_user functions

-- What was read is this object, which ends at this offset; or memory ran out.
abbrev pub IsReadFirst : Object → ℕ → Result (Datum × ℕ) BuildError → Type 0
IsReadFirst x end (Ok read) = (object_of read.0 ≡ x) × (is_proper read.0 ≡ true) × (read.1 ≡ end)
IsReadFirst x end (Err e) = e ≡ OutOfMemory

-- What was read at the front of the first bytes is this object, and the other bytes follow it; or memory ran out.
abbrev pub IsReadNext : Object → List ℕ → List ℕ → Result (Datum × ℕ) BuildError → Type 0
IsReadNext x bytes rest (Ok read) = (object_of read.0 ≡ x) × (is_proper read.0 ≡ true) × (drop read.1 bytes ≡ rest)
IsReadNext x bytes rest (Err e) = e ≡ OutOfMemory
