-- Why a text is refused as a snapshot, and the numbers of the refusals.
use Rattle.std.specs.Prelude.{ℕ}
use Rattle.lisp_object.specs.declared.refusal.TheConstants.{DAMAGED, MISSING_MACRO, NO_MEMORY}
use Rattle.snapshot_lines.specs.declared.error.BuildError.{BuildError}
use Rattle.snapshot_lines.specs.declared.error.BuildError.TheVariants.{Damaged as BuildDamaged, OutOfMemory as BuildOutOfMemory}
use Rattle.snapshot_text.specs.declared.error.SnapshotError.{SnapshotError}
use Rattle.snapshot_text.specs.declared.error.SnapshotError.TheVariants.{Damaged, MissingFunction, OutOfMemory}

-- the numbers under which a snapshot is refused
abbrev pub snapshot_error_number : SnapshotError → ℕ
snapshot_error_number Damaged = DAMAGED
snapshot_error_number MissingFunction = MISSING_MACRO
snapshot_error_number OutOfMemory = NO_MEMORY

-- why a snapshot is refused of which no world could be built
abbrev pub of_build : BuildError → SnapshotError
of_build BuildDamaged = Damaged
of_build BuildOutOfMemory = OutOfMemory
