-- Which functions the readtables of a state name.
use Rattle.std.specs.Prelude.{◌≡◌, ◌≢◌, ℕ, ◌≤◌, Bool, false, List, Some, length}
use Rattle.std.specs.List.{list_all}
use Rattle.readtable_core.specs.NamedFunctions.{functions_of}
use Rattle.user_macros.specs.Registry.{is_covered}
use Rattle.plist_state.specs.State.{WorldState}
use Rattle.plist_state.specs.Readers.{readtable_names}
use Rattle.plist_state.specs.Sound.{IsSoundWorldState}
use Rattle.snapshot_text.specs.declared.error.SnapshotError.{SnapshotError}
use Rattle.snapshot_text.specs.declared.error.SnapshotError.TheVariants.{Damaged, MissingFunction, OutOfMemory}
use Rattle.world_text.specs.Snapshot.{snapshot_readtable, snapshot_in}

-- each function that a readtable of the state names is standard, STD-DISPATCH or registered
abbrev pub are_covered : List (List ℕ) → WorldState → Bool
are_covered registered s = list_all (λ n. list_all (is_covered registered) (functions_of (snapshot_readtable s n))) (readtable_names s)

-- Why bytes are refused: they are the text of no sound state in this version; or of one that names a function which is not
-- there. That memory ran out is no word on them.
abbrev pub AreBytesRefused : List (List ℕ) → ℕ → List ℕ → SnapshotError → Type 0
AreBytesRefused registered version bytes Damaged = (s : WorldState) → IsSoundWorldState s → length bytes ≤ 4294967295 → snapshot_in version s ≢ Some bytes
AreBytesRefused registered version bytes MissingFunction =
    (s : WorldState) × IsSoundWorldState s × (snapshot_in version s ≡ Some bytes) × (length bytes ≤ 4294967295) × (are_covered registered s ≡ false)
AreBytesRefused registered version bytes OutOfMemory = Unit {0}
