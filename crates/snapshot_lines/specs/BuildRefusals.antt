-- What a refusal of a call on packages or on readtables is where a world is built.
use Rattle.package_table.specs.declared.error.PackageError.{PackageError}
use Rattle.package_table.specs.declared.error.PackageError.TheVariants.{OutOfMemory as NoMemoryForPackages}
use Rattle.plist_state.specs.declared.error.ReadtableError.{ReadtableError}
use Rattle.plist_state.specs.declared.error.ReadtableError.TheVariants.{OutOfMemory as NoMemoryForReadtables}
use Rattle.snapshot_lines.specs.declared.error.BuildError.{BuildError}
use Rattle.snapshot_lines.specs.declared.error.BuildError.TheVariants.{Damaged, OutOfMemory}

-- an error of the packages, as one of a world that is built
abbrev pub of_packages : PackageError → BuildError
of_packages NoMemoryForPackages = OutOfMemory
of_packages _ = Damaged

-- an error of a readtable, as one of a world that is built
abbrev pub of_readtables : ReadtableError → BuildError
of_readtables NoMemoryForReadtables = OutOfMemory
of_readtables _ = Damaged
