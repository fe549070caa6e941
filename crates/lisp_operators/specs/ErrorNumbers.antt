-- The refusals of the world's calls, as the evaluator gives them.
use Rattle.package_table.specs.declared.error.PackageError.{PackageError}
use Rattle.package_table.specs.declared.error.PackageError.TheVariants.{OutOfMemory as NoRoomForPackages}
use Rattle.package_table.specs.ErrorNumbers.{package_error_number as package_number}
use Rattle.plist_state.specs.declared.error.ReadtableError.{ReadtableError}
use Rattle.plist_state.specs.declared.error.ReadtableError.TheVariants.{OutOfMemory as NoRoomForReadtables}
use Rattle.plist_state.specs.ErrorNumbers.{readtable_error_number as readtable_number}
use Rattle.lisp_operators.specs.declared.error.EvaluationError.{EvaluationError}
use Rattle.lisp_operators.specs.declared.error.EvaluationError.TheVariants.{Refused, OutOfMemory}

-- an error of the packages, as one of an evaluation
abbrev pub of_package : PackageError → EvaluationError
of_package NoRoomForPackages = OutOfMemory
of_package e = Refused (package_number e)

-- an error of a readtable, as one of an evaluation
abbrev pub of_readtable : ReadtableError → EvaluationError
of_readtable NoRoomForReadtables = OutOfMemory
of_readtable e = Refused (readtable_number e)
