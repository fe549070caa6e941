-- The numbers by which calls on packages are refused.
use Rattle.std.specs.Prelude.{ℕ}
use Rattle.lisp_object.specs.declared.refusal.TheConstants.{NO_PACKAGE, NOT_EXTERNAL, LOCKED_PACKAGE, ARGUMENT_KIND, NO_SUCH_PACKAGE, PACKAGE_EXISTS, PACKAGE_IS_LOCKED, NAME_CONFLICT, NOT_ACCESSIBLE, LIMIT, NO_MEMORY}
use Rattle.package_table.specs.declared.error.PackageError.{PackageError}
use Rattle.package_table.specs.declared.error.PackageError.TheVariants.{NoPackage, NotExternal, LockedPackage, EmptyName, NoSuchPackage, PackageExists, PackageIsLocked, NameConflict, NotAccessible, Limit, OutOfMemory}

-- the numbers under which packages refuse
abbrev pub package_error_number : PackageError → ℕ
package_error_number NoPackage = NO_PACKAGE
package_error_number NotExternal = NOT_EXTERNAL
package_error_number LockedPackage = LOCKED_PACKAGE
package_error_number EmptyName = ARGUMENT_KIND
package_error_number NoSuchPackage = NO_SUCH_PACKAGE
package_error_number PackageExists = PACKAGE_EXISTS
package_error_number PackageIsLocked = PACKAGE_IS_LOCKED
package_error_number NameConflict = NAME_CONFLICT
package_error_number NotAccessible = NOT_ACCESSIBLE
package_error_number Limit = LIMIT
package_error_number OutOfMemory = NO_MEMORY
