-- What a form that was read is in the packages under which it was read.
use Rattle.std.specs.Prelude.{◌≡◌, ◌≤◌, length, Some}
use Rattle.lisp_object.specs.Object.{Object, symbol, uninterned, AllAtoms, object_depth}
use Rattle.package_table.specs.Table.{Name, Table as Packages}
use Rattle.package_table.specs.Lookup.{home_by_name}

-- The home of an interned symbol finds no other symbol by its name, and the name of an uninterned one has at most 4,096
-- characters.
abbrev pub FitsPackages : Packages → Object → Type 0
FitsPackages packages (symbol home name) = (h : Name) → home_by_name packages home name ≡ Some h → h ≡ home
FitsPackages packages (uninterned name) = length name ≤ 4096
FitsPackages packages _ = Unit {0}

-- Its depth is at most 100, and its symbols fit.
pub record IsFitting (packages : Packages) (x : Object) : Type 0 where
  pub depth : object_depth x ≤ 100
  pub symbols : AllAtoms (FitsPackages packages) x
