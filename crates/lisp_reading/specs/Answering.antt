-- What an object that a function of a user answers has to be, its depth aside.
use Rattle.std.specs.Prelude.{nat_le, Bool, true, false, ◌&&◌, ◌||◌, length, bytes_eq, Result, Ok, Err}
use Rattle.std.specs.FinMap as finite
use Rattle.lisp_object.specs.Object.{Object, symbol, uninterned, pair, vector, is_nil, object_size}
use Rattle.package_table.specs.declared.error.PackageError.{PackageError}
use Rattle.package_table.specs.Resolving.{Resolution, home_of, resolution}
use Rattle.package_table.specs.Table.{Name, Table as Packages}

-- what is found is at home there
abbrev pub is_home : Name → Result Resolution PackageError → Bool
is_home home (Ok r) = bytes_eq (home_of r) home
is_home home (Err e) = false

-- A symbol of this home and name may be answered: it is NIL; or its name has at most 4,096 bytes, its home is a package by
-- that name, which finds no other symbol by its name, and may have a new one.
abbrev pub is_known : Packages → Name → Name → Bool
is_known packages home name =
    is_nil home name
    || (nat_le (length name) 4096 && (finite.contains_key packages home && is_home home (resolution packages home name)))

-- each symbol in it may be answered
abbrev pub are_known : Packages → Object → Bool
are_known packages (symbol home name) = is_known packages home name
are_known packages (uninterned name) = nat_le (length name) 4096
are_known packages (pair a b) = are_known packages a && are_known packages b
are_known packages (vector xs) = are_known packages xs
are_known packages _ = true

-- an object that may be answered: of size 1,000,000 at most, with symbols that the packages know
abbrev pub may_be_answered : Packages → Object → Bool
may_be_answered packages x = nat_le (object_size x) 1000000 && are_known packages x
