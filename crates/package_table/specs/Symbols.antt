-- The interned symbols of an object, and whether the packages have them.
use Rattle.std.specs.Prelude.{Bool, List, [], ◌∷◌, ◌++◌}
use Rattle.std.specs.List.{list_all}
use Rattle.lisp_object.specs.Object.{Object, symbol, pair, vector}
use Rattle.package_table.specs.Table.{Name, Table}
use Rattle.package_table.specs.Lookup.{is_symbol}

-- the interned symbols of an object, from left to right, each by its home and its name
abbrev pub symbols : Object → List (Name × Name)
symbols (symbol home name) = (home, name) ∷ []
symbols (pair x xs) = symbols x ++ symbols xs
symbols (vector xs) = symbols xs
symbols _ = []

-- each interned symbol of an object is one of the packages
abbrev pub are_there : Table → Object → Bool
are_there t x = list_all (λ s. is_symbol t s.0 s.1) (symbols x)
