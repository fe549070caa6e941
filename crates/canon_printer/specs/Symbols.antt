-- Objects whose symbols are in the packages: only their printed text is read back.
use Rattle.lisp_object.specs.Object.{Object, AllSymbols}
use Rattle.package_table.specs.Table.{Table, IsPresent}

-- each symbol of the object is present in its home
abbrev pub HasAllSymbols : Table → Object → Type 0
HasAllSymbols packages = AllSymbols (λ home name. IsPresent packages home name home)
