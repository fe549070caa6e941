-- What contracts see of a readtable.
use Rattle.readtable_core.specs.declared.table.Readtable.TheInside.{Inside}
use Rattle.readtable_core.specs.Tables.{Table}
use Rattle.readtable_core.specs.Sound.{IsReadtable}

-- a readtable of the program, as one of the logic
abbrev pub table_inside : Inside → Table
table_inside t = record { letters = t.letters; entries = t.entries.items }

-- what holds of each readtable
abbrev pub IsTable : Inside → Type 0
IsTable t = IsReadtable (table_inside t)
