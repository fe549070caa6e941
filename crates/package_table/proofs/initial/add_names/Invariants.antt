use Rattle.std.proofs.Common.{◌≡◌, ◌+◌, length, take}
use Rattle.std.specs.FinMap as finite
use Rattle.package_sets.specs.KeptSets.{name_at}
use Rattle.package_table.specs.Table.{package_of_names}
use Rattle.package_table.specs.Readers.{names_of}
use Rattle.package_table.specs.Meaning.{numbered_of}
use Rattle.package_table.proofs.initial.add_names.Given as goal

-- the names so far are those of symbols of the package, and nothing else changed
abbrev pub invariant-loop-name : goal.invariant-loop-name
invariant-loop-name l =
    ((numbered_of l.sets).0 ≡ finite.insert (numbered_of l.fn.sets).0 (name_at l.fn.sets.packages l.owner) (package_of_names (name_at l.fn.sets.packages l.owner) (take l.name-index (names_of l.names))))
    × (l.sets.packages ≡ l.fn.sets.packages)
    × (l.sets.imports ≡ l.fn.sets.imports)
    × (l.sets.externals ≡ l.fn.sets.externals)
    × (l.sets.uses ≡ l.fn.sets.uses)
    × (length l.sets.symbols ≡ length l.fn.sets.symbols + l.name-index)
