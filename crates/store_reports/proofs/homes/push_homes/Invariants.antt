use Rattle.std.proofs.Common.{◌≡◌, ◌++◌, take}
use Rattle.std.specs.List.{flat_map}
use Rattle.package_table.specs.Readers.{names_of}
use Rattle.store_reports.specs.ShownProperties.{shown_homes}
use Rattle.store_reports.proofs.homes.push_homes.Given as goal

-- what the packages so far have of it
abbrev pub invariant-loop-home : goal.invariant-loop-home
invariant-loop-home l =
    l.text.items ≡ l.fn.text.items ++ flat_map (shown_homes l.asked.selection.now l.world.0 l.asked.symbol.now) (names_of (take l.home-index l.homes))
