use Rattle.std.proofs.Common.{◌≡◌, ◌++◌, take}
use Rattle.std.specs.List.{flat_map}
use Rattle.package_table.specs.Readers.{names_of}
use Rattle.store_reports.specs.ShownProperties.{shown_home}
use Rattle.store_reports.proofs.homes.push_named.Given as goal

-- what the names so far have of it
abbrev pub invariant-loop-name : goal.invariant-loop-name
invariant-loop-name l =
    l.text.items
    ≡ l.fn.text.items ++ flat_map (λ name. shown_home l.asked.selection.now l.world.0 l.asked.symbol.now (l.home, name)) (names_of (take l.name-index l.names))
