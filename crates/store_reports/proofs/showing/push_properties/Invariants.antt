use Rattle.std.proofs.Common.{◌≡◌, ◌++◌, take}
use Rattle.std.specs.List.{flat_map}
use Rattle.store_reports.specs.ShownProperties.{shown_property}
use Rattle.store_reports.proofs.showing.push_properties.Given as goal

-- the properties so far
abbrev pub invariant-loop-index : goal.invariant-loop-index
invariant-loop-index l =
    l.text.items ≡ l.fn.text.items ++ flat_map (shown_property l.selection l.packages.0 l.symbol) (take l.index l.properties)
