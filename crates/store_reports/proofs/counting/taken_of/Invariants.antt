use Rattle.std.proofs.Common.{◌≡◌, take}
use Rattle.std.specs.List.{count_by}
use Rattle.store_reports.specs.ShownProperties.{is_wanted_name}
use Rattle.store_reports.proofs.counting.taken_of.Given as goal

-- those of the properties so far
abbrev pub invariant-loop-index : goal.invariant-loop-index
invariant-loop-index l = l.count ≡ count_by (λ p. is_wanted_name l.selection.indicator p.0.1) (take l.index l.properties)
