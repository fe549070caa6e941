use Rattle.std.proofs.Common.{◌≡◌, drop}
use Rattle.std.specs.List.{list_any}
use Rattle.package_table.specs.Meaning.{finds_another, shown_positions, shown_symbol}
use Rattle.package_table.proofs.conflicts.finds_other_than_shown.Given as goal

-- by the names of those passed no other symbol is found
abbrev pub invariant-loop-position : goal.invariant-loop-position
invariant-loop-position l =
    list_any (λ x. finds_another l.sets l.owner (shown_symbol l.sets l.used x)) (drop l.position-index (shown_positions l.sets l.used))
    ≡ list_any (λ x. finds_another l.sets l.owner (shown_symbol l.sets l.used x)) (shown_positions l.sets l.used)
