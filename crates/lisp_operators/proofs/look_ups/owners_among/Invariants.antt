use Rattle.std.proofs.Common.{◌≡◌, true, map, filter, is_some, take}
use Rattle.std.specs.List.{list_all}
use Rattle.lisp_object.specs.Object.{symbol}
use Rattle.lisp_object.specs.Datum.{object_of, is_proper}
use Rattle.package_table.specs.Readers.{names_of}
use Rattle.plist_state.specs.Changes.{property}
use Rattle.plist_state.specs.Views.{symbol_named}
use Rattle.lisp_operators.proofs.look_ups.owners_among.Given as goal

-- the symbols so far
abbrev pub invariant-loop-name : goal.invariant-loop-name
invariant-loop-name l =
    (map object_of l.owners.items ≡ map (symbol l.home) (filter (λ n. is_some (property l.world.0 (l.home, n) (symbol_named l.indicator))) (names_of (take l.name-index l.names))))
    × (list_all is_proper l.owners.items ≡ true)
