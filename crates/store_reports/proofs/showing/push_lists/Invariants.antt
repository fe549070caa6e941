use Rattle.std.proofs.Common.{◌≡◌, ◌++◌, take}
use Rattle.std.specs.List.{flat_map}
use Rattle.plist_state.specs.Readers.{borrowed_symbols}
use Rattle.store_reports.specs.ShownProperties.{shown_list}
use Rattle.store_reports.proofs.showing.push_lists.Given as goal

-- those of the symbols so far
abbrev pub invariant-loop-symbol : goal.invariant-loop-symbol
invariant-loop-symbol l =
    l.text.items ≡ l.fn.text.items ++ flat_map (shown_list l.selection l.world.0) (borrowed_symbols (take l.symbol-index l.symbols))
