use Rattle.std.proofs.Common.{◌≡◌, ◌++◌, codes, take}
use Rattle.std.specs.List.{flat_map}
use Rattle.package_table.specs.Table.{common_lisp_user}
use Rattle.canon_printer.specs.Printed.{printed}
use Rattle.plist_state.specs.Changes.{plist}
use Rattle.world_text.specs.Snapshot.{plist_object}
use Rattle.world_text.proofs.property_texts.push_others.Given as goal

-- the rows of the symbols so far
abbrev pub invariant-loop-symbol : goal.invariant-loop-symbol
invariant-loop-symbol l = l.text.items
    ≡ l.fn.text.items ++ flat_map (λ s. codes " " ++ printed l.world.0.packages common_lisp_user (plist_object (s.0.now, s.1.now) (plist l.world.0 (s.0.now, s.1.now)))) (take l.symbol-index l.symbols)
