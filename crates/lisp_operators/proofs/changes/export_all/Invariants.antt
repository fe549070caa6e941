use Rattle.std.proofs.Common.{◌≡◌, Ok, map, take}
use Rattle.plist_state.specs.Changes.{with_packages}
use Rattle.lisp_operators.specs.Members.{symbol_of_member}
use Rattle.lisp_operators.specs.Packages.{after_exports}
use Rattle.lisp_operators.proofs.changes.export_all.Given as goal

abbrev pub invariant-loop-symbol : goal.invariant-loop-symbol
invariant-loop-symbol l = record {
  so_far : after_exports l.fn.world.0.packages l.owner (map symbol_of_member (take l.symbol-index l.symbols)) ≡ Ok (l.world.0.packages, l.wrote);
  rest : l.world ≡ (with_packages l.fn.world.0 l.world.0.packages, l.fn.world.1);
}
