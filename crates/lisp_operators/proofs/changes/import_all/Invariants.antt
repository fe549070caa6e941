use Rattle.std.proofs.Common.{◌≡◌, Ok, map, take, All}
use Rattle.plist_state.specs.Changes.{with_packages}
use Rattle.plist_state.specs.Sound.{IsSymbol}
use Rattle.lisp_operators.specs.Members.{symbol_of_member}
use Rattle.lisp_operators.specs.Packages.{after_imports}
use Rattle.lisp_operators.proofs.changes.import_all.Given as goal

abbrev pub invariant-loop-symbol : goal.invariant-loop-symbol
invariant-loop-symbol l = record {
  so_far : after_imports l.fn.world.0.packages l.owner (map symbol_of_member (take l.symbol-index l.symbols)) ≡ Ok (l.world.0.packages, l.wrote);
  rest : l.world ≡ (with_packages l.fn.world.0 l.world.0.packages, l.fn.world.1);
  there : All (λ d. IsSymbol l.world.0.packages (symbol_of_member d)) l.symbols;
}
