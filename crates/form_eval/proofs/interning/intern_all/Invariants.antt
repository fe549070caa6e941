use Rattle.std.proofs.Common.{◌≡◌, false, Ok, map, take}
use Rattle.package_table.specs.Changes.{intern_changes}
use Rattle.plist_state.specs.Changes.{with_packages}
use Rattle.lisp_operators.specs.Packages.{one_by_one}
use Rattle.form_eval.specs.Acceptance.{after_symbol_interned}
use Rattle.form_eval.proofs.interning.intern_all.Given as goal

abbrev pub invariant-loop-symbol : goal.invariant-loop-symbol
invariant-loop-symbol l = record {
  so_far : one_by_one after_symbol_interned (λ u y. intern_changes u y.0 y.1) l.fn.world.0.packages false (map (λ p. (p.0.now, p.1.now)) (take l.symbol-index l.symbols)) ≡ Ok (l.world.0.packages, l.wrote);
  rest : l.world ≡ (with_packages l.fn.world.0 l.world.0.packages, l.fn.world.1);
}
