use Rattle.std.proofs.Common.{◌≡◌, Ok, map, take}
use Rattle.package_table.specs.Table.{full_name}
use Rattle.plist_state.specs.Changes.{with_packages}
use Rattle.lisp_operators.specs.Members.{name_in}
use Rattle.lisp_operators.specs.Packages.{after_uses}
use Rattle.lisp_operators.proofs.changes.use_each.Given as goal

abbrev pub invariant-loop-package : goal.invariant-loop-package
invariant-loop-package l = record {
  so_far : after_uses l.fn.world.0.packages l.owner (map (λ d. full_name (name_in d)) (take l.package-index l.used)) ≡ Ok (l.world.0.packages, l.wrote);
  rest : l.world ≡ (with_packages l.fn.world.0 l.world.0.packages, l.fn.world.1);
}
