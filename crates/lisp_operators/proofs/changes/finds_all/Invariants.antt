use Rattle.std.proofs.Common.{◌≡◌, map, drop}
use Rattle.std.specs.List.{list_all}
use Rattle.package_table.specs.Changes.{finds_this}
use Rattle.lisp_operators.specs.Members.{symbol_of_member}
use Rattle.lisp_operators.proofs.changes.finds_all.Given as goal

abbrev pub invariant-loop-symbol : goal.invariant-loop-symbol
invariant-loop-symbol l =
    list_all (λ y. finds_this l.packages.0 l.owner y.0 y.1) (map symbol_of_member l.symbols) ≡ list_all (λ y. finds_this l.packages.0 l.owner y.0 y.1) (map symbol_of_member (drop l.symbol-index l.symbols))
