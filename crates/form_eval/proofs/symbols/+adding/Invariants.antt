use Rattle.std.proofs.Common.{◌≡◌, ◌++◌, take, map}
use Rattle.std.specs.List.{flat_map}
use Rattle.lisp_object.specs.Datum.{object_of}
use Rattle.package_table.specs.Symbols.{symbols}
use Rattle.form_eval.proofs.symbols.+adding.Given as goal

-- those of the items so far
abbrev pub invariant-add_all-loop-item : goal.invariant-add_all-loop-item
invariant-add_all-loop-item l =
    map (λ p. (p.0.now, p.1.now)) l.found.items ≡ map (λ p. (p.0.now, p.1.now)) l.initial.found.items ++ flat_map (λ d. symbols (object_of d)) (take l.item-index l.items)
