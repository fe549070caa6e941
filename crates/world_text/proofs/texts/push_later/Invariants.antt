use Rattle.std.proofs.Common.{◌≡◌, ◌++◌, codes, take}
use Rattle.std.specs.List.{flat_map}
use Rattle.lisp_object.specs.Object as object
use Rattle.package_table.specs.Table.{common_lisp_user}
use Rattle.canon_printer.specs.Printed.{printed}
use Rattle.world_text.proofs.texts.push_later.Given as goal

-- the texts so far
abbrev pub invariant-loop-name : goal.invariant-loop-name
invariant-loop-name l = l.text.items
    ≡ l.fn.text.items ++ flat_map (λ n. codes " " ++ printed l.packages.0 common_lisp_user (object.text n.now)) (take l.name-index l.names)
