use Rattle.std.proofs.Common.{◌≡◌, ◌++◌, codes, take}
use Rattle.std.specs.List.{flat_map}
use Rattle.package_table.specs.Table.{common_lisp_user}
use Rattle.canon_printer.specs.Printed.{printed}
use Rattle.world_text.specs.KeptNames.{kept_names}
use Rattle.world_text.specs.Snapshot.{package_with}
use Rattle.world_text.proofs.package_rows.push_later.Given as goal

-- the packages so far
abbrev pub invariant-loop-name : goal.invariant-loop-name
invariant-loop-name g l = l.text.items
    ≡ l.fn.text.items ++ flat_map (λ n. codes " " ++ printed l.packages.0 common_lisp_user (package_with l.packages.0 n.now (kept_names (g.T.NameTest.keeps l.test) l.packages.0 n.now))) (take l.name-index l.names)
