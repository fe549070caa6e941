use Rattle.std.proofs.Common.{◌≡◌, map, drop, bytes_eq}
use Rattle.std.specs.List.{list_any}
use Rattle.package_table.specs.Table.{full_name, keyword}
use Rattle.lisp_operators.specs.Members.{name_in}
use Rattle.lisp_operators.proofs.package_lists.has_keyword.Given as goal

abbrev pub invariant-loop-name : goal.invariant-loop-name
invariant-loop-name l = list_any (bytes_eq keyword) (map (λ d. full_name (name_in d)) l.names) ≡ list_any (bytes_eq keyword) (map (λ d. full_name (name_in d)) (drop l.name-index l.names))
