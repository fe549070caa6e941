use Rattle.std.proofs.Common.{◌≡◌, not, map, filter, take}
use Rattle.std.specs.Str.{bytes_eq}
use Rattle.package_table.specs.Table.{common_lisp}
use Rattle.world_text.proofs.package_rows.but_common_lisp.Given as goal

-- those of the names so far
abbrev pub invariant-loop-name : goal.invariant-loop-name
invariant-loop-name l = map (λ n. n.now) l.others.items ≡ filter (λ n. not (bytes_eq n common_lisp)) (take l.name-index l.names)
