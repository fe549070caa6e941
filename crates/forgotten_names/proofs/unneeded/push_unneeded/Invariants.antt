use Rattle.std.proofs.Common.{◌≡◌, ◌++◌, ◌||◌, not, map, filter}
use Rattle.package_table.specs.Lookup.{is_external}
use Rattle.package_table.specs.Numbers.{table_now}
use Rattle.package_table.specs.Readers.{own_names}
use Rattle.forgotten_names.specs.Marks.{is_marked}
use Rattle.forgotten_names.proofs.unneeded.push_unneeded.Given as goal

-- the symbols so far, and those to come
abbrev pub invariant-loop-name : goal.invariant-loop-name
invariant-loop-name l =
    map (λ s. (s.0.now, s.1.now)) l.found.items
    ++ filter (λ x. not (is_external l.packages.0 x.0 x.1 || is_marked (table_now l.packages) l.marks x)) (map (λ n. (l.home, n.now)) l.name-iterator.rest.items)
    ≡ map (λ s. (s.0.now, s.1.now)) l.initial.found.items
    ++ filter (λ x. not (is_external l.packages.0 x.0 x.1 || is_marked (table_now l.packages) l.marks x)) (map (λ n. (l.home, n)) (own_names l.packages.0 l.home))
