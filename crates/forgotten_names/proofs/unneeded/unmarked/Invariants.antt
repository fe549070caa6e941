use Rattle.std.proofs.Common.{◌≡◌, ◌++◌, ◌||◌, not, map, filter}
use Rattle.std.specs.List.{flat_map}
use Rattle.package_table.specs.Lookup.{is_external}
use Rattle.package_table.specs.Numbers.{table_now}
use Rattle.package_table.specs.Readers.{own_names}
use Rattle.plist_state.specs.Lists.{symbols}
use Rattle.forgotten_names.specs.Marks.{is_marked}
use Rattle.forgotten_names.proofs.unneeded.unmarked.Given as goal

-- the symbols so far, and those to come
abbrev pub invariant-loop-home : goal.invariant-loop-home
invariant-loop-home l =
    map (λ s. (s.0.now, s.1.now)) l.found.items
    ++ filter (λ x. not (is_external l.packages.0 x.0 x.1 || is_marked (table_now l.packages) l.marks x)) (flat_map (λ p. map (λ n. (p, n)) (own_names l.packages.0 p)) (map (λ h. h.now) l.home-iterator.rest.items))
    ≡ filter (λ x. not (is_external l.packages.0 x.0 x.1 || is_marked (table_now l.packages) l.marks x)) (symbols l.packages.0)
