use Rattle.std.proofs.Common.{◌≡◌, ◌++◌, map, filter, is_some}
use Rattle.std.specs.List.{flat_map}
use Rattle.package_table.specs.Numbers.{table_now}
use Rattle.package_table.specs.Readers.{own_names}
use Rattle.plist_state.specs.Lists.{symbols, property_list_of}
use Rattle.plist_state.specs.Views.{lists_in}
use Rattle.plist_state.proofs.readers.owners.Given as goal

-- the symbols so far, and those to come
abbrev pub invariant-loop-home : goal.invariant-loop-home
invariant-loop-home l =
    map (λ s. (s.0.now, s.1.now)) l.symbols.items
    ++ filter (λ x. is_some (property_list_of (table_now l.packages) (lists_in l.rows.items) x)) (flat_map (λ p. map (λ n. (p, n)) (own_names l.packages.0 p)) (map (λ h. h.now) l.home-iterator.rest.items))
    ≡ filter (λ x. is_some (property_list_of (table_now l.packages) (lists_in l.rows.items) x)) (symbols l.packages.0)
