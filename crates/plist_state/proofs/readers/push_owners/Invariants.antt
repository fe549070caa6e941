use Rattle.std.proofs.Common.{◌≡◌, ◌++◌, map, filter, is_some}
use Rattle.package_table.specs.Numbers.{table_now}
use Rattle.package_table.specs.Readers.{own_names}
use Rattle.plist_state.specs.Lists.{property_list_of}
use Rattle.plist_state.specs.Views.{lists_in}
use Rattle.plist_state.proofs.readers.push_owners.Given as goal

-- the symbols so far, and those to come
abbrev pub invariant-loop-name : goal.invariant-loop-name
invariant-loop-name l =
    map (λ s. (s.0.now, s.1.now)) l.symbols.items
    ++ filter (λ x. is_some (property_list_of (table_now l.packages) (lists_in l.rows.items) x)) (map (λ n. (l.home, n.now)) l.name-iterator.rest.items)
    ≡ map (λ s. (s.0.now, s.1.now)) l.initial.symbols.items
    ++ filter (λ x. is_some (property_list_of (table_now l.packages) (lists_in l.rows.items) x)) (map (λ n. (l.home, n)) (own_names l.packages.0 l.home))
