use Rattle.std.proofs.Common.{◌≡◌, ◌++◌, Bor, List, [], ◌∷◌, map, filter, is_some, refl, ap, ◌∙◌}
use Rattle.package_table.specs.Table.{Name}
use Rattle.package_table.specs.Numbers.{table_now}
use Rattle.plist_state.specs.Properties.{Symbol}
use Rattle.plist_state.specs.Lists.{property_list_of}
use Rattle.plist_state.specs.Views.{lists_of}
use Rattle.plist_state.proofs.readers.push_owners.Goals as goal

pub loop-name-init : goal.loop-name-init
loop-name-init c =
    let s = table_now c.args.packages.now in
    let home : Name = c.args.home.now in
    let all = c.into_iter-name-iterator.ensures.into_iter_gives in
    ap (λ xs. map {B = Symbol} (λ s. (s.0.now, s.1.now)) c.args.symbols.now.items ++ filter (λ x. is_some (property_list_of s (lists_of c.args.rows.now) x)) xs)
    (ap (λ (ns : List (Bor Name)). map {B = Symbol} (λ n. (home, n.now)) ns) all.0 ∙ pairs home c.in-Ok.names.items ∙ ap (map {B = Symbol} (λ n. (home, n))) c.in-Ok.ensures.list)
  where
    pairs : (h : Name) (ns : List (Bor Name)) → map {B = Symbol} (λ n. (h, n.now)) ns ≡ map (λ n. (h, n)) (map (λ n. n.now) ns)
    pairs h [] = refl
    pairs h (n ∷ ns) = ap (λ ps. (h, n.now) ∷ ps) (pairs h ns)
