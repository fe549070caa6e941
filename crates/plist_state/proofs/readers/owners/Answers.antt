use Rattle.std.proofs.Common.{◌≡◌, ◌++◌, ◌∙◌, Bor, List, [], ◌∷◌, length, refl, ap, sym, map, filter, is_some, append-nil, arith}
use Rattle.std.specs.List.{flat_map}
use Rattle.package_table.specs.Table.{Name}
use Rattle.package_table.specs.Numbers.{table_now}
use Rattle.package_table.specs.Readers.{own_names}
use Rattle.plist_state.specs.Properties.{Symbol}
use Rattle.plist_state.specs.Lists.{property_list_of}
use Rattle.plist_state.specs.Views.{lists_of}
use Rattle.plist_state.proofs.Listed.{lists_keys}
use Rattle.plist_state.proofs.readers.owners.Goals as goal

pub returns : goal.returns
returns c =
    let s = table_now c.args.packages.now in
    let left : List (Bor Name) = c.loop-home.home-iterator.rest.items in
    let none : left ≡ [] = no_items left (sym c.loop-home.home-iterator.rest.ok.0 ∙ c.in-None.ensures.steps.0) in
    let so_far : List Symbol = map (λ s. (s.0.now, s.1.now)) c.loop-home.symbols.items in
    sym (append-nil so_far)
    ∙ ap (λ (hs : List (Bor Name)). so_far ++ filter (λ x. is_some (property_list_of s (lists_of c.args.rows.now) x)) (flat_map (λ p. map (λ n. (p, n)) (own_names s.0 p)) (map (λ h. h.now) hs))) (sym none)
    ∙ c.loop-home.invariant ∙ sym (lists_keys s (lists_of c.args.rows.now))
  where
    no_items : (xs : List (Bor Name)) → length xs ≡ 0 → xs ≡ []
    no_items [] e = refl
    no_items (x ∷ xs) e = absurd (omega (arith, e))
