use Rattle.std.proofs.Common.{◌≡◌, ◌++◌, ◌||◌, ◌∙◌, Bor, List, [], ◌∷◌, length, not, refl, ap, sym, map, filter, append-nil, arith}
use Rattle.std.specs.List.{flat_map}
use Rattle.package_table.specs.Lookup.{is_external}
use Rattle.package_table.specs.Table.{Name}
use Rattle.package_table.specs.Numbers.{table_now}
use Rattle.package_table.specs.Readers.{own_names}
use Rattle.plist_state.specs.Properties.{Symbol}
use Rattle.forgotten_names.specs.Marks.{is_marked}
use Rattle.forgotten_names.proofs.unneeded.unmarked.Goals as goal

pub returns : goal.returns
returns c =
    let s = table_now c.args.packages.now in
    let left : List (Bor Name) = c.loop-home.home-iterator.rest.items in
    let none : left ≡ [] = no_items left (sym c.loop-home.home-iterator.rest.ok.0 ∙ c.in-None.ensures.steps.0) in
    let so_far : List Symbol = map (λ s. (s.0.now, s.1.now)) c.loop-home.found.items in
    sym (append-nil so_far)
    ∙ ap (λ (hs : List (Bor Name)). so_far ++ filter (λ x. not (is_external s.0 x.0 x.1 || is_marked s c.args.marks.now x)) (flat_map (λ p. map (λ n. (p, n)) (own_names s.0 p)) (map (λ h. h.now) hs))) (sym none)
    ∙ c.loop-home.invariant
  where
    no_items : (xs : List (Bor Name)) → length xs ≡ 0 → xs ≡ []
    no_items [] e = refl
    no_items (x ∷ xs) e = absurd (omega (arith, e))
