use Rattle.std.proofs.Common.{◌≡◌, ◌||◌, ◌++◌, ◌∷◌, [], Bool, false, Option, None, Some, Bor, List, map, refl, ap, ◌∙◌}
use Rattle.std.specs.Prelude.{slice_index_or}
use Rattle.std.specs.List.{flat_map}
use Rattle.std.specs.Option.{option_map_or}
use Rattle.package_table.specs.Numbers.{Numbered, table_now, number_of}
use Rattle.package_table.specs.Readers.{imports, package_names}
use Rattle.package_table.specs.Table.{Name}
use Rattle.plist_state.specs.Changes.{plist}
use Rattle.plist_state.specs.Properties.{Symbol}
use Rattle.plist_state.specs.Readers.{borrowed_symbol, borrowed_symbols}
use Rattle.forgotten_names.specs.Marks.{is_marked}
use Rattle.forgotten_names.specs.NeededSymbols.{plist_symbols, property_symbols, stands_among}
use Rattle.forgotten_names.proofs.unneeded.needed_marks.Goals as goal

none_marked : (s : Numbered) (x : Symbol) → is_marked s [] x ≡ false
none_marked s x = elim (number_of s x.0 x.1) as (λ o. option_map_or (λ i. slice_index_or {A = Bool} [] i false) o false ≡ false) [ None ↦ refl | Some i ↦ refl ]

through : {A B : Type 0} (f : A → B) (g : B → List Symbol) (xs : List A) → flat_map (λ x. g (f x)) xs ≡ flat_map g (map f xs)
through f g [] = refl
through f g (x ∷ xs) = ap (λ ys. g (f x) ++ ys) (through f g xs)

pub returns : goal.returns
returns c =
    let s = table_now c.args.packages.now in
    let world = c.args.world.now.0 in
    let of_owner : Symbol → List Symbol = λ x. x ∷ plist_symbols (plist world x) in
    let of_package : Name → List Symbol = λ p. map (λ r. (r.1, r.0)) (imports s.0 p) in
    let with_held = c.mark_all.new.marks.items in
    let with_owners = c.mark_owners.new.marks.items in
    let owners_are : flat_map (λ o. of_owner (borrowed_symbol o)) c.as_slice.result.now ≡ property_symbols world.properties =
    ap (flat_map (λ o. of_owner (borrowed_symbol o))) c.as_slice.ensures.value ∙ through borrowed_symbol of_owner c.in_ok-owners.owners.items ∙ ap (flat_map of_owner) c.in_ok-owners.ensures in
    let homes_are : flat_map (λ (p : Bor Name). of_package p.now) c.as_slice-2.result.now ≡ flat_map of_package (package_names s.0) =
    ap (flat_map (λ (p : Bor Name). of_package p.now)) c.as_slice-2.ensures.value ∙ through (λ (p : Bor Name). p.now) of_package c.in_ok-homes.homes.items ∙ ap (flat_map of_package) c.in_ok-homes.ensures in
    record {
      marked = λ x there.
          let first : is_marked s c.new-marks.result.items x ≡ false = ap (λ ms. is_marked s ms x) c.new-marks.ensures.items ∙ none_marked s x in
          c.in_ok-mark_all_imports.ensures.marked x there
          ∙ ap (λ l. stands_among x l || is_marked s with_owners x) homes_are
          ∙ ap (λ m. stands_among x (flat_map of_package (package_names s.0)) || m)
          (c.in_ok-mark_owners.ensures.marked x there
          ∙ ap (λ l. stands_among x l || is_marked s with_held x) owners_are
          ∙ ap (λ m. stands_among x (property_symbols world.properties) || m)
          (c.in_ok-mark_all.ensures.marked x there ∙ ap (λ m. stands_among x (borrowed_symbols c.args.held.now) || m) first));
    }
