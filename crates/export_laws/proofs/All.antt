-- The forms of all properties make the property lists, each in its order.
--     properties_made      from a state without properties on
--     listed, all_listed_in      the lists one after the other; all_may_be: each may be one
use Rattle.std.proofs.Common.{◌≡◌, ℕ, zero, suc, ◌+◌, ◌<◌, ◌||◌, true, List, [], ◌∷◌, ◌++◌, length, map, drop, Option, Some, None, Ok, Err, refl, sym, ap, subst, ◌∙◌, arith}
use Rattle.std.specs.Prelude.{All, slice_index_or, unwrap_or, IsTrue, is_some}
use Rattle.std.specs.List.{flat_map, list_any}
use Rattle.std.specs.Cmp.{eq_by_cmp_equiv}
use Rattle.std.specs.FinMap as finite
use Rattle.std.specs.FinMap.{contains_key-keys}
use Rattle.std.specs.Ordering.{eq_by_cmp}
use Rattle.std.proofs.lemmas.Bool.{or_right}
use Rattle.std.proofs.lemmas.List.Elements.{All-cons, All-head, All-nil, All-tail}
use Rattle.lisp_object.specs.Object.{Object}
use Rattle.lisp_operators.specs.Evaluation.{Evaluation}
use Rattle.package_table.specs.Table as packages
use Rattle.package_table.specs.Table.{Name}
use Rattle.plist_state.specs.Properties.{Symbol, Plist, Properties, list_at, symbol_cmp, with_list, with_value}
use Rattle.plist_state.specs.Changes.{plist, with_property}
use Rattle.plist_state.specs.Readers.{symbols_with_properties}
use Rattle.plist_state.specs.Sound.{IsSoundWorldState, IsSymbol, IsPlist, IsValue}
use Rattle.plist_state.specs.State.{WorldState}
use Rattle.plist_state.proofs.Orders.{symbol_total}
use Rattle.snapshot_text.specs.BuiltWorlds.{with_each, built_with_packages, with_properties, built_with_properties}
use Rattle.snapshot_text.specs.Rows.{row_symbol_at, HasRowsUpTo}
use Rattle.snapshot_text.proofs.PropertyParts.{at_first, at_last, each_is_list, next_up_to, row_at}
use Rattle.text_laws.specs.Objects.{property_object}
use Rattle.export_laws.specs.Objects.{after_each, property_objects}
use Rattle.text_laws.proofs.There.{value_there}
use Rattle.text_laws.proofs.One.{property_set}

-- ---- forms, one after the other

module _ (names : List Name) where
  -- what the forms after the first one leave
  abbrev stepped : List Object → Evaluation Object → Option WorldState
  stepped xs (Ok done) = after_each names done.state xs
  stepped xs (Err number) = None

  each_set : (now : WorldState) (x : Symbol) (ps : Plist) (more : List Object) → packages.AreSoundPackages now.packages → IsSymbol now.packages x
      → All (λ p. IsSymbol now.packages p.0) ps → All (λ p. IsValue now.packages p.1) ps
      → after_each names now (map (property_object x) ps ++ more) ≡ after_each names (with_each now x ps) more
  each_set now x [] more sound there indicators values = refl
  each_set now x (p ∷ ps) more sound there indicators values =
      let value = All-head (λ p. IsValue now.packages p.1) p ps values in
      ap (stepped (map (property_object x) ps ++ more))
      (property_set names now sound x p there (All-head (λ p. IsSymbol now.packages p.0) p ps indicators) (value_there now.packages p.1 value.symbols))
      ∙ each_set (with_property now x p.0 p.1) x ps more sound there
      (All-tail (λ p. IsSymbol now.packages p.0) p ps indicators) (All-tail (λ p. IsValue now.packages p.1) p ps values)

-- ---- property lists, without the rest of the state

abbrev put : Properties → Symbol → Plist → Properties
put m x [] = m
put m x (p ∷ ps) = put (with_list m x (with_value (list_at m x) p.0 p.1)) x ps

pub each_put : (now : WorldState) (x : Symbol) (ps : Plist) → with_each now x ps ≡ with_properties now (put now.properties x ps)
each_put now x [] = refl
each_put now x (p ∷ ps) = each_put (with_property now x p.0 p.1) x ps

module _ (s : WorldState) where
  -- the lists of these symbols, one after the other
  abbrev pub listed : WorldState → List Symbol → WorldState
  listed now [] = now
  listed now (x ∷ xs) = listed (with_each now x (plist s x)) xs

  abbrev put_all : Properties → List Symbol → Properties
  put_all m [] = m
  put_all m (x ∷ xs) = put_all (put m x (plist s x)) xs

  all_put : (now : WorldState) (xs : List Symbol) → listed now xs ≡ with_properties now (put_all now.properties xs)
  all_put now [] = refl
  all_put now (x ∷ xs) =
      all_put (with_each now x (plist s x)) xs
      ∙ ap (λ (w : WorldState). with_properties w (put_all w.properties xs)) (each_put now x (plist s x))

  -- ---- all lists

  front : (xs : List Symbol) (n : ℕ) (x : Symbol) (ys : List Symbol) → drop n xs ≡ x ∷ ys
      → (slice_index_or xs n ([], []) ≡ x) × (drop (suc n) xs ≡ ys)
  front [] zero x ys e = absurd cc
  front [] (suc n) x ys e = absurd cc
  front (z ∷ zs) zero x ys e = let first : z ≡ x = cc in let later : zs ≡ ys = cc in (first, later)
  front (z ∷ zs) (suc n) x ys e = front zs n x ys e

  module _ (sound : IsSoundWorldState s) where
    from : (n : ℕ) (xs : List Symbol) (now : WorldState) → drop n (symbols_with_properties s) ≡ xs → n + length xs ≡ length (symbols_with_properties s)
        → HasRowsUpTo s n now → listed now xs ≡ built_with_properties s
    from n [] now rest all so_far = at_last s n now so_far (omega (arith, all))
    from n (x ∷ xs) now rest all so_far =
        let few : n < length (symbols_with_properties s) = omega (arith, all) in
        let at = front (symbols_with_properties s) n x xs rest in
        let row = row_at s sound n now so_far few in
        let is : with_each now x (plist s x) ≡ with_properties now (with_list now.properties (row_symbol_at s n) (plist s (row_symbol_at s n))) =
        ap (λ y. with_each now y (plist s y)) (sym at.0) ∙ each_is_list now (row_symbol_at s n) (plist s (row_symbol_at s n)) row.may_be.some row.may_be.apart row.absent in
        let one : n + 1 ≡ suc n = omega arith in
        from (suc n) xs (with_each now x (plist s x)) at.1 (omega (arith, all))
        (subst (λ k. HasRowsUpTo s k (with_each now x (plist s x))) one (next_up_to s sound n now (with_each now x (plist s x)) so_far few is))

    all_listed : put_all finite.empty (symbols_with_properties s) ≡ s.properties
    all_listed =
        let first = built_with_packages s in
        ap (λ (w : WorldState). w.properties) (sym (all_put first (symbols_with_properties s))
        ∙ from 0 (symbols_with_properties s) first refl (omega arith) (at_first s first refl))

    -- ---- the forms of all

    abbrev pub MayBe : Symbol → Type 0
    MayBe x = IsSymbol s.packages x × IsPlist s.packages (plist s x)

    all_set : (names : List Name) (now : WorldState) (xs : List Symbol) → now.packages ≡ s.packages → All MayBe xs
        → after_each names now (flat_map (λ x. map (property_object x) (plist s x)) xs) ≡ Some (listed now xs)
    all_set names now [] same all = refl
    all_set names now (x ∷ xs) same all =
        let one = All-head MayBe x xs all in
        let plist_there = subst (λ u. IsPlist u (plist s x)) (sym same) one.1 in
        let kept : (with_each now x (plist s x)).packages ≡ s.packages = ap (λ (w : WorldState). w.packages) (each_put now x (plist s x)) ∙ same in
        each_set names now x (plist s x) (flat_map (λ x. map (property_object x) (plist s x)) xs) (subst packages.AreSoundPackages (sym same) sound.packages)
        (subst (λ u. IsSymbol u x) (sym same) one.0) plist_there.indicators plist_there.values
        ∙ all_set names (with_each now x (plist s x)) xs kept (All-tail MayBe x xs all)

    has_list : (x : Symbol) → IsTrue (finite.contains_key s.properties x) → finite.get s.properties x ≡ Some (plist s x)
    has_list x there =
        elim (finite.get s.properties x) as (λ o. is_some o ≡ true → o ≡ Some (unwrap_or o [])) [
          | None ↦ λ e. absurd cc
          | Some ps ↦ λ e. refl
        ] there

    every_key : (P : Symbol → Type 0) (xs : List Symbol) → ((x : Symbol) → list_any (eq_by_cmp symbol_cmp x) xs ≡ true → P x) → All P xs
    every_key P [] each = All-nil P
    every_key P (x ∷ xs) each =
        All-cons P x xs (each x (ap (λ b. b || list_any (eq_by_cmp symbol_cmp x) xs) ((eq_by_cmp_equiv symbol_total).refl x)))
        (every_key P xs (λ y there. each y (or_right (eq_by_cmp symbol_cmp y x) _ there)))

    pub all_may_be : All MayBe (symbols_with_properties s)
    all_may_be =
        every_key MayBe (symbols_with_properties s) (λ x there.
        let key : IsTrue (finite.contains_key s.properties x) = contains_key-keys s.properties x ∙ there in
        (sound.symbols x key, sound.properties x (plist s x) (has_list x key)))

    -- the lists of all symbols, in a state that has none
    pub all_listed_in : (now : WorldState) → now.properties ≡ finite.empty → listed now (symbols_with_properties s) ≡ record now { properties = s.properties }
    all_listed_in now none =
        all_put now (symbols_with_properties s) ∙ ap (with_properties now) (ap (λ (m : Properties). put_all m (symbols_with_properties s)) none ∙ all_listed)

    pub properties_made : (names : List Name) (now : WorldState) → now.packages ≡ s.packages → now.properties ≡ finite.empty
        → after_each names now (property_objects s) ≡ Some (record now { properties = s.properties })
    properties_made names now same none =
        all_set names now (symbols_with_properties s) same all_may_be
        ∙ ap (λ (w : WorldState). Some w) (all_listed_in now none)
