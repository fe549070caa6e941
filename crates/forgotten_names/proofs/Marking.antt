-- Marks of symbols: none, those of one symbol, and those of some and then of others.
--     marked_none, marked_absent, marked_one, marked_both
--     marked_next, marked_more      in a loop
use Rattle.std.proofs.Common.{◌≡◌, ◌<◌, ℕ, Bool, true, false, ◌||◌, ◌==◌, Option, None, Some, List, [], ◌∷◌, ◌++◌, refl, sym, ap, subst, ◌∙◌, eqb-true, eq-eqb, inl, inr, get_or, length, map, take, ◌+◌, append-nil}
use Rattle.std.specs.Prelude.{slice_index_or, is_some}
use Rattle.std.specs.Cmp.{both_ways}
use Rattle.std.specs.List.{flat_map}
use Rattle.std.specs.Option.{option_map_or}
use Rattle.std.proofs.lemmas.Bool.{false≢true, false_from_ne_true, or_left, or_cases}
use Rattle.std.proofs.lemmas.List.{map_more, take_more}
use Rattle.std.proofs.lemmas.List.Concat.{flat_map-append}
use Rattle.std.proofs.lemmas.List.Folds.{list_any-append}
use Rattle.package_table.specs.Numbers.{Numbered, number_of}
use Rattle.package_table.specs.Numbering.{AreSymbolsNumbered}
use Rattle.package_table.proofs.Names.{same_some, none_some}
use Rattle.package_table.proofs.Numbered.{number_some, number_apart}
use Rattle.plist_state.specs.Properties.{Symbol, same_symbol}
use Rattle.plist_state.specs.Sound.{IsSymbol}
use Rattle.plist_state.proofs.Orders.{one_symbol, symbol_tied}
use Rattle.forgotten_names.specs.NeededSymbols.{stands_among}
use Rattle.forgotten_names.specs.Marks.{is_marked, AddsMarks}

pub marked_none : (s : Numbered) (a : List Bool) → AddsMarks s a a []
marked_none s a = record { marked = λ x there. refl }

joined : (p q m : Bool) → (q || (p || m)) ≡ ((p || q) || m)
joined true true m = refl
joined true false m = refl
joined false true m = refl
joined false false m = refl

pub marked_both : (s : Numbered) (a b c : List Bool) (xs ys : List Symbol) → AddsMarks s a b xs → AddsMarks s b c ys → AddsMarks s a c (xs ++ ys)
marked_both s a b c xs ys first then = record {
  marked = λ x there.
      then.marked x there
      ∙ ap (λ m. stands_among x ys || m) (first.marked x there)
      ∙ joined (stands_among x xs) (stands_among x ys) (is_marked s a x)
      ∙ ap (λ t. t || is_marked s a x) (sym (list_any-append (same_symbol x) xs ys));
}

-- one symbol, in a list of one
only : (x y : Symbol) → stands_among x (y ∷ []) ≡ true → x ≡ y
only x y is =
    elim (or_cases (same_symbol x y) false is) [
      | inl tied ↦ one_symbol x y tied
      | inr wrong ↦ absurd (false≢true wrong)
    ]

module _ (s : Numbered) (count : ℕ) (numbered : AreSymbolsNumbered s count) (y : Symbol) where
  pub marked_absent : (a : List Bool) → number_of s y.0 y.1 ≡ None → AddsMarks s a a (y ∷ [])
  marked_absent a none = record {
    marked = λ x there.
        let i = number_some s count numbered x.0 x.1 there in
        let other : stands_among x (y ∷ []) ≡ false =
        false_from_ne_true (stands_among x (y ∷ [])) (λ is. none_some i.0 (sym none ∙ ap (λ (z : Symbol). number_of s z.0 z.1) (sym (only x y is)) ∙ i.1)) in
        ap (λ t. t || is_marked s a x) (sym other);
  }

  pub marked_one : (j : ℕ) (a b : List Bool) → number_of s y.0 y.1 ≡ Some j → ((i : ℕ) → slice_index_or b i false ≡ (i == j || slice_index_or a i false)) → AddsMarks s a b (y ∷ [])
  marked_one j a b is set = record {
    marked = λ x there.
        let i = number_some s count numbered x.0 x.1 there in
        let now : is_marked s b x ≡ slice_index_or b i.0 false = ap (λ o. option_map_or (λ i. slice_index_or b i false) o false) i.1 in
        let was : is_marked s a x ≡ slice_index_or a i.0 false = ap (λ o. option_map_or (λ i. slice_index_or a i false) o false) i.1 in
        let same : (i.0 == j) ≡ stands_among x (y ∷ []) =
        both_ways (i.0 == j) (stands_among x (y ∷ []))
        (λ e.
        let apart = number_apart s count numbered x.0 x.1 y.0 y.1 i.0 i.1 (is ∙ ap (λ n. Some n) (sym (eqb-true i.0 j e))) in
        let one : x ≡ y = λ k. (apart.0 k, apart.1 k) in
        subst (λ (z : Symbol). stands_among x (z ∷ []) ≡ true) one (or_left (same_symbol x x) false (symbol_tied x)))
        (λ among. eq-eqb i.0 j (same_some i.0 j (sym i.1 ∙ ap (λ (z : Symbol). number_of s z.0 z.1) (only x y among) ∙ is))) in
        now ∙ set i.0 ∙ ap (λ t. t || slice_index_or a i.0 false) same ∙ ap (λ m. stands_among x (y ∷ []) || m) (sym was);
  }

-- ---- one more, in a loop

pub marked_next : {X : Type 0} (s : Numbered) (a b c : List Bool) (f : X → Symbol) (xs : List X) (i : ℕ) (d : X) → i < length xs
    → AddsMarks s a b (map f (take i xs)) → AddsMarks s b c (f (get_or xs i d) ∷ []) → AddsMarks s a c (map f (take (i + 1) xs))
marked_next s a b c f xs i d within so_far one =
    subst (AddsMarks s a c) (sym (map_more f xs i d within)) (marked_both s a b c (map f (take i xs)) (f (get_or xs i d) ∷ []) so_far one)

pub marked_more : {X : Type 0} (s : Numbered) (a b c : List Bool) (g : X → List Symbol) (xs : List X) (i : ℕ) (d : X) → i < length xs
    → AddsMarks s a b (flat_map g (take i xs)) → AddsMarks s b c (g (get_or xs i d)) → AddsMarks s a c (flat_map g (take (i + 1) xs))
marked_more s a b c g xs i d within so_far one =
    subst (AddsMarks s a c)
    (sym (
    ap (flat_map g) (take_more xs i d within)
    ∙ flat_map-append g (take i xs) (get_or xs i d ∷ [])
    ∙ ap (λ ys. flat_map g (take i xs) ++ ys) (append-nil (g (get_or xs i d)))))
    (marked_both s a b c (flat_map g (take i xs)) (g (get_or xs i d)) so_far one)
